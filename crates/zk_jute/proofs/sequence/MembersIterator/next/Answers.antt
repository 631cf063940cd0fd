use Rattle.std.proofs.Common.{◌<◌, refl, sym, ap, ◌∙◌, length, arith}
use Rattle.zk_jute.proofs.Stretches.{first_there, rest_begins, first_shown}
use Rattle.zk_jute.proofs.sequence.MembersIterator.next.Goals as goal

pub known_in-value-requires : goal.known_in-value-requires
known_in-value-requires g c κs =
    let l = c.self.inside in
    let some : 0 < l.left = omega (arith, c.if-self-eq0.false) in
    let f = first_there g.M.Member.items l.payload.now l.left l.place some c.self.invariant.0 in
    ((refl, tt), (c.self.invariant.0.0, (f.0, f.1, f.2, f.3)))

pub invariant_of-self : goal.invariant_of-self
invariant_of-self g c =
    let m = g.M.Member in
    let l = c.self.inside in
    let x = c.known_in-value in
    let some : 0 < l.left = omega (arith, c.if-self-eq0.false) in
    let shown = first_shown (m.value l.payload.now) l.left l.place x.result.0 x.result.1 some x.ensures.value in
    (rest_begins m.items l.payload.now l.left l.place some c.self.invariant.0 x.result.1 (λ v e have stands. ap (λ z. z.1) (x.ensures.only v e have stands)), omega (arith, c.self.invariant.1, ap length shown))

pub returns-clause-steps : goal.returns-clause-steps
returns-clause-steps g c =
    let l = c.self.inside in
    let x = c.known_in-value in
    let some : 0 < l.left = omega (arith, c.if-self-eq0.false) in
    sym c.self.view_is ∙ first_shown (g.M.Member.value l.payload.now) l.left l.place x.result.0 x.result.1 some x.ensures.value

pub returns-clause-goes : goal.returns-clause-goes
returns-clause-goes g c =
    let steps = returns-clause-steps g c in
    record { on = λ finite. (tt, tt, omega (arith, ap length steps)); keeps = tt; rests = λ finite. tt }
