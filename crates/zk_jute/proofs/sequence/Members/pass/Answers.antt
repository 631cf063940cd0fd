use Rattle.std.proofs.Common.{◌<◌, sym, ap, ◌∙◌, length, arith}
use Rattle.zk_jute.proofs.Stretches.{first_there, rest_begins, first_shown}
use Rattle.zk_jute.proofs.sequence.Members.pass.Goals as goal

pub pass-mark-requires : goal.pass-mark-requires
pass-mark-requires g c =
    let l = c.self.inside in
    let some : 0 < l.left = omega (arith, c.if-self-eq0.false) in
    let f = first_there g.M.Member.items l.payload.now l.left l.place some c.self.invariant.0 in
    record { place = c.self.invariant.0.0; known = (f.0, f.1, f.2, f.3) }

pub invariant_of-self : goal.invariant_of-self
invariant_of-self g c =
    let m = g.M.Member in
    let l = c.self.inside in
    let x = c.pass-mark in
    let v = x.ensures.value in
    let some : 0 < l.left = omega (arith, c.if-self-eq0.false) in
    let shown = first_shown (m.value l.payload.now) l.left l.place v.0 x.result.1 some v.1 in
    (rest_begins m.items l.payload.now l.left l.place some c.self.invariant.0 x.result.1 x.ensures.only, omega (arith, c.self.invariant.1, ap length shown))

pub returns : goal.returns
returns g c =
    let l = c.self.inside in
    let x = c.pass-mark in
    let v = x.ensures.value in
    let some : 0 < l.left = omega (arith, c.if-self-eq0.false) in
    (v.0, v.2, sym c.self.view_is ∙ first_shown (g.M.Member.value l.payload.now) l.left l.place v.0 x.result.1 some v.1)
