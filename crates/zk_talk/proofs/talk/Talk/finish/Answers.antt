use Rattle.std.proofs.Common.{◌≡◌, ◌<◌, ◌∙◌, arith}
use Rattle.std.proofs.lemmas.List.{nil_from_length}
use Rattle.zk_talk.specs.contracts.talk.Talk.{the_view}
use Rattle.zk_talk.proofs.{Endings.ends_unwelcomed, Endings.ends_whole, talk.Talk.finish.Goals.else-count-gt0-via-then-count-gt0+else-count-eq0, talk.Talk.finish.Goals.else-count-gt0-via-else-count-gt0}
use Rattle.zk_talk.proofs.talk.Talk.finish.Goals as goal

pub overflow_add-result : goal.overflow_add-result
overflow_add-result c = omega (arith, c.count-asks.ensures.within, c.self.invariant.2, c.self.inside.limits.in_range)

pub returns-then-count-eq0-clause-stands : goal.returns-then-count-eq0-clause-stands
returns-then-count-eq0-clause-stands c =
    let T = the_view c.self.inside in
    let a = nil_from_length c.self.inside.client.held (omega (arith, c.held-got.ensures.count, c.if-got-gt0.false)) in
    let b = nil_from_length c.self.inside.server.held (omega (arith, c.held-got-2.ensures.count, c.if-got-gt0-2.false)) in
    rw (← c.self.view_is) (λ h M st. ends_unwelcomed T h M st a b c.count-asks.result c.count-asks.ensures.value (omega (arith, c.if-count-gt0.true, c.count.ensures)) (omega (arith, c.if-count-eq0.true, c.count-then-count-gt0.ensures)))

pub returns-else-count-gt0-clause-stands : goal.returns-else-count-gt0-clause-stands
returns-else-count-gt0-clause-stands c =
    let T = the_view c.self.inside in
    let a = nil_from_length c.self.inside.client.held (omega (arith, c.held-got.ensures.count, c.if-got-gt0.false)) in
    let b = nil_from_length c.self.inside.server.held (omega (arith, c.held-got-2.ensures.count, c.if-got-gt0-2.false)) in
    let none : 0 < c.self.inside.client.count → c.self.inside.server.count ≡ 0 → ⊥ =
    elim c.else-count-gt0.branch [ else-count-gt0-via-then-count-gt0+else-count-eq0 w ↦ λ p q. w.if-count-eq0.false (w.count-then-count-gt0.ensures ∙ q) | else-count-gt0-via-else-count-gt0 w ↦ λ p q. omega (arith, p, w.if-count-gt0.false, c.count.ensures) ] in
    rw (← c.self.view_is) (λ h M st. ends_whole T h M st a b c.count-asks.result c.count-asks.ensures.value none)
