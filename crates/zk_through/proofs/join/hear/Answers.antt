use Rattle.std.proofs.Common.{◌≡◌, ℕ, List, length, false, subst}
use Rattle.std.specs.Prelude.{IfOk, IfErr}
use Rattle.zk_jute.specs.declared.fault.Reason.TheVariants.{NoMemory}
use Rattle.zk_talk.specs.{Taking.StepsOn, Taking.IsRefused}
use Rattle.zk_through.proofs.Joining.{heard}
use Rattle.zk_through.proofs.join.hear.Goals as goal

pub returns-clause-told : goal.returns-clause-told
returns-clause-told c p is =
    let old = c.args.talk.now in
    let new = c.step-stepped.new.self in
    let side = c.args.side in
    let e = c.step-stepped.ensures in
    heard old new side p c.step-stepped.result e.limits
    (subst (λ (z : List ℕ). IfOk c.step-stepped.result (λ s. StepsOn old side z s.used s.whole new)) is e.ok)
    (subst (λ (z : List ℕ). IfOk c.step-stepped.result (λ s. s.whole ≡ false → s.used ≡ length z)) is e.exact)
    (subst (λ (z : List ℕ). IfErr c.step-stepped.result (λ f. (f.reason ≡ NoMemory → ⊥) × IsRefused old side z f new)) is e.err)
