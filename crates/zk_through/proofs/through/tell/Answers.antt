use Rattle.std.proofs.Common.{◌≡◌, ◌≤◌, ◌∙◌, ◌++◌, ℕ, inr, List, length, false, ap, subst, arith}
use Rattle.zk_frames.proofs.Cuts.{length-frame}
use Rattle.zk_talk.specs.{declared.limits.Limits.Limits, declared.message.Fault.Fault, History.on, Fault.IsFaultOf, Fault.side_limit, Taking.StepsOn}
use Rattle.zk_talk.proofs.Small.{small_limits}
use Rattle.zk_through.proofs.Telling.{told_whole}
use Rattle.zk_through.proofs.through.tell.Goals as goal

pub returns-in-Ok-clause-ok : goal.returns-in-Ok-clause-ok
returns-in-Ok-clause-ok c p is =
    let old = c.args.talk.now in
    let new = c.step.new.self in
    let used = c.in-Ok._stepped.used in
    let whole = c.in-Ok._stepped.whole in
    let e = c.frame.ensures ∙ is in
    let w = c.requires.at.whole in
    let fits : length p ≤ side_limit old.limits c.args.side = omega (arith, length-frame p, length-frame w.0, ap length is, ap length w.1, w.2, c.requires.limit) in
    let steps = subst (λ (z : List ℕ). StepsOn old c.args.side z used whole new) e c.in-Ok.ensures.ok in
    let exact = subst (λ (z : List ℕ). whole ≡ false → used ≡ length z) e c.in-Ok.ensures.exact in
    told_whole old new p used c.in-Ok.ensures.limits (small_limits old.limits) c.args.side whole fits steps exact

pub returns-in-Err-clause-err : goal.returns-in-Err-clause-err
returns-in-Err-clause-err c p is =
    let fault = c.in-Err.fault in
    let e = c.frame.ensures ∙ is in
    let told = (c.refuse.ensures.told c.in-Err.ensures.err.0).0 in (
      fault,
      ap (λ (f : Fault). f.place) told,
      ap (λ (f : Fault). f.reason) told,
      λ h M st.
          subst (λ (z : List ℕ). IsFaultOf c.args.talk.now.limits (h ++ on c.args.side z) fault) e
          (subst (λ (l : Limits). IsFaultOf l (h ++ on c.args.side c.frame.result.now) fault) c.in-Err.ensures.limits (c.in-Err.ensures.err.1 h M st).is),
    )

pub returns-in-Err-clause-waits : goal.returns-in-Err-clause-waits
returns-in-Err-clause-waits c h M st = inr (on c.args.side c.frame.result.now, c.in-Err.fault, c.in-Err.ensures.err.1 h M st)
