use Rattle.std.proofs.Common.{◌+◌, ◌∙◌, ◌++◌, ℕ, List, length, true, refl, ap, subst}
use Rattle.zk_frames.specs.Framing.{frame}
use Rattle.zk_talk.specs.{declared.limits.Limits.Limits, declared.message.Fault.Fault, History.on, Fault.IsFaultOf, Taking.StepsOn, Streams.passed}
use Rattle.zk_talk.proofs.Small.{small_limits}
use Rattle.zk_through.proofs.{Refusals.exactly, Telling.told_whole, Offering.fits_own, Offering.has_begun}
use Rattle.zk_through.proofs.offer.tell_next.Goals as goal

pub returns-in-Err-clause-told : goal.returns-in-Err-clause-told
returns-in-Err-clause-told c =
    let old = c.args.talk.now in
    let s = c.args.stream.now in
    let side = c.args.side in
    let bytes = c.args.bytes.now in
    let fault = c.in-Err.fault in
    let told = c.next_fault.ensures in
    let w = c.in-Err.ensures.err in (
      λ p is. (
        fault,
        ap (λ (f : Fault). f.place) told,
        ap (λ (f : Fault). f.reason) told,
        λ h M st.
            subst (λ z. IsFaultOf old.limits (h ++ on side z) fault) is
            (subst (λ (l : Limits). IsFaultOf l (h ++ on side bytes) fault) w.1.1 (w.1.2 h M st).is),
      ),
      exactly side s.count (s.size + c.args.used) fault.place fault.reason c.next_fault.result told,
      c.offer.ensures.same (λ e. absurd (cc (e, c.in-Err.is))),
      refl,
    )

pub returns-then-not-took-clause-told : goal.returns-then-not-took-clause-told
returns-then-not-took-clause-told c =
    let old = c.args.talk.now in
    let off = c.if-not-took.true in
    (has_begun c.args.side old c.args.stream.now c.args.bytes.now c.args.used c.requires.limit c.requires.whole c.in-Ok.took off c.in-Ok.ensures.one, c.offer.ensures.same (λ e. absurd (cc (e, off, c.in-Ok.is))), refl)

pub returns-clause-told : goal.returns-clause-told
returns-clause-told c =
    let old = c.args.talk.now in
    let side = c.args.side in
    let bytes = c.args.bytes.now in
    let used = c.args.used in
    let yes = c.if-not-took.false in
    let new = c.offer.new.self in
    let limits = c.offer.ensures.limits in
    let o = c.requires.whole in (
      λ p is.
          told_whole old new p (length (frame p)) limits (small_limits old.limits) side true (fits_own side old c.args.stream.now bytes used c.requires.limit o p is)
          (subst (λ (z : List ℕ). StepsOn old side z (length z) true new) is (c.in-Ok.ensures.taken yes)) (λ e. refl),
      limits,
      c.pass_whole.ensures ∙ ap (λ z. passed z used) c.drop_kept.ensures,
    )
