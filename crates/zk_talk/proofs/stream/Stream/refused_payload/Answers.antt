use Rattle.std.proofs.Common.{◌≡◌, ◌∙◌, sym, ap, subst, length, arith, false}
use Rattle.std.proofs.lemmas.Bool.{false≢true}
use Rattle.zk_frames.specs.Framing.{IsFrame}
use Rattle.zk_talk.proofs.{Bodies.frame_once, Kept.none_kept, Kept.held_all}
use Rattle.zk_talk.proofs.stream.Stream.refused_payload.Goals as goal
use Rattle.zk_talk.proofs.stream.Stream.refused_payload.Goals.{else-not-self-via-then-not-self+else-is_whole, else-not-self-via-else-not-self}

pub returns-then-is_whole : goal.returns-then-is_whole
returns-then-is_whole c =
    let s = c.self.inside in
    let open' : s.kept ≡ false = cc in
    let w = c.is_whole.ensures.0 c.if-is_whole.true in
    let same : c.payload.result.now ≡ w.0 = frame_once c.payload.result.now w.0 (sym c.payload.ensures ∙ w.1) in
    rw (← c.self.view_is) (held_all s.kept s.frames.bytes open' ∙ c.payload.ensures, omega (arith, ap length same, w.2))

pub returns-else-not-self : goal.returns-else-not-self
returns-else-not-self c =
    let s = c.self.inside in
    rw (← c.self.view_is) (λ whole.
    let open' = none_kept s.kept s.frames.limit s.frames.bytes whole in
    elim c.else-not-self.branch [
      | else-not-self-via-then-not-self+else-is_whole w ↦ false≢true (w.if-is_whole.ensures.1 (subst (IsFrame s.frames.limit) (held_all s.kept s.frames.bytes open') whole))
      | else-not-self-via-else-not-self w ↦ false≢true (sym open' ∙ w.if-not-self.false)
    ])
