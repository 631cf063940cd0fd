-- How many bytes of a refused piece end the refused frame.
use Rattle.std.proofs.Common.{◌≡◌, ◌∙◌, ◌+◌, ◌-◌, ℕ, inl, inr, List, ◌++◌, length, take, sym, ap, subst, arith, Some, Bool}
use Rattle.zk_frames.specs.Framing.{frame}
use Rattle.zk_talk.specs.{declared.message.Side.Side, declared.message.Fault.Fault, declared.limits.Limits.Limits, History.side_bytes}
use Rattle.zk_talk.proofs.Stepping.{same_fault}
use Rattle.zk_through.specs.{Came.Came, Runs.ThroughState, Runs.IsWhy, Runs.stream_on}
use Rattle.zk_through.specs.Runs.IsWhy.{stream_end, length_range, unasked, other_turn, told_so}
use Rattle.zk_through.specs.Resumed.{HasNoEnd, EndsFrame}

-- the bytes are a whole frame's, where the refusal is for anything but them
whole_bytes : (limits : Limits) (late : Bool) (came kept : Came) (side : Side) (size : ℕ) (bytes : List ℕ) (f : Fault) → IsWhy limits late came kept side size bytes f.place f.reason → (HasNoEnd f → ⊥) → (q : List ℕ) × (bytes ≡ frame q)
whole_bytes limits late came kept side size bytes f (stream_end a b c) n = absurd (n (inr c))
whole_bytes limits late came kept side size bytes f (length_range a b c) n = absurd (n (inl c))
whole_bytes limits late came kept side size bytes f (unasked a q is b c d e g) n = (q, is)
whole_bytes limits late came kept side size bytes f (other_turn a q is b c x d e g i j) n = (q, is)
whole_bytes limits late came kept side size bytes f (told_so q is a b g c d e i) n = (q, is)

module _ (refused : ThroughState) (f : Fault) (is : refused.fault ≡ Some f) (ends : HasNoEnd f → ⊥) (n : ℕ) (count : n ≡ f.offset - (stream_on f.side refused).size) where
  pub ends_frame : EndsFrame n refused
  ends_frame old side piece g x keeps h c k M r =
      let same : g ≡ f = same_fault g f (sym x.0 ∙ is) in
      let s = x.1 h c k M r in
      let own : f.side ≡ side = ap (λ (z : Fault). z.side) (sym same ∙ s.told) in
      let offset : f.offset ≡ length (side_bytes side h) + s.used = ap (λ (z : Fault). z.offset) (sym same ∙ s.told) in
      let size : (stream_on side refused).size ≡ length (side_bytes side h) = keeps.sizes ∙ r.sizes side in
      let came : n ≡ f.offset - (stream_on side refused).size = count ∙ ap (λ z. f.offset - (stream_on z refused).size) own in
      let used : n ≡ s.used = omega (arith, came, offset, size) in
      let w = whole_bytes old.talk.limits old.late c k side (length (side_bytes side h) + s.used) ((stream_on side old).held ++ take s.used piece) g s.why (λ e. ends (subst HasNoEnd same e)) in
      (omega (arith, used, s.part), w.0, ap (λ z. (stream_on side old).held ++ take z piece) used ∙ w.1)
