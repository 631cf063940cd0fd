-- A side that keeps its frame, and one that doesn't.
use Rattle.std.proofs.Common.{◌≡◌, ◌∙◌, ℕ, List, [], length, refl, sym, ap, arith, Bool, true, false}
use Rattle.zk_frames.specs.Framing.{IsFrame}
use Rattle.zk_frames.proofs.Cuts.{length-frame}
use Rattle.zk_talk.specs.Streams.{StreamState, held_where, kept_where}

-- no frame is empty
pub no_empty_frame : (limit : ℕ) (bytes : List ℕ) → IsFrame limit bytes → bytes ≡ [] → ⊥
no_empty_frame limit bytes whole none = omega (arith, ap length none, ap length whole.1, length-frame whole.0)

-- where what is held is a whole frame none is kept
pub none_kept : (b : Bool) (limit : ℕ) (bytes : List ℕ) → IsFrame limit (held_where b bytes) → b ≡ false
none_kept true limit bytes whole = absurd (no_empty_frame limit [] whole refl)
none_kept false limit bytes whole = refl

-- where nothing is kept no frame is
pub nothing_kept : (b : Bool) (limit : ℕ) (bytes : List ℕ) → (b ≡ true → IsFrame limit bytes) → kept_where b bytes ≡ [] → b ≡ false
nothing_kept true limit bytes whole none = absurd (no_empty_frame limit bytes (whole refl) none)
nothing_kept false limit bytes whole none = refl

pub held_all : (b : Bool) (bytes : List ℕ) → b ≡ false → held_where b bytes ≡ bytes
held_all b bytes e = ap (λ (z : Bool). held_where z bytes) e

pub kept_none : (b : Bool) (bytes : List ℕ) → b ≡ false → kept_where b bytes ≡ []
kept_none b bytes e = ap (λ (z : Bool). kept_where z bytes) e

-- such a side holds all its bytes, and of other bytes it keeps nothing either
module _ (b : Bool) (limit : ℕ) (bytes : List ℕ) (whole : b ≡ true → IsFrame limit bytes) (none : kept_where b bytes ≡ []) where
  pub all_held : (now : List ℕ) → now ≡ held_where b now
  all_held now = sym (held_all b now (nothing_kept b limit bytes whole none))

  pub stays_open : (l : ℕ) → l ≡ limit → (now : List ℕ) (count size : ℕ) →
      ◌≡◌ {A = StreamState} (record { limit = l; held = held_where b now; kept = kept_where b now; count = count; size = size }) (record { limit = limit; held = held_where b now; kept = kept_where b bytes; count = count; size = size })
  stays_open l same now count size =
      let open' = nothing_kept b limit bytes whole none in
      let kept = kept_none b now open' ∙ sym (kept_none b bytes open') in
      λ i. record { limit = same i; held = held_where b now; kept = kept i; count = count; size = size }
