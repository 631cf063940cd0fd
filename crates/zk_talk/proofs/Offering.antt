-- What a side does with bytes that are offered.
use Rattle.std.proofs.Common.{◌≡◌, ℕ, ◌+◌, ◌<◌, ◌≤◌, ◌^◌, inl, inr, List, [], ◌++◌, length, take, drop, length-drop, refl, sym, ap, subst, arith}
use Rattle.std.proofs.lemmas.List.{take-append-drop, length-take-le}
use Rattle.zk_jute.specs.declared.fault.Reason.TheVariants.{StreamEnd, LengthRange}
use Rattle.zk_frames.specs.Framing.{IsBeginning, IsFrame, IsBadLength, IsLessOrMore}
use Rattle.zk_frames.proofs.Taking.{frame_front}
use Rattle.zk_talk.specs.{Streams.StreamState, Advance.IsStop.too_many, Advance.IsStop.out_of_range, Offered.IsNotOne, Offered.IsOffered}
use Rattle.zk_talk.specs.declared.stream.Advance.TheVariants.{Refused}

module _ (s : StreamState) (bytes : List ℕ) (none : s.held ≡ []) (only : IsLessOrMore s.limit bytes → ⊥) where
  behind : (part : List ℕ) → part ≡ s.held ++ part
  behind part = ap (λ z. z ++ part) (sym none)

  pub alone : IsNotOne s bytes → ⊥
  alone (inl begun) = begun none
  alone (inr odd) = only odd

  -- the bytes run past the stream's end before they are whole, or refused
  ends : (k : ℕ) → k < length bytes → s.size + k + 1 ≡ 2 ^ 62 → IsBeginning s.limit (take k bytes) → IsOffered s bytes (Refused (k + 1) StreamEnd)
  ends k more full begin = (
    alone,
    s.held ++ take k bytes,
    (too_many k refl more full (subst (IsBeginning s.limit) (behind (take k bytes)) begin) refl refl, omega (arith, more)),
  )

  pub offered_end : (k : ℕ) → k < length bytes → s.size + k + 1 ≡ 2 ^ 62 → IsFrame s.limit bytes → IsOffered s bytes (Refused (k + 1) StreamEnd)
  offered_end k more full f =
      let whole = subst (IsFrame s.limit) (sym (take-append-drop k bytes)) f in
      ends k more full (frame_front s.limit (take k bytes) (drop k bytes) (omega (arith, more, length-drop k bytes)) whole)

  pub offered_early : (k : ℕ) → k < 4 → 4 ≤ length bytes → s.size + k + 1 ≡ 2 ^ 62 → IsOffered s bytes (Refused (k + 1) StreamEnd)
  offered_early k few long full =
      let more : k < length bytes = omega (arith, few, long) in
      ends k more full (inl (omega (arith, few, length-take-le k bytes (omega (arith, more)))))

  pub offered_bad : 4 ≤ length bytes → s.size + 4 < 2 ^ 62 → IsBadLength s.limit (take 4 bytes) → IsOffered s bytes (Refused 4 LengthRange)
  offered_bad long fits bad = (
    alone,
    s.held ++ take 4 bytes,
    (out_of_range (omega arith) long fits (omega (arith, ap length none)) (subst (IsBadLength s.limit) (behind (take 4 bytes)) bad) refl refl, long),
  )
