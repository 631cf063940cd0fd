-- Bytes that are one frame, and those that are less or more.
use Rattle.std.proofs.Common.{◌≡◌, ℕ, ◌<◌, ◌≤◌, ◌^◌, inl, inr, List, [], ◌++◌, length, take, drop, sym, ap, ◌∙◌, subst, arith, length-drop}
use Rattle.std.proofs.lemmas.List.{append-nil, take_all, take-append-drop, length-take-le}
use Rattle.zk_frames.specs.Framing.{frame, IsFrame, IsBadLength, IsLessOrMore}
use Rattle.zk_frames.proofs.Cuts.{take-frame, same_frame, no_beginning}

module _ (limit : ℕ) (bytes : List ℕ) (small : limit < 2 ^ 31) where
  -- one frame is neither less nor more
  pub one_alone : IsFrame limit bytes → IsLessOrMore limit bytes → ⊥
  one_alone f (inl begin) = no_beginning limit bytes f.0 [] small f.2 begin (f.1 ∙ sym (append-nil (frame f.0)))
  one_alone f (inr m) =
      let q = m.2 in
      let both = ap (λ z. z ++ drop m.0 bytes) (sym q.1) ∙ take-append-drop m.0 bytes ∙ f.1 ∙ sym (append-nil (frame f.0)) in
      let same = same_frame limit q.0 f.0 (drop m.0 bytes) [] small q.2 f.2 both in
      omega (arith, ap length same.1, length-drop m.0 bytes, m.1)

  -- nor is what begins with a length out of range
  pub bad_alone : IsBadLength limit (take 4 bytes) → IsLessOrMore limit bytes → ⊥
  bad_alone bad (inl (inl short)) = omega (arith, bad.0, short, ap length (take_all 4 bytes (omega (arith, short))))
  bad_alone bad (inl (inr w)) = bad.1 w.0 w.2 w.1
  bad_alone bad (inr m) =
      let q = m.2 in
      bad.1 (length q.0) q.2 (ap (take 4) (sym (take-append-drop m.0 bytes) ∙ ap (λ z. z ++ drop m.0 bytes) q.1) ∙ take-frame q.0 (drop m.0 bytes))

  -- the front that a cut took, if it is all
  pub all_one : (used : ℕ) → used ≡ length bytes → IsFrame limit (take used bytes) → IsFrame limit bytes
  all_one used e f = subst (IsFrame limit) (take_all used bytes (omega (arith, e))) f

  -- the length that a cut refused is the first four bytes
  pub four_refused : (used : ℕ) → used ≤ length bytes → IsBadLength limit (take used bytes) → (4 ≤ length bytes) × IsBadLength limit (take 4 bytes)
  four_refused used part bad =
      let n : used ≡ 4 = omega (arith, bad.0, length-take-le used bytes part) in
      (omega (arith, n, part), subst (λ z. IsBadLength limit (take z bytes)) n bad)
