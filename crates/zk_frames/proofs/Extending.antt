-- A beginning and one byte more: a beginning still, a whole frame, or a bad length.
use Rattle.std.proofs.Common.{◌≡◌, ℕ, zero, suc, ◌+◌, ◌<◌, ◌≤◌, ◌^◌, ◌⊎◌, inl, inr, List, [], ◌∷◌, ◌++◌, length, take, drop, get_or, ℤ, pos, w32, FitsSigned, rules, refl, sym, ap, ◌∙◌, arith, length-append, length-drop}
use Rattle.std.specs.Prelude.{negsuc}
use Rattle.std.specs.Int.{from_be_bytes, cast_signed, cast_unsigned}
use Rattle.std.proofs.{lemmas.Bool.cases_lt, lemmas.Nat.from_be_bytes-to_be_bytes_4, lemmas.Int.to_z-of_z}
use Rattle.std.proofs.lemmas.List.{append-nil, take_all, take-append-le, take-append-drop}
use Rattle.zk_frames.specs.Framing.{int_bytes, frame, IsBeginning, IsFrame, IsBadLength}
use Rattle.zk_frames.proofs.Ints.{bits_fit, four, take-four, int_is}

-- what four bytes are as an int
abbrev number : List ℕ → ℤ
number w = cast_signed w32 (from_be_bytes w32 (four w))

number_is : (w : List ℕ) (m : ℕ) → length w ≡ 4 → m < 2 ^ 31 → w ≡ int_bytes (pos m) → number w ≡ pos m
unfolding int_bytes
number_is w m long small e =
    let fit : FitsSigned w32 (pos m) = search (rules, arith) in
    let bytes : four w ≡ int_bytes (pos m) = sym (take-four w (omega (arith, long))) ∙ take_all 4 w (omega (arith, long)) ∙ e in
    ap (λ (b : List ℕ). cast_signed w32 (from_be_bytes w32 b)) bytes
    ∙ ap (cast_signed w32) (from_be_bytes-to_be_bytes_4 (cast_unsigned w32 (pos m)) (bits_fit (pos m) fit))
    ∙ to_z-of_z w32 (pos m) fit

framed : (w p : List ℕ) → w ≡ int_bytes (pos (length p)) ++ p → w ≡ frame p
unfolding frame
framed w p e = e

module _ (limit : ℕ) (held : List ℕ) (b : ℕ) (small : limit < 2 ^ 31) (bytes : (k : ℕ) → get_or (held ++ b ∷ []) k 0 < 256) where
  abbrev now : List ℕ
  now = held ++ b ∷ []

  abbrev pub Extended : Type 0
  Extended = IsBeginning limit now ⊎ IsFrame limit now ⊎ ((length held < 4) × IsBadLength limit now)

  one_more : length now ≡ length held + 1
  one_more = length-append held (b ∷ [])

  module _ (few : length held < 4) (long : 4 ≤ length now) where
    is_four : length now ≡ 4
    is_four = omega (arith, few, long, one_more)

    whole_take : take 4 now ≡ now
    whole_take = take_all 4 now (omega (arith, is_four))

    sized : (z : ℤ) → number now ≡ z → take 4 now ≡ int_bytes z → Extended
    sized (negsuc k) e at = inr (inr (few, (is_four, λ m le is. no_number k m (sym e ∙ number_is now m is_four (omega (arith, le, small)) is)))) where
      no_number : (k m : ℕ) → negsuc k ≡ pos m → ⊥
      no_number k m q = cc
    sized (pos n) e at = within (cases_lt limit n) where
      same : (m : ℕ) → pos n ≡ pos m → n ≡ m
      same m q = cc

      counted : (k : ℕ) → n ≡ k → k ≤ limit → Extended
      counted zero q le = inr (inl ([], framed now [] (sym whole_take ∙ at ∙ ap (λ (k : ℕ). int_bytes (pos k)) q ∙ sym (append-nil (int_bytes (pos 0)))), omega (arith, le)))
      counted (suc k) q le = inl (inr (n, at, omega (arith, q, le), omega (arith, q, is_four)))

      within : ((limit < n) ⊎ (n ≤ limit)) → Extended
      within (inl over) = inr (inr (few, (is_four, λ m le is. absurd (omega (arith, over, le, same m (sym e ∙ number_is now m is_four (omega (arith, le, small)) is))))))
      within (inr le) = counted n refl le

  extended_length : length held < 4 → 4 ≤ length now → Extended
  extended_length few long = sized few long (number now) refl (int_is now (number now) long bytes refl)

  extended_frame : 4 ≤ length held → IsBeginning limit held → Extended
  extended_frame full (inl short) = absurd (omega (arith, full, short))
  extended_frame full (inr w) = last (cases_lt (length now) (4 + w.0)) where
    at : take 4 now ≡ int_bytes (pos w.0)
    at = take-append-le 4 held (b ∷ []) full ∙ w.1

    last : ((length now < 4 + w.0) ⊎ (4 + w.0 ≤ length now)) → Extended
    last (inl less) = inl (inr (w.0, at, w.2, less))
    last (inr all) =
        let long : length (drop 4 now) ≡ w.0 = omega (arith, length-drop 4 now, all, w.3, one_more) in
        let is = sym (take-append-drop 4 now) ∙ ap (λ (z : List ℕ). z ++ drop 4 now) (at ∙ ap (λ (n : ℕ). int_bytes (pos n)) (sym long)) in
        inr (inl (drop 4 now, framed now (drop 4 now) is, omega (arith, long, w.2)))

  pub extended : IsBeginning limit held → Extended
  extended begin = elim (cases_lt (length now) 4) [
    | inl short ↦ inl (inl short)
    | inr long ↦ elim (cases_lt (length held) 4) [ inl few ↦ extended_length few long | inr full ↦ extended_frame full begin ]
  ]
