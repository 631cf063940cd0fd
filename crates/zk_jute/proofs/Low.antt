-- Bytes whose high bit is not set, a block at a time.
use Rattle.std.proofs.Common.{◌≡◌, ℕ, zero, suc, ◌+◌, ◌-◌, ◌%◌, ◌^◌, ◌<◌, ◌≤◌, Bool, true, false, cond, eqb, leb, List, [], ◌∷◌, map, length, get_or, take, drop, replicate, refl, sym, ap, subst, ◌∙◌, inl, inr, arith, get_or-drop, get_or-take}
use Rattle.std.specs.Str.{IsAscii}
use Rattle.std.proofs.{lemmas.Bool.cases_lt, lemmas.Bool.leb-false, lemmas.Bool.eqb-true, lemmas.List.length-map, lemmas.List.get_or_past, lemmas.Simd.length-zip2, lemmas.Simd.length-replicate, lemmas.Simd.mask_l-mod}
use lib.Lanes.{zip2, mask_l, top}
use Rattle.simdutf8.proofs.Lanes.{at_least}

none_high : (xs : List ℕ) → mask_l (map (top 7) (zip2 at_least (replicate (length xs) 128) xs)) ≡ 0 → (i : ℕ) → get_or xs i 0 < 128
none_high [] e i = omega arith
none_high (x ∷ xs) e zero = go (leb 128 x) refl (omega arith)
  where
    go : (t : Bool) → leb 128 x ≡ t → ◌≡◌ {A = ℕ} (cond (top 7 (cond t 255 0)) 1 0) 0 → x < 128
    go true p q = absurd (omega arith)
    go false p q = leb-false _ _ p
none_high (x ∷ xs) e (suc i) = none_high xs (omega arith) i

pub low_of_mask : (n : ℕ) (xs : List ℕ) → length xs ≡ n → n ≤ 64 → eqb (mask_l (map (top 7) (zip2 at_least (replicate n 128) xs)) % 2 ^ 64) 0 ≡ true → (i : ℕ) → get_or xs i 0 < 128
low_of_mask n xs long small e =
    none_high xs (ap (λ n. mask_l (map (top 7) (zip2 at_least (replicate n 128) xs))) long
    ∙ sym (mask_l-mod _ 64 (omega (arith, length-map (zip2 at_least (replicate n 128) xs) (top 7), length-zip2 at_least (replicate n 128) xs (length-replicate n 128 ∙ sym long), length-replicate {A = ℕ} n 128))) ∙ eqb-true _ _ e)

-- low bytes in front, and low bytes at the end that meet them
pub low_ends : (bytes : List ℕ) (at n : ℕ) → IsAscii (take at bytes) → IsAscii (take n (drop (length bytes - n) bytes)) → length bytes ≤ at + n → n ≤ length bytes → IsAscii bytes
low_ends bytes at n front last meet some i =
    elim (cases_lt i at) [
      | inl less ↦ rw (get_or-take at bytes i 0 less) at (front i)
      | inr far ↦ elim (cases_lt i (length bytes)) [
        | inl within ↦
            let k : ℕ = i - (length bytes - n) in
            let e : length bytes - n + k ≡ i = omega arith in
            let same : get_or (take n (drop (length bytes - n) bytes)) k 0 ≡ get_or bytes i 0 =
            get_or-take n (drop (length bytes - n) bytes) k 0 (omega arith) ∙ get_or-drop (length bytes - n) bytes k 0 ∙ ap (λ j. get_or bytes j 0) e in
            subst (λ b. b < 128) same (last k)
        | inr past ↦ rw (get_or_past bytes i 0 past) (omega arith)
      ]
    ]
