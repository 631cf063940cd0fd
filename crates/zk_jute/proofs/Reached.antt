-- Values whose ends are reached: one after the other, those of a list, and short texts.
use Rattle.std.proofs.Common.{◌≡◌, ℕ, zero, suc, take-add, ◌+◌, ◌-◌, ◌/◌, ◌%◌, ◌<◌, ◌≤◌, false, ltb, List, [], ◌∷◌, ◌++◌, length, take, drop, Option, Some, None, Ok, refl, sym, ap, subst, ◌∙◌, append_assoc, arith}
use Rattle.std.specs.Prelude.{ℤ, pos, negsuc}
use Rattle.std.specs.{Int.w32, Int.cast_unsigned, Int.RustNames.FitsSigned, List.flat_map, Str.IsAscii, Str.IsUtf8}
use Rattle.std.proofs.{lemmas.Int.ints, lemmas.Bool.le-ltb, lemmas.Nat.be_bytes_4, lemmas.Nat.div-add-mod', Math.Seq.drop-append_seam, lemmas.Grind.flat_map-append}
use Rattle.simdutf8.specs.{Steps.IsClosed, Tracks.last_three}
use Rattle.simdutf8.proofs.Chars.{StepsThen-IsUtf8, closed-IsUtf8}
use Rattle.simdutf8.proofs.StepsLemmas.{StepsThen-append, StepsThen_parts, Steps_ascii, IsUtf8-after_ascii}
use Rattle.std.proofs.lemmas.List.{take_at, drop-drop, length-append, length-take, length-drop}
use Rattle.zk_jute.specs.declared.value.Nullable.TheVariants as nullable
use Rattle.zk_jute.specs.{Item.Item, Item.AUstring, Item.HaveBytes, Item.int_bytes, Reading.int_at, Reading.size_at, Reading.run_at, Told.StandsAt, Values.text_items, Shown.Stretch, Ends.EndsAt, Ends.TextsIfUtf8, Ends.IsRunOfLowSize}
use Rattle.zk_jute.proofs.{Steps.IsBytes, Numbers.len32, Runs.run_found, Runs.size_found, Layouts.have_both, Layouts.one_found, Sequels.stands_then, Stretches.one_passed}

-- one more of a stretch
pub one_more : {X : Type 0} (items : X → List Item) (src : List ℕ) (place at end count : ℕ) → Stretch items src place at count → EndsAt items src at end → Stretch items src place end (count + 1)
one_more items src place at end count so_far e = one_passed items src place at end count so_far e.0 e.1 e.2

-- one stretch, and another behind it
pub stretch_then : {X : Type 0} (items : X → List Item) (src : List ℕ) (p q r m n : ℕ) → Stretch items src p q m → Stretch items src q r n → Stretch items src p r (m + n)
stretch_then {X} items src p q r m n a b =
    let xs = a.values in
    let ys = b.values in
    let both : flat_map items (xs ++ ys) ≡ flat_map items xs ++ flat_map items ys = flat_map-append items xs ys in
    record {
      values = xs ++ ys;
      count_is = omega (arith, a.count_is, b.count_is, length-append xs ys);
      have = subst HaveBytes (sym both) (have_both (flat_map items xs) (flat_map items ys) a.have b.have);
      stands = subst (λ (i : List Item). StandsAt i src p r) (sym both) (stands_then (flat_map items xs) (flat_map items ys) src p q r a.stands b.stands);
    }

-- ---- short texts in one look

-- what is in front of ASCII and what is behind it, in a text
text_parts : (xs ys zs : List ℕ) → IsAscii ys → 0 < length ys → IsUtf8 (xs ++ (ys ++ zs)) → IsUtf8 xs × IsUtf8 zs
text_parts xs ys zs low some text =
    let t = last_three 0 0 0 xs in
    let h = (StepsThen-append IsClosed 0 0 0 xs (ys ++ zs)).0 ((StepsThen-IsUtf8 (xs ++ (ys ++ zs))).1 text) in
    let steps = (StepsThen-append IsClosed t.0 t.1 t.2 ys zs).0 h.1 in
    let closed = (Steps_ascii t.0 t.1 t.2 ys low some).0 steps.0 in (
      (StepsThen-IsUtf8 xs).0 ((StepsThen_parts IsClosed 0 0 0 xs).1 (h.0, closed)),
      (IsUtf8-after_ascii ys zs low).0 (closed-IsUtf8 t.0 t.1 t.2 (ys ++ zs) closed h.1),
    )

abbrev HasLow : ℕ → Type 0
HasLow n = (n < 32768) × (n % 256 < 128)

low_size : (n : ℕ) → HasLow n → IsAscii (0 ∷ 0 ∷ n / 256 ∷ n % 256 ∷ [])
low_size n low zero = omega arith
low_size n low (suc zero) = omega arith
low_size n low (suc (suc zero)) = omega (arith, low.0)
low_size n low (suc (suc (suc zero))) = low.1
low_size n low (suc (suc (suc (suc i)))) = omega arith

low_bytes : (n : ℕ) → HasLow n → int_bytes (pos n) ≡ 0 ∷ 0 ∷ n / 256 ∷ n % 256 ∷ []
low_bytes n low = be_bytes_4 (0 ∷ 0 ∷ n / 256 ∷ n % 256 ∷ []) n refl (λ i. omega (arith, low_size n low i)) (omega (arith, div-add-mod' n 256, low.0))

-- an int that is a length
pub int_size : (number : ℤ) (n : ℕ) → FitsSigned w32 number → n ≡ cast_unsigned w32 number → n < 32768 → number ≡ pos n
int_size (pos m) n fits is small = let same : m ≡ n = omega (arith, ints, is) in ap pos same
int_size (negsuc m) n fits is small = absurd (omega (arith, ints, is, small))

-- a run whose length is read and fits
pub low_run : (src : List ℕ) (place after n : ℕ) (number : ℤ) → int_at src place ≡ Ok (number, after) → number ≡ pos n → n < 32768 → n % 256 < 128 → after + n ≤ length src → IsRunOfLowSize src place (after + n)
low_run src place after n number read is less low there =
    let bytes = take n (drop after src) in
    let len : length bytes ≡ n = omega (arith, there, length-take n (drop after src), length-drop after src) in
    let test : ltb (length src - after) n ≡ false = le-ltb _ _ (omega (arith, there)) in
    (bytes, omega arith, subst (λ (m : ℕ). m % 256 < 128) (sym len) low, rw (read, is, test) refl)

-- a null text
pub null_text : (src : List ℕ) (place end : ℕ) → IsBytes src → place ≤ length src → size_at src place ≡ Ok (None, end) → EndsAt text_items src place end
null_text src place end fits le read =
    let r = size_found src place (None, end) fits le read in
    let f = one_found (AUstring None) src place end tt r.stands in
    (nullable.Null, f.have, (f.stands.parts, f.stands.at))

module _ (src : List ℕ) (from at : ℕ) (fits : IsBytes src) (le : at ≤ length src) where
  -- its length is ASCII, and looked at with the others
  pub low_more : (end : ℕ) → IsRunOfLowSize src at end → from ≤ at → (place count : ℕ) → TextsIfUtf8 src from place at count → TextsIfUtf8 src from place end (count + 1)
  low_more end (bytes, less, low, run) before place count so_far text =
      let small : HasLow (length bytes) = (less, low) in
      let r = run_found src at (Some bytes, end) fits le run in
      let size = int_bytes (pos (length bytes)) in
      let all = size ++ bytes in
      let rest = drop end src in
      let front = take (at - from) (drop from src) in
      let long : end - from ≡ (at - from) + length all = omega (arith, r.stands.at) in
      let there : from + (at - from) ≡ at = omega arith in
      let behind : drop (at - from) (drop from src) ≡ all ++ rest = drop-drop (at - from) from src ∙ ap (λ (n : ℕ). drop n src) there ∙ r.stands.parts in
      let whole : take (end - from) (drop from src) ≡ front ++ all =
      ap (λ (n : ℕ). take n (drop from src)) long ∙ take-add (at - from) (length all) (drop from src)
      ∙ ap (λ (x : List ℕ). front ++ x) (ap (take (length all)) behind ∙ take_at all rest (length all) refl) in
      let ascii : IsAscii size = subst IsAscii (sym (low_bytes (length bytes) small)) (low_size (length bytes) small) in
      let parts = text_parts front size bytes ascii (omega (arith, len32 (pos (length bytes)))) (subst IsUtf8 whole text) in
      let f = one_found (AUstring (Some bytes)) src at end (parts.1, r.has_bytes.1) r.stands in
      one_more text_items src place at end count (so_far parts.0) (nullable.Full bytes, f.have, (f.stands.parts, f.stands.at))

  -- the others were looked at; its length isn't to be
  pub looked_more : (o : Option (List ℕ)) (end : ℕ) → run_at src at ≡ Ok (o, end) → (place count : ℕ) → Stretch text_items src place at count → TextsIfUtf8 src (at + 4) place end (count + 1)
  looked_more None end run place count so_far text =
      let r = run_found src at (None, end) fits le run in
      let f = one_found (AUstring None) src at end tt r.stands in
      one_more text_items src place at end count so_far (nullable.Null, f.have, (f.stands.parts, f.stands.at))
  looked_more (Some bytes) end run place count so_far text =
      let r = run_found src at (Some bytes, end) fits le run in
      let size = int_bytes (pos (length bytes)) in
      let rest = drop end src in
      let long : end - (at + 4) ≡ length bytes = omega (arith, r.stands.at, length-append size bytes, len32 (pos (length bytes))) in
      let behind : drop (at + 4) src ≡ bytes ++ rest =
      ap (λ (n : ℕ). drop n src) (omega arith) ∙ sym (drop-drop 4 at src) ∙ ap (drop 4) (r.stands.parts ∙ append_assoc size bytes rest) ∙ drop-append_seam size (bytes ++ rest) in
      let whole : take (end - (at + 4)) (drop (at + 4) src) ≡ bytes = ap (λ (n : ℕ). take n (drop (at + 4) src)) long ∙ ap (take (length bytes)) behind ∙ take_at bytes rest (length bytes) refl in
      let f = one_found (AUstring (Some bytes)) src at end (subst IsUtf8 whole text, r.has_bytes.1) r.stands in
      one_more text_items src place at end count so_far (nullable.Full bytes, f.have, (f.stands.parts, f.stands.at))
