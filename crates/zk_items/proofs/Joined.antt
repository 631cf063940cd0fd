-- The bytes that lower-case digits spell, many at a time.
use Rattle.std.proofs.Common.{◌≡◌, inl, inr, ℕ, zero, suc, ◌+◌, ◌*◌, ◌/◌, ◌%◌, ◌<◌, Bool, true, cond, eqb, List, [], ◌∷◌, ◌++◌, ◌≤◌, map, length, take, drop, get_or, refl, sym, ap, ap₂, ◌∙◌, subst, arith}
use Rattle.std.specs.Prelude.{slice_index, ltb, ◌&&◌}
use Rattle.std.specs.List.{AllByRecursion}
use Rattle.std.proofs.lemmas.Bool.{agree_below, agree_below_at, and_parts, cases_lt, eqb-true, ltb-true}
use Rattle.std.proofs.lemmas.List.{get_or_append_left, drop_all, take_all, append-nil, get_or_past}
use Rattle.std.proofs.Math.Seq.{drop-cons}
use lib.Lanes.{pick_l, zip2}
use Rattle.zk_items.specs.Leaf.{in_hex, hex_digit}
use Rattle.hex.specs.Hex.{encode_with, encode_lower, lower_digits}
use Rattle.zk_items.proofs.Blobs.{digit_is}

abbrev pub Hex : List ℕ → Type 0
Hex v = AllByRecursion (λ c. in_hex c ≡ true) v

-- f gives a digit's value, up to a code
abbrev pub gives_value : (ℕ → ℕ) → ℕ → Bool
gives_value f b = cond (in_hex b) (eqb (hex_digit (f b)) b && ltb (f b) 16) true

hex_is_small : (b : ℕ) → in_hex b ≡ true → b < 256
hex_is_small b h = grind (arith, h)

module _ (f : ℕ → ℕ) (all : agree_below (gives_value f) (λ b. true) 256 ≡ true) where
  value_of : (b : ℕ) → in_hex b ≡ true → (hex_digit (f b) ≡ b) × (f b < 16)
  value_of b h =
      let here : gives_value f b ≡ true = agree_below_at (gives_value f) (λ b. true) 256 b all (hex_is_small b h) in
      let parts = and_parts (eqb (hex_digit (f b)) b) (ltb (f b) 16) (ap (λ (t : Bool). cond t (eqb (hex_digit (f b)) b && ltb (f b) 16) true) (sym h) ∙ here) in
      (eqb-true (hex_digit (f b)) b parts.0, ltb-true (f b) 16 parts.1)

  values_are : (v : List ℕ) → Hex v → map hex_digit (map f v) ≡ v
  values_are [] h = refl
  values_are (b ∷ v) h = ap₂ (λ x l. x ∷ l) (value_of b h.0).0 (values_are v h.1)

  values_low : (v : List ℕ) → Hex v → AllByRecursion (λ n. n < 16) (map f v)
  values_low [] h = tt
  values_low (b ∷ v) h = ((value_of b h.0).1, values_low v h.1)

  pub valued : (v lanes : List ℕ) → Hex v → lanes ≡ map f v → map hex_digit lanes ≡ v
  valued v lanes h is = ap (map hex_digit) is ∙ values_are v h

  pub valued_low : (v lanes : List ℕ) → Hex v → lanes ≡ map f v → AllByRecursion (λ n. n < 16) lanes
  valued_low v lanes h is = subst (AllByRecursion (λ n. n < 16)) (sym is) (values_low v h)

-- one of each by turns
abbrev pub turns : List ℕ → List ℕ → List ℕ
turns [] ys = []
turns (x ∷ xs) [] = []
turns (x ∷ xs) (y ∷ ys) = x ∷ y ∷ turns xs ys

-- two values are joined to a byte, whose digits are theirs
module _ (s : ℕ → ℕ) (o : ℕ → ℕ → ℕ) (all : agree_below (λ n. eqb (o (s (n / 16)) (n % 16)) n) (λ n. true) 256 ≡ true) where
  byte_is : (h l : ℕ) → h < 16 → l < 16 → o (s h) l ≡ 16 * h + l
  byte_is h l high low =
      let n = 16 * h + l in
      let first : n / 16 ≡ h = omega arith in
      let second : n % 16 ≡ l = omega arith in
      ap₂ (λ (a b : ℕ). o (s a) b) (sym first) (sym second) ∙ eqb-true (o (s (n / 16)) (n % 16)) n (agree_below_at (λ n. eqb (o (s (n / 16)) (n % 16)) n) (λ n. true) 256 n all (omega arith))

  joined_lanes : (hi lo : List ℕ) → AllByRecursion (λ n. n < 16) hi → AllByRecursion (λ n. n < 16) lo → encode_lower (zip2 o (map s hi) lo) ≡ turns (map hex_digit hi) (map hex_digit lo)
  unfolding encode_with
  joined_lanes [] lo high low = refl
  joined_lanes (h ∷ hi) [] high low = refl
  joined_lanes (h ∷ hi) (l ∷ lo) high low =
      let small_h : h < 16 = high.0 in
      let small_l : l < 16 = low.0 in
      let byte = byte_is h l small_h small_l in
      let first : o (s h) l / 16 ≡ h = ap (λ (n : ℕ). n / 16) byte ∙ omega arith in
      let second : o (s h) l % 16 ≡ l = ap (λ (n : ℕ). n % 16) byte ∙ omega arith in
      ap (λ (n : ℕ). slice_index lower_digits n ∷ slice_index lower_digits (o (s h) l % 16) ∷ encode_lower (zip2 o (map s hi) lo)) first
      ∙ ap (λ (n : ℕ). slice_index lower_digits h ∷ slice_index lower_digits n ∷ encode_lower (zip2 o (map s hi) lo)) second
      ∙ ap₂ (λ (a b : ℕ). a ∷ b ∷ encode_lower (zip2 o (map s hi) lo)) (digit_is h small_h) (digit_is l small_l)
      ∙ ap (λ (r : List ℕ). hex_digit h ∷ hex_digit l ∷ r) (joined_lanes hi lo high.1 low.1)

  pub joined_are : (hi lo first xs ys d : List ℕ) → first ≡ map s hi → AllByRecursion (λ n. n < 16) hi → AllByRecursion (λ n. n < 16) lo → map hex_digit hi ≡ xs → map hex_digit lo ≡ ys → turns xs ys ≡ d
      → encode_lower (zip2 o first lo) ≡ d
  joined_are hi lo first xs ys d is high low x y e = ap (λ (l : List ℕ). encode_lower (zip2 o l lo)) is ∙ joined_lanes hi lo high low ∙ ap₂ turns x y ∙ e

-- every other place from one on
abbrev pub steps : ℕ → ℕ → List ℕ
steps i zero = []
steps i (suc k) = i ∷ steps (suc (suc i)) k

-- the lanes at even places and those at odd places, by turns, are all
pub apart : (v : List ℕ) (k i : ℕ) → i + 2 * k ≡ length v → turns (pick_l 0 (v ++ v) (steps i k)) (pick_l 0 (v ++ v) (steps (suc i) k)) ≡ drop i v
apart v zero i e = sym (drop_all i v (omega arith))
apart v (suc k) i e =
    let one : i < length v = omega arith in
    let two : suc i < length v = omega arith in
    ap₂ (λ (a b : ℕ). a ∷ b ∷ turns (pick_l 0 (v ++ v) (steps (suc (suc i)) k)) (pick_l 0 (v ++ v) (steps (suc (suc (suc i))) k))) (get_or_append_left v v 0 i one) (get_or_append_left v v 0 (suc i) two)
    ∙ ap (λ (r : List ℕ). get_or v i 0 ∷ get_or v (suc i) 0 ∷ r) (apart v k (suc (suc i)) (omega arith))
    ∙ ap (λ (r : List ℕ). get_or v i 0 ∷ r) (sym (drop-cons v (suc i) 0 two)) ∙ sym (drop-cons v i 0 one)

hex_at : (v : List ℕ) (i : ℕ) → i < length v → Hex v → in_hex (get_or v i 0) ≡ true
hex_at [] i within h = absurd (omega arith)
hex_at (b ∷ v) zero within h = h.0
hex_at (b ∷ v) (suc i) within h = hex_at v i (omega arith) h.1

pub hex_apart : (v : List ℕ) (k i : ℕ) → i + 2 * k ≤ length v + 1 → Hex v → Hex (pick_l 0 (v ++ v) (steps i k))
hex_apart v zero i within h = tt
hex_apart v (suc k) i within h = (ap in_hex (get_or_append_left v v 0 i (omega arith)) ∙ hex_at v i (omega arith) h, hex_apart v k (suc (suc i)) (omega arith) h)

-- what is written in lower-case digits alone is bytes
hex_digit_below : (n : ℕ) → in_hex (slice_index lower_digits n) ≡ true → n < 16
hex_digit_below n h = elim (cases_lt n 16) [
  | inl below ↦ below
  | inr above ↦ absurd (let none : slice_index lower_digits n ≡ 0 = get_or_past lower_digits n 0 above in let passes : in_hex 0 ≡ true = sym (ap in_hex none) ∙ h in cc)
]

pub hex_bytes : (xs : List ℕ) → Hex (encode_lower xs) → AllByRecursion (λ b. b < 256) xs
unfolding encode_with
hex_bytes [] h = tt
hex_bytes (b ∷ xs) h = let high = hex_digit_below (b / 16) h.0 in (omega (arith, high), hex_bytes xs h.1.1)

-- of room that was read into, and nothing behind it
pub whole_room : (len : ℕ) (new old : List ℕ) → length new ≡ length old → len ≡ length old → take len (new ++ drop (length new) old) ≡ new
whole_room len new old same long =
    ap (λ (r : List ℕ). take len (new ++ r)) (drop_all (length new) old (omega arith)) ∙ ap (take len) (append-nil new) ∙ take_all len new (omega arith)

pub hex_drop : (n : ℕ) (v : List ℕ) → Hex v → Hex (drop n v)
hex_drop zero v h = h
hex_drop (suc n) [] h = tt
hex_drop (suc n) (b ∷ v) h = hex_drop n v h.1
