-- The digits of bytes, made many at a time.
use Rattle.std.proofs.Common.{◌≡◌, ℕ, zero, suc, ◌+◌, ◌*◌, ◌/◌, ◌%◌, ◌<◌, ◌≤◌, true, cond, eqb, List, [], ◌∷◌, ◌++◌, map, length, take, drop, get_or, Fits, w8, refl, sym, ap, ap₂, ◌∙◌, subst, arith}
use Rattle.std.specs.Prelude.{slice_index, ltb}
use Rattle.std.specs.List.{AllByRecursion}
use Rattle.std.proofs.lemmas.Bool.{agree_below, agree_below_at, eqb-true, ltb-true}
use Rattle.std.proofs.lemmas.List.{length-map, get_or-map, get_or_append_left, get_or-append-add, drop_all, take-append-drop, length-take-le, take-take}
use Rattle.std.proofs.{Math.Seq.drop-cons, Math.Seq.take-append_seam, lemmas.Simd.swz_l}
use lib.Lanes.{Each1, pick_l}
use mir.Val.{zeroes}
use Rattle.zk_items.specs.Leaf.{hex_digit}
use Rattle.hex.specs.Hex.{encode_with, encode_lower, lower_digits}
use Rattle.hex.proofs.HexLemmas.{length-encode_with}

-- a byte's first digit and its second
abbrev pub high : ℕ → ℕ
high b = slice_index lower_digits (b / 16)

abbrev pub low : ℕ → ℕ
low b = slice_index lower_digits (b % 16)

pub encoded-append : (a b : List ℕ) → encode_lower (a ++ b) ≡ encode_lower a ++ encode_lower b
unfolding encode_with
encoded-append [] b = refl
encoded-append (x ∷ a) b = ap (λ l. high x ∷ low x ∷ l) (encoded-append a b)

pub encoded-take : (n : ℕ) (v : List ℕ) → n ≤ length v → take (2 * n) (encode_lower v) ≡ encode_lower (take n v)
encoded-take n v within =
    let front = encode_lower (take n v) in
    let behind = encode_lower (drop n v) in
    let both : encode_lower v ≡ front ++ behind = ap encode_lower (sym (take-append-drop n v)) ∙ encoded-append (take n v) (drop n v) in
    let long : length front ≡ 2 * n = length-encode_with lower_digits (take n v) ∙ ap (λ k. 2 * k) (length-take-le n v within) in
    ap (take (2 * n)) both ∙ ap (λ k. take k (front ++ behind)) (sym long) ∙ take-append_seam front behind

-- of bytes that begin with some, as many as these
pub front_of : (k count : ℕ) (v front behind : List ℕ) → v ≡ front ++ behind → count ≡ length front → count ≤ k → take count (take k v) ≡ front
front_of k count v front behind is long within =
    take-take count k v within ∙ ap (take count) is ∙ ap (λ n. take n (front ++ behind)) long ∙ take-append_seam front behind

-- ---- lane by lane

pub all_bytes : (v : List ℕ) → Each1 (Fits w8) v → AllByRecursion (λ b. b < 256) v
all_bytes [] fits = tt
all_bytes (b ∷ v) fits = (fits.0.fits, all_bytes v fits.1)

-- what agrees on each number below k agrees on each lane
pub each_lane : (k : ℕ) (f g : ℕ → ℕ) (v : List ℕ) → agree_below (λ b. eqb (f b) (g b)) (λ b. true) k ≡ true → AllByRecursion (λ b. b < k) v → map f v ≡ map g v
each_lane k f g [] all below = refl
each_lane k f g (b ∷ v) all below = ap₂ (λ x l. x ∷ l) (eqb-true (f b) (g b) (agree_below_at (λ b. eqb (f b) (g b)) (λ b. true) k b all below.0)) (each_lane k f g v all below.1)

-- and what is below 16 on each byte is so on each lane
pub each_below : (f : ℕ → ℕ) (v lanes : List ℕ) → agree_below (λ b. ltb (f b) 16) (λ b. true) 256 ≡ true → AllByRecursion (λ b. b < 256) v → lanes ≡ map f v → AllByRecursion (λ n. n < 16) lanes
each_below f v lanes all bytes is = subst (AllByRecursion (λ n. n < 16)) (sym is) (go v bytes)
  where
    go : (v : List ℕ) → AllByRecursion (λ b. b < 256) v → AllByRecursion (λ n. n < 16) (map f v)
    go [] bytes = tt
    go (b ∷ v) bytes = (ltb-true (f b) 16 (agree_below_at (λ b. ltb (f b) 16) (λ b. true) 256 b all bytes.0), go v bytes.1)

pub each_is : (v : List ℕ) → AllByRecursion (λ n. n < 16) v → Each1 (λ n. n < 16) v
each_is [] below = tt
each_is (n ∷ v) below = (below.0, each_is v below.1)

-- a digit is looked up
module _ where
  is_digit : (n q : ℕ) → n < 16 → q ≡ 0 → cond (zeroes 16 w8 n) 0 (get_or lower_digits (16 * q + n) 0) ≡ hex_digit n
  is_digit n q low none =
      ap (λ (k : ℕ). cond (zeroes 16 w8 n) 0 (get_or lower_digits (16 * k + n) 0)) none
      ∙ eqb-true _ _ (agree_below_at (λ m. eqb (cond (zeroes 16 w8 m) 0 (get_or lower_digits (16 * 0 + m) 0)) (hex_digit m)) (λ m. true) 16 n refl low)

  pub looked_up : (v : List ℕ) (i : ℕ) → i + length v ≤ 16 → AllByRecursion (λ n. n < 16) v → swz_l w8 16 lower_digits i v ≡ map hex_digit v
  looked_up [] i within below = refl
  looked_up (n ∷ v) i within below = ap₂ (λ x l. x ∷ l) (is_digit n (i / 16) below.0 (omega arith)) (looked_up v (suc i) (omega arith) below.1)

-- ---- side by side

-- so many places from the i-th on, of two lists of n lanes that stand one behind the other, by turns
abbrev pub by_turns : ℕ → ℕ → ℕ → List ℕ
by_turns n i zero = []
by_turns n i (suc k) = i ∷ (n + i) ∷ by_turns n (suc i) k

module _ (v : List ℕ) where
  picked : (k i : ℕ) → i + k ≡ length v → pick_l 0 (map high v ++ map low v) (by_turns (length v) i k) ≡ encode_lower (drop i v)
  unfolding encode_with
  picked zero i e = sym (ap encode_lower (drop_all i v (omega arith)))
  picked (suc k) i e =
      let lt : i < length v = omega arith in
      let first = get_or_append_left (map high v) (map low v) 0 i (omega (arith, length-map v high)) ∙ get_or-map high v i 0 0 lt in
      let second =
      ap (λ n. get_or (map high v ++ map low v) (n + i) 0) (sym (length-map v high)) ∙ get_or-append-add (map high v) (map low v) i 0
      ∙ get_or-map low v i 0 0 lt in
      (λ t. first t ∷ second t ∷ picked k (suc i) (omega arith) t) ∙ sym (ap encode_lower (drop-cons v i 0 lt))

-- the sixteen lanes of each by turns
pub side_by_side : (first second v : List ℕ) → first ≡ map high v → second ≡ map low v → length v ≡ 16 → pick_l 0 (first ++ second) (by_turns 16 0 16) ≡ encode_lower v
side_by_side first second v f g e =
    (λ t. pick_l 0 (f t ++ g t) (by_turns 16 0 16)) ∙ (λ t. pick_l 0 (map high v ++ map low v) (by_turns (sym e t) 0 16)) ∙ picked v 16 0 (sym e)
