-- Escapes, made sixteen at a time.
use Rattle.std.proofs.Common.{◌≡◌, ℕ, zero, suc, ◌+◌, ◌-◌, ◌*◌, ◌/◌, ◌%◌, ◌<◌, ◌≤◌, not, Bool, true, false, cond, eqb, List, [], ◌∷◌, ◌++◌, length, take, drop, get_or, replicate, refl, sym, ap, ap₂, subst, w8, ◌^◌, map, ◌∙◌, arith, append_assoc, Result, Ok, Err, OnOk}
use Rattle.std.specs.List.{AllByRecursion, flat_map, prefix_len}
use Rattle.std.proofs.{lemmas.Bool.eqb-true, lemmas.Grind.flat_map-append, lemmas.List.Sums.prefix_len-le-length, Math.Seq.take-append_seam}
use Rattle.std.proofs.lemmas.List.{append-nil, take_all, take_rest, take-append-drop, take-take, length-take-le, length-take, length-map}
use Rattle.std.proofs.lemmas.Simd.{tops_compared, mask_l-mod, first_set_mask_l, length-zip2}
use lib.Count.{count_trailing_zeros}
use lib.Lanes.{pick_l, zip2, mask_l, top}
use Rattle.hex.specs.Hex.{encode_with, encode_lower}
use Rattle.zk_items.specs.{Leaf.is_plain, Leaf.hex_digit, Leaf.symbol_spell, Odd.escape, Odd.is_odd}
use Rattle.zk_items.proofs.{Blobs.digit_is, Lanes.high, Lanes.low}

abbrev spelled : ℕ → List ℕ
spelled b = 92 ∷ high b ∷ low b ∷ []

digits_are : (v : List ℕ) → AllByRecursion (λ b. b < 256) v → flat_map spelled v ≡ flat_map escape v
digits_are [] bytes = refl
digits_are (b ∷ v) bytes =
    let small : b < 256 = bytes.0 in
    let first = digit_is (b / 16) (omega arith) in
    let second = digit_is (b % 16) (omega arith) in
    let rest = digits_are v bytes.1 in
    λ t. 92 ∷ first t ∷ second t ∷ rest t

-- a backslash, which stands behind the digits, put before each two of them
spread : (v : List ℕ) → length v ≡ 16
    → pick_l 0 (encode_lower v ++ replicate 32 92) (32 ∷ 0 ∷ 1 ∷ 32 ∷ 2 ∷ 3 ∷ 32 ∷ 4 ∷ 5 ∷ 32 ∷ 6 ∷ 7 ∷ 32 ∷ 8 ∷ 9 ∷ 32 ∷ [])
    ++ (pick_l 0 (encode_lower v ++ replicate 32 92) (10 ∷ 11 ∷ 32 ∷ 12 ∷ 13 ∷ 32 ∷ 14 ∷ 15 ∷ 32 ∷ 16 ∷ 17 ∷ 32 ∷ 18 ∷ 19 ∷ 32 ∷ 20 ∷ [])
    ++ pick_l 0 (encode_lower v ++ replicate 32 92) (21 ∷ 32 ∷ 22 ∷ 23 ∷ 32 ∷ 24 ∷ 25 ∷ 32 ∷ 26 ∷ 27 ∷ 32 ∷ 28 ∷ 29 ∷ 32 ∷ 30 ∷ 31 ∷ []))
    ≡ flat_map spelled v
unfolding encode_with
spread (b0 ∷ b1 ∷ b2 ∷ b3 ∷ b4 ∷ b5 ∷ b6 ∷ b7 ∷ b8 ∷ b9 ∷ b10 ∷ b11 ∷ b12 ∷ b13 ∷ b14 ∷ b15 ∷ []) e = refl
spread v e = absurd (omega arith)

pub escaped : (v digits : List ℕ) → length v ≡ 16 → AllByRecursion (λ b. b < 256) v → digits ≡ encode_lower v
    → pick_l 0 (digits ++ replicate 32 92) (32 ∷ 0 ∷ 1 ∷ 32 ∷ 2 ∷ 3 ∷ 32 ∷ 4 ∷ 5 ∷ 32 ∷ 6 ∷ 7 ∷ 32 ∷ 8 ∷ 9 ∷ 32 ∷ [])
    ++ (pick_l 0 (digits ++ replicate 32 92) (10 ∷ 11 ∷ 32 ∷ 12 ∷ 13 ∷ 32 ∷ 14 ∷ 15 ∷ 32 ∷ 16 ∷ 17 ∷ 32 ∷ 18 ∷ 19 ∷ 32 ∷ 20 ∷ [])
    ++ pick_l 0 (digits ++ replicate 32 92) (21 ∷ 32 ∷ 22 ∷ 23 ∷ 32 ∷ 24 ∷ 25 ∷ 32 ∷ 26 ∷ 27 ∷ 32 ∷ 28 ∷ 29 ∷ 32 ∷ 30 ∷ 31 ∷ []))
    ≡ flat_map escape v
escaped v digits long bytes is = rw is (spread v long ∙ digits_are v bytes)

-- three blocks, each written behind those before it
pub laid : (r0 r1 r2 r3 first middle last : List ℕ) → length r3 ≡ 48 → take (0 + 16) r1 ≡ take 0 r0 ++ first → take (16 + 16) r2 ≡ take 16 r1 ++ middle
    → take (32 + 16) r3 ≡ take 32 r2 ++ last → r3 ≡ first ++ (middle ++ last)
laid r0 r1 r2 r3 first middle last long e1 e2 e3 =
    sym (take_all 48 r3 (omega arith)) ∙ e3 ∙ ap (λ l. l ++ last) (e2 ∙ ap (λ l. l ++ middle) e1) ∙ append_assoc first middle last

three_each : (v : List ℕ) → length (flat_map escape v) ≡ 3 * length v
three_each [] = refl
three_each (b ∷ v) = omega (arith, three_each v)

-- the escapes of what stands in front stand in front
front_escapes : (v more : List ℕ) → take (3 * length v) (flat_map escape (v ++ more)) ≡ flat_map escape v
front_escapes v more =
    let front = flat_map escape v in
    let behind = flat_map escape more in
    ap (take (3 * length v)) (flat_map-append escape v more) ∙ ap (λ n. take n (front ++ behind)) (sym (three_each v)) ∙ take-append_seam front behind

-- what isn't plain is spelled by its escape
odd_spelled : (v : List ℕ) → AllByRecursion (λ b. is_plain b ≡ false) v → flat_map escape v ≡ flat_map symbol_spell v
odd_spelled [] odd = refl
odd_spelled (b ∷ v) odd =
    let rest = odd_spelled v odd.1 in
    ap (λ l. escape b ++ l) rest ∙ ap (λ (t : Bool). cond t (b ∷ []) (92 ∷ hex_digit (b / 16) ∷ hex_digit (b % 16) ∷ []) ++ flat_map symbol_spell v) (sym odd.0)

pub one_spelled : (v : List ℕ) → 0 < length v → flat_map symbol_spell (take 1 v) ≡ symbol_spell (get_or v 0 0)
one_spelled [] some = absurd (omega arith)
one_spelled (b ∷ v) some = append-nil (symbol_spell b)

-- what is spelled of the bytes in front, and what is left of them
pub spelled_further : (old new ahead : List ℕ) (n : ℕ) (all : List ℕ) → new ≡ old ++ flat_map symbol_spell (take n ahead) → old ++ flat_map symbol_spell ahead ≡ all
    → new ++ flat_map symbol_spell (take (length ahead - n) (drop n ahead)) ≡ all
spelled_further old new ahead n all e same =
    let front = flat_map symbol_spell (take n ahead) in
    ap (λ (o : List ℕ). o ++ flat_map symbol_spell (take (length ahead - n) (drop n ahead))) e
    ∙ append_assoc old front (flat_map symbol_spell (take (length ahead - n) (drop n ahead)))
    ∙ ap (λ (r : List ℕ). old ++ r) (ap (λ (d : List ℕ). front ++ flat_map symbol_spell d) (take_rest ahead n)
    ∙ sym (flat_map-append symbol_spell (take n ahead) (drop n ahead)) ∙ ap (flat_map symbol_spell) (take-append-drop n ahead)) ∙ same

-- the first of three blocks, where the other two are as they were
then_rest : (first whole front more : List ℕ) → first ≡ take 16 whole → length front ≡ 16 → front ++ more ≡ whole → first ++ more ≡ whole
then_rest first whole front more is long e =
    let seam : take 16 (front ++ more) ≡ front = ap (λ n. take n (front ++ more)) (sym long) ∙ take-append_seam front more in
    ap (λ l. l ++ more) (is ∙ ap (take 16) (sym e) ∙ seam) ∙ e

pub escaped_rest : (first v digits : List ℕ) → first ≡ take 16 (flat_map escape v) → length v ≡ 16 → AllByRecursion (λ b. b < 256) v → digits ≡ encode_lower v
    → first ++ (pick_l 0 (digits ++ replicate 32 92) (10 ∷ 11 ∷ 32 ∷ 12 ∷ 13 ∷ 32 ∷ 14 ∷ 15 ∷ 32 ∷ 16 ∷ 17 ∷ 32 ∷ 18 ∷ 19 ∷ 32 ∷ 20 ∷ [])
    ++ pick_l 0 (digits ++ replicate 32 92) (21 ∷ 32 ∷ 22 ∷ 23 ∷ 32 ∷ 24 ∷ 25 ∷ 32 ∷ 26 ∷ 27 ∷ 32 ∷ 28 ∷ 29 ∷ 32 ∷ 30 ∷ 31 ∷ []))
    ≡ flat_map escape v
escaped_rest first v digits is long bytes d =
    then_rest first (flat_map escape v) (pick_l 0 (digits ++ replicate 32 92) (32 ∷ 0 ∷ 1 ∷ 32 ∷ 2 ∷ 3 ∷ 32 ∷ 4 ∷ 5 ∷ 32 ∷ 6 ∷ 7 ∷ 32 ∷ 8 ∷ 9 ∷ 32 ∷ [])) _ is refl (escaped v digits long bytes d)

-- as many bytes in front as aren't plain
pub odd_all : (n : ℕ) (v : List ℕ) → n ≤ prefix_len is_odd v → AllByRecursion (λ b. is_plain b ≡ false) (take n v)
odd_all zero v few = tt
odd_all (suc n) [] few = tt
odd_all (suc n) (b ∷ v) few = pick (is_plain b) refl few (odd_all n v) where
  pick : (t : Bool) → is_plain b ≡ t → suc n ≤ cond (not t) (1 + prefix_len is_odd v) 0 → (n ≤ prefix_len is_odd v → AllByRecursion (λ b. is_plain b ≡ false) (take n v))
      → (is_plain b ≡ false) × AllByRecursion (λ b. is_plain b ≡ false) (take n v)
  pick true is few rest = absurd (omega arith)
  pick false is few rest = (is, rest (omega arith))

-- how many of the first sixteen aren't plain
pub record OddRun (v : List ℕ) (run : ℕ) : Type 0 where
  pub odd : AllByRecursion (λ b. is_plain b ≡ false) (take run v)
  pub few : run ≤ 16
  pub within : run ≤ length v

pub odd_run : (v : List ℕ) (run : ℕ) → run ≡ prefix_len is_odd (take 16 v) → OddRun v run
odd_run v run is =
    let most = prefix_len-le-length is_odd (take 16 v) in
    let sixteen = length-take 16 v in
    let few : run ≤ 16 = omega (arith, is, most, sixteen) in
    record {
      odd = subst (AllByRecursion (λ b. is_plain b ≡ false)) (take-take run 16 v few) (odd_all run (take 16 v) (omega (arith, is)));
      few = few;
      within = omega (arith, is, most, sixteen);
    }

pub odd_some : (v : List ℕ) (run : ℕ) → run ≡ prefix_len is_odd (take 16 v) → 0 < length v → is_plain (get_or v 0 0) ≡ false → 1 ≤ run
odd_some [] run is some odd = absurd (omega arith)
odd_some (b ∷ v) run is some odd = let first = ap (λ t. cond (not t) (1 + prefix_len is_odd (take 15 v)) 0) odd in omega (arith, is, first)

-- the spelling of so many bytes in front, none of them plain
pub spelled_front : (n : ℕ) (v : List ℕ) → n ≤ length v → AllByRecursion (λ b. is_plain b ≡ false) (take n v) → take (3 * n) (flat_map escape v) ≡ flat_map symbol_spell (take n v)
spelled_front n v within odd =
    let length_n : length (take n v) ≡ n = length-take-le n v within in
    ap (λ m. take (3 * m) (flat_map escape v)) (sym length_n) ∙ ap (λ l. take (3 * length (take n v)) (flat_map escape l)) (sym (take-append-drop n v))
    ∙ front_escapes (take n v) (drop n v) ∙ odd_spelled (take n v) odd

-- what is spelled again as it stood was the spelling
pub respelled : (chars whole v : List ℕ) (same n : ℕ) → whole ≡ take 16 (flat_map escape v) → take same chars ≡ take same whole → same ≤ 16 → length v ≡ 16 → n ≤ same / 3 → n ≤ prefix_len is_odd v
    → take (3 * n) chars ≡ flat_map symbol_spell (take n v)
respelled chars whole v same n is e within long few odd =
    sym (take-take (3 * n) same chars (omega arith)) ∙ ap (take (3 * n)) e ∙ take-take (3 * n) same whole (omega arith) ∙ ap (take (3 * n)) is
    ∙ take-take (3 * n) 16 (flat_map escape v) (omega arith) ∙ spelled_front n v (omega arith) (odd_all n v odd)

pub on_piece : {A E : Type 0} (r : Result A E) (old new piece is : List ℕ) → piece ≡ is → OnOk r (new ≡ old ++ piece) → OnOk r (new ≡ old ++ is)
on_piece (Ok x) old new piece is e f = f ∙ ap (λ (p : List ℕ). old ++ p) e
on_piece (Err x) old new piece is e f = tt

-- ---- the lanes before the first at which two vectors differ

same_lanes : (a b : List ℕ) → length a ≡ length b → take (prefix_len (λ t. not t) (zip2 (λ x y. not (eqb x y)) a b)) a ≡ take (prefix_len (λ t. not t) (zip2 (λ x y. not (eqb x y)) a b)) b
same_lanes [] [] e = refl
same_lanes [] (y ∷ b) e = absurd (omega arith)
same_lanes (x ∷ a) [] e = absurd (omega arith)
same_lanes (x ∷ a) (y ∷ b) e = pick (eqb x y) refl (same_lanes a b (omega arith)) where
  pick : (t : Bool) → eqb x y ≡ t → take (prefix_len (λ t. not t) (zip2 (λ x y. not (eqb x y)) a b)) a ≡ take (prefix_len (λ t. not t) (zip2 (λ x y. not (eqb x y)) a b)) b
      → take (cond (not (not t)) (1 + prefix_len (λ t. not t) (zip2 (λ x y. not (eqb x y)) a b)) 0) (x ∷ a) ≡ take (cond (not (not t)) (1 + prefix_len (λ t. not t) (zip2 (λ x y. not (eqb x y)) a b)) 0) (y ∷ b)
  pick true is others =
      let n = prefix_len (λ t. not t) (zip2 (λ x y. not (eqb x y)) a b) in
      let one : 1 + n ≡ suc n = omega arith in
      ap (λ (k : ℕ). take k (x ∷ a)) one ∙ ap₂ (λ (h : ℕ) (l : List ℕ). h ∷ l) (eqb-true x y is) others ∙ ap (λ (k : ℕ). take k (y ∷ b)) (sym one)
  pick false is others = refl

no_change : (ms : List Bool) → map (λ t. t) ms ≡ ms
no_change [] = refl
no_change (m ∷ ms) = ap (λ l. m ∷ l) (no_change ms)

module _ (a b : List ℕ) (r : ℕ) (long_a : length a ≡ 16) (long_b : length b ≡ 16)
    (is : r ≡ cond (eqb (mask_l (map (top 7) (zip2 (λ x y. cond (not (eqb x y)) 255 0) a b)) % 2 ^ 64) 0) 16 (count_trailing_zeros 64 (mask_l (map (top 7) (zip2 (λ x y. cond (not (eqb x y)) 255 0) a b)) % 2 ^ 64))) where
  first_differs : r ≡ prefix_len (λ t. not t) (zip2 (λ x y. not (eqb x y)) a b)
  first_differs =
      let ms = zip2 (λ x y. not (eqb x y)) a b in
      let long : length ms ≡ 16 = length-zip2 (λ x y. not (eqb x y)) a b (omega arith) ∙ long_a in
      let mask = ap (λ l. mask_l l % 2 ^ 64) (tops_compared w8 (λ x y. not (eqb x y)) a b ∙ sym (no_change ms)) ∙ mask_l-mod (map (λ t. t) ms) 64 (omega (arith, length-map ms (λ t. t), long)) in
      is ∙ ap (λ m. cond (eqb m 0) 16 (count_trailing_zeros 64 m)) mask ∙ first_set_mask_l (λ t. t) ms 16 long (omega arith)

  pub same_front : take r a ≡ take r b
  same_front = ap (λ n. take n a) first_differs ∙ same_lanes a b (omega arith) ∙ ap (λ n. take n b) (sym first_differs)

  pub same_within : r ≤ 16
  same_within = let ms = zip2 (λ x y. not (eqb x y)) a b in omega (arith, first_differs, prefix_len-le-length (λ t. not t) ms, length-zip2 (λ x y. not (eqb x y)) a b (omega arith))
