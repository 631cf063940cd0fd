-- Bytes of a class, looked at many at a time.
use Rattle.std.proofs.Common.{◌≡◌, ℕ, zero, suc, ◌+◌, ◌-◌, ◌*◌, ◌/◌, ◌%◌, ◌^◌, ◌<◌, ◌≤◌, Bool, true, false, not, cond, eqb, List, [], ◌∷◌, ◌++◌, map, length, take, drop, get_or, Fits, w8, refl, sym, ap, ap₂, ◌∙◌, take_all, arith}
use Rattle.std.proofs.lemmas.Bool.{agree_below, agree_below_at, eq-eqb, eqb-true, ne_eqb, cond-true, cond-false}
use Rattle.std.proofs.lemmas.List.{append-nil, drop_all, length-append, length-map, length-drop}
use Rattle.std.proofs.{lemmas.List.Folds.prefix_len-append, lemmas.List.Sums.prefix_len-le-length}
use Rattle.std.proofs.lemmas.Simd.{chunk-drop, length-chunk, map-map, mask_l-mod, first_set_mask_l}
use Rattle.std.specs.List.{prefix_len, flat_map}
use lib.Count.{count_trailing_zeros}
use Rattle.std.proofs.Math.{Bool.not-not, Seq.drop-cons}
use lib.Lanes.{chunk, Each1, mask_l, pick_l, top}
use Rattle.zk_items.specs.Leaf.{is_plain, symbol_spell, hex_digit}

module _ (q : ℕ → Bool) where
  -- what doesn't pass
  abbrev pub odd : ℕ → Bool
  odd b = not (q b)

  not_odd : (v : List ℕ) → prefix_len (λ b. not (odd b)) v ≡ prefix_len q v
  not_odd [] = refl
  not_odd (b ∷ v) = ap₂ (λ t n. cond t (1 + n) 0) (not-not (q b)) (not_odd v)

  -- each lane's answer is that of its byte
  each_lane : (f : ℕ → ℕ) (v : List ℕ) → agree_below (λ b. top 7 (f b)) odd 256 ≡ true → Each1 (Fits w8) v → map (λ b. top 7 (f b)) v ≡ map odd v
  each_lane f [] all fits = refl
  each_lane f (b ∷ v) all fits = ap₂ (λ t ts. t ∷ ts) (agree_below_at (λ b. top 7 (f b)) odd 256 b all fits.0.fits) (each_lane f v all fits.1)

  module _ (f : ℕ → ℕ) (v z : List ℕ) (n : ℕ) (long : length v ≡ n) (few : n ≤ 64) (fits : Each1 (Fits w8) v) (lanes : z ≡ map f v)
      (all : agree_below (λ b. top 7 (f b)) odd 256 ≡ true) where
    mask_is : mask_l (map (top 7) z) % 2 ^ 64 ≡ mask_l (map odd v)
    mask_is =
        ap (λ l. mask_l l % 2 ^ 64) (ap (map (top 7)) lanes ∙ map-map (top 7) f v ∙ each_lane f v all fits)
        ∙ mask_l-mod (map odd v) 64 (omega (arith, length-map v odd))

    -- the lowest bit that is set is the first lane that doesn't pass
    pub lanes_before : (r : ℕ) → r ≡ cond (eqb (mask_l (map (top 7) z) % 2 ^ 64) 0) n (count_trailing_zeros 64 (mask_l (map (top 7) z) % 2 ^ 64)) → r ≡ prefix_len q v
    lanes_before r e = e ∙ ap (λ m. cond (eqb m 0) n (count_trailing_zeros 64 m)) mask_is ∙ first_set_mask_l odd v n long few ∙ not_odd v

-- ---- from looks to the whole run

module _ (q : ℕ → Bool) where
  one_more : (t : Bool) (j n m : ℕ) → suc j ≤ cond t (1 + n) 0 → (j ≤ n → n ≡ j + m) → cond t (1 + n) 0 ≡ suc j + m
  one_more true j n m le f = let e : n ≡ j + m = f (omega arith) in omega arith
  one_more false j n m le f = absurd (omega arith)

  -- a front that passes may be passed over
  pub passed : (j : ℕ) (d : List ℕ) → j ≤ prefix_len q d → prefix_len q d ≡ j + prefix_len q (drop j d)
  passed zero d le = omega arith
  passed (suc j) [] le = absurd (omega arith)
  passed (suc j) (b ∷ d) le = one_more (q b) j (prefix_len q d) (prefix_len q (drop j d)) le (passed j d)

  module _ (d : List ℕ) (at n : ℕ) (before : at ≤ prefix_len q d) (room : at + n ≤ length d) where
    split : prefix_len q (drop at d) ≡ cond (eqb (prefix_len q (chunk at n d)) n) (n + prefix_len q (drop (at + n) d)) (prefix_len q (chunk at n d))
    split =
        ap (prefix_len q) (chunk-drop at n d) ∙ prefix_len-append q (chunk at n d) (drop (at + n) d)
        ∙ ap (λ l. cond (eqb (prefix_len q (chunk at n d)) l) (l + prefix_len q (drop (at + n) d)) (prefix_len q (chunk at n d))) (length-chunk at n d room)

    pub look_stops : prefix_len q (chunk at n d) < n → prefix_len q d ≡ at + prefix_len q (chunk at n d)
    look_stops less = passed at d before ∙ ap (λ m. at + m) (split ∙ cond-false _ _ _ (ne_eqb _ _ (λ (e : prefix_len q (chunk at n d) ≡ n). omega arith)))

    pub look_passes : n ≤ prefix_len q (chunk at n d) → at + n ≤ prefix_len q d
    look_passes all =
        let whole : prefix_len q (chunk at n d) ≡ n = omega (arith, prefix_len-le-length q (chunk at n d), length-chunk at n d room) in
        omega (arith, passed at d before, split ∙ cond-true _ _ _ (eq-eqb _ _ whole))

  -- a look at the last bytes
  pub look_last : (d : List ℕ) (at n : ℕ) → at ≤ prefix_len q d → at + n ≡ length d → prefix_len q d ≡ at + prefix_len q (chunk at n d)
  look_last d at n before room =
      let whole : take n (drop at d) ≡ drop at d = take_all n (drop at d) (omega (arith, length-drop at d)) in
      passed at d before ∙ ap (λ xs. at + prefix_len q xs) (sym whole)

-- looks at the first bytes and at the last, side by side
module _ (q : ℕ → Bool) where
  both_pass : (a b : List ℕ) → prefix_len q (a ++ b) ≡ length a + length b → (prefix_len q a ≡ length a) × (prefix_len q b ≡ length b)
  both_pass [] b e = (refl, omega (arith, e))
  both_pass (x ∷ a) b e = pick (q x) (both_pass a b) e where
    pick : (t : Bool) → (prefix_len q (a ++ b) ≡ length a + length b → (prefix_len q a ≡ length a) × (prefix_len q b ≡ length b))
        → cond t (1 + prefix_len q (a ++ b)) 0 ≡ suc (length a) + length b → (cond t (1 + prefix_len q a) 0 ≡ suc (length a)) × (prefix_len q b ≡ length b)
    pick true f e = let both = f (omega arith) in (omega (arith, both.0), both.1)
    pick false f e = absurd (omega arith)

  ends_pass : (d : List ℕ) (n : ℕ) → n ≤ length d → length d ≤ 2 * n → prefix_len q (chunk 0 n d ++ chunk (length d - n) n d) ≡ 2 * n → prefix_len q d ≡ length d
  ends_pass d n within twice e =
      let at = length d - n in
      let first = length-chunk 0 n d (omega arith) in
      let last = length-chunk at n d (omega arith) in
      let both = both_pass (chunk 0 n d) (chunk at n d) (omega (arith, first, last)) in
      let front = look_passes q d 0 n (omega arith) (omega arith) (omega (arith, both.0, first)) in
      omega (arith, look_last q d at n (omega (arith, front)) (omega arith), both.1, last)

-- the places from one on to the last, picked in order
abbrev upto : ℕ → ℕ → List ℕ
upto i zero = []
upto i (suc k) = i ∷ upto (suc i) k

in_order : (l : List ℕ) (k i : ℕ) → i + k ≡ length l → pick_l 0 l (upto i k) ≡ drop i l
in_order l zero i e = sym (drop_all i l (omega arith))
in_order l (suc k) i e = ap (λ (r : List ℕ). get_or l i 0 ∷ r) (in_order l k (suc i) (omega arith)) ∙ sym (drop-cons l i 0 (omega arith))

-- the first n and the last n, looked at together
pub ends_are : (q : ℕ → Bool) (d : List ℕ) (n r : ℕ) → (n ≤ length d) × (length d ≤ 2 * n) → r ≡ prefix_len q (pick_l 0 (chunk 0 n d ++ chunk (length d - n) n d) (upto 0 (2 * n))) → eqb r (2 * n) ≡ true
    → prefix_len q d ≡ length d
ends_are q d n r (within, twice) look is =
    let first = chunk 0 n d in
    let last = chunk (length d - n) n d in
    let long : 0 + 2 * n ≡ length (first ++ last) = omega (arith, length-append first last, length-chunk 0 n d (omega arith), length-chunk (length d - n) n d (omega arith)) in
    ends_pass q d n within twice (sym (ap (prefix_len q) (in_order (first ++ last) (2 * n) 0 long)) ∙ sym look ∙ eqb-true r (2 * n) is)

-- ---- texts, a run of plain bytes at a time

-- plain bytes in front stand for themselves
pub plain_front : (d : List ℕ) → take (prefix_len is_plain d) d ++ flat_map symbol_spell (drop (prefix_len is_plain d) d) ≡ flat_map symbol_spell d
plain_front [] = refl
plain_front (b ∷ d) = pick (is_plain b) refl (plain_front d) where
  pick : (t : Bool) → is_plain b ≡ t → take (prefix_len is_plain d) d ++ flat_map symbol_spell (drop (prefix_len is_plain d) d) ≡ flat_map symbol_spell d
      → take (cond t (1 + prefix_len is_plain d) 0) (b ∷ d) ++ flat_map symbol_spell (drop (cond t (1 + prefix_len is_plain d) 0) (b ∷ d)) ≡ cond t (b ∷ []) (92 ∷ hex_digit (b / 16) ∷ hex_digit (b % 16) ∷ []) ++ flat_map symbol_spell d
  pick true is e =
      let one : 1 + prefix_len is_plain d ≡ suc (prefix_len is_plain d) = omega arith in
      ap (λ (n : ℕ). take n (b ∷ d) ++ flat_map symbol_spell (drop n (b ∷ d))) one ∙ ap (λ (l : List ℕ). b ∷ l) e
  pick false is e = ap (λ (t : Bool). cond t (b ∷ []) (92 ∷ hex_digit (b / 16) ∷ hex_digit (b % 16) ∷ []) ++ flat_map symbol_spell d) is

-- plain bytes stand for themselves
pub all_plain : (d : List ℕ) → prefix_len is_plain d ≡ length d → flat_map symbol_spell d ≡ d
all_plain d e =
    sym (plain_front d) ∙ ap (λ (n : ℕ). take n d ++ flat_map symbol_spell (drop n d)) e
    ∙ ap₂ (λ (front rest : List ℕ). front ++ flat_map symbol_spell rest) (take_all (length d) d (omega arith)) (drop_all (length d) d (omega arith)) ∙ append-nil d
