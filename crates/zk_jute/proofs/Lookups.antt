-- Pairs of bytes looked up sixteen at a time, and what their faults say of each byte.
use Rattle.std.proofs.Common.{◌≡◌, ℕ, zero, suc, ◌+◌, ◌-◌, ◌*◌, ◌/◌, ◌%◌, ◌^◌, ◌<◌, Bool, true, false, not, cond, eqb, List, [], ◌∷◌, map, length, get_or, replicate, bit_and, bit_or, bit_xor, refl, sym, ap, ◌∙◌, arith, w8, Fits, eqb-true}
use Rattle.std.proofs.{lemmas.List.get_or-map, lemmas.List.length-map, lemmas.List.ext_get_or, lemmas.Nat.and_le_r}
use Rattle.std.proofs.lemmas.Simd.{Each1-all, Each1-weaker, Each1-zip2, Each2-splat, below_from_Fits, length-zip2, mask_l-mod, swz_l, SwzOk, SwzOk-from_below, length-swz_l, get_or-swz_l_below, get_or-zip2, get_or-replicate}
use lib.Lanes.{zip2, mask_l, top, Each1}
use Rattle.simdutf8.specs.{Classes.IsClass, Steps.AreZero, Tables.first_high, Tables.first_low, Tables.second_high}
use Rattle.simdutf8.proofs.{Lanes.lane_fits, Lanes.down, Lanes.differs, Pairs.fault, Pairs.fault-Step, Pairs.lookup_class}
use Rattle.zk_jute.specs.Follow.{Follow}

-- sixteen bytes
abbrev pub IsBlock : List ℕ → Type 0
IsBlock v = (length v ≡ 16) × Each1 (Fits w8) v

-- ---- look-ups

pub high_ok : (v : List ℕ) → IsBlock v → SwzOk w8 16 16 0 (zip2 down v (replicate 16 4))
high_ok v fits =
    let small = Each1-weaker (λ a. a < 256) (λ a. a / 16 < 16) (λ a h. omega arith) v (below_from_Fits w8 v fits.1) in
    SwzOk-from_below w8 16 1 16 0 (zip2 down v (replicate 16 4)) refl (omega (arith, length-zip2 down v (replicate 16 4) fits.0))
    (Each1-zip2 down (λ j. j < 16) v (replicate 16 4) (Each2-splat (λ a b. down a b < 16) v 16 4 small))

pub low_ok : (v : List ℕ) → IsBlock v → SwzOk w8 16 16 0 (zip2 bit_and v (replicate 16 15))
low_ok v fits =
    let small = Each1-all (λ a. bit_and a 15 < 16) (λ a. omega (arith, and_le_r a 15)) v in
    SwzOk-from_below w8 16 1 16 0 (zip2 bit_and v (replicate 16 15)) refl (omega (arith, length-zip2 bit_and v (replicate 16 15) fits.0))
    (Each1-zip2 bit_and (λ j. j < 16) v (replicate 16 15) (Each2-splat (λ a b. bit_and a b < 16) v 16 15 small))

-- a table read at places g x below 16
pub looked_up : (t : List ℕ) (g : ℕ → ℕ) (v js : List ℕ) → IsBlock v → js ≡ map g v → ((x : ℕ) → x < 256 → g x < 16) → swz_l w8 16 t 0 js ≡ map (λ x. get_or t (g x) 0) v
looked_up t g v js fits e small =
    let long : length js ≡ 16 = ap length e ∙ length-map v g ∙ fits.0 in
    ext_get_or 0 _ _ (length-swz_l w8 16 t 0 js ∙ long ∙ sym (length-map v (λ x. get_or t (g x) 0) ∙ fits.0)) (λ i h.
    let lt : i < 16 = omega (arith, length-swz_l w8 16 t 0 js) in
    let within : i < length v = omega (arith, fits.0) in
    let is : get_or js i 0 ≡ g (get_or v i 0) = ap (λ l. get_or l i 0) e ∙ get_or-map g v i 0 0 within in
    let below : get_or js i 0 < 16 = omega (arith, small (get_or v i 0) (lane_fits v i fits.1)) in
    let place : 16 * ((0 + i) / 16) + get_or js i 0 ≡ get_or js i 0 = omega arith in
    get_or-swz_l_below w8 16 t 0 js i (omega arith) below
    ∙ ap (λ k. get_or t k 0) place
    ∙ ap (λ k. get_or t k 0) is ∙ sym (get_or-map (λ x. get_or t (g x) 0) v i 0 0 within))

module _ (f : ℕ → ℕ → ℕ) (xs ys : List ℕ) (p : length xs ≡ 16) (q : length ys ≡ 16) where
  long : length (zip2 f xs ys) ≡ 16
  long = length-zip2 f xs ys (p ∙ sym q) ∙ p

  lane : (i : ℕ) → i < 16 → get_or (zip2 f xs ys) i 0 ≡ f (get_or xs i 0) (get_or ys i 0)
  lane i h = get_or-zip2 f xs ys i 0 0 0 (omega arith) (omega arith)

pub looked_up_lanes : (first second a b c : List ℕ) → IsBlock first → IsBlock second → a ≡ map first_high first → b ≡ map first_low first → c ≡ map second_high second
    → (length (zip2 bit_and (zip2 bit_and a b) c) ≡ 16) × ((i : ℕ) → i < 16 → IsClass (get_or first i 0) (get_or second i 0) (get_or (zip2 bit_and (zip2 bit_and a b) c) i 0))
looked_up_lanes first second a b c p q ea eb ec =
    let la : length a ≡ 16 = ap length ea ∙ length-map first first_high ∙ p.0 in
    let lb : length b ≡ 16 = ap length eb ∙ length-map first first_low ∙ p.0 in
    let lc : length c ≡ 16 = ap length ec ∙ length-map second second_high ∙ q.0 in
    let lab = long bit_and a b la lb in (
      long bit_and _ c lab lc,
      λ i h. rw (
        lane bit_and _ _ lab lc i h,
        lane bit_and _ _ la lb i h,
        ea,
        eb,
        ec,
        get_or-map first_high first i 0 0 (omega (arith, p.0)),
        get_or-map first_low first i 0 0 (omega (arith, p.0)),
        get_or-map second_high second i 0 0 (omega (arith, q.0)),
      )
          (lookup_class _ _ (lane_fits first i p.1) (lane_fits second i q.1)),
    )

-- ---- a block without a fault

flag : (x : ℕ) → (◌≡◌ {A = ℕ} (cond (top 7 (differs x 0)) 1 0) 0) → x ≡ 0
flag x = go (eqb x 0) refl
  where
    go : (t : Bool) → eqb x 0 ≡ t → (◌≡◌ {A = ℕ} (cond (top 7 (cond (not t) 255 0)) 1 0) 0) → x ≡ 0
    go true e = λ _. eqb-true _ _ e
    go false e = λ q. absurd (omega arith)

none_differ : (xs : List ℕ) → mask_l (map (top 7) (zip2 differs xs (replicate (length xs) 0))) ≡ 0 → AreZero xs
none_differ [] e i = refl
none_differ (x ∷ xs) e zero = flag x (omega arith)
none_differ (x ∷ xs) e (suc i) = none_differ xs (omega arith) i

pub zero_of_mask : (xs : List ℕ) → length xs ≡ 16 → eqb (mask_l (map (top 7) (zip2 differs xs (replicate 16 0))) % 2 ^ 64) 0 ≡ true → AreZero xs
zero_of_mask xs many e =
    none_differ xs (ap (λ n. mask_l (map (top 7) (zip2 differs xs (replicate n 0)))) many
    ∙ sym (mask_l-mod _ 64 (omega (arith, length-map (zip2 differs xs (replicate 16 0)) (top 7), length-zip2 differs xs (replicate 16 0) many))) ∙ eqb-true _ _ e)

pub faultless : (x y z block classes third fourth : List ℕ) → IsBlock x → IsBlock y → IsBlock z → IsBlock block → length classes ≡ 16 → length third ≡ 16 → length fourth ≡ 16
    → ((i : ℕ) → i < 16 → IsClass (get_or z i 0) (get_or block i 0) (get_or classes i 0)) → ((i : ℕ) → i < 16 → get_or third i 0 ≡ get_or y i 0 - 96)
    → ((i : ℕ) → i < 16 → get_or fourth i 0 ≡ get_or x i 0 - 112)
    → AreZero (zip2 bit_xor (zip2 bit_and (zip2 bit_or third fourth) (replicate 16 128)) classes) → Follow x y z block
faultless x y z block classes third fourth fx fy fz fb pairs l3 l4 class two three none i h =
    let late = long bit_or third fourth l3 l4 in
    let must = long bit_and _ (replicate 16 128) late refl in
    let is : get_or (zip2 bit_xor (zip2 bit_and (zip2 bit_or third fourth) (replicate 16 128)) classes) i 0 ≡ fault (get_or x i 0) (get_or y i 0) (get_or classes i 0) =
    rw (
      lane bit_xor _ _ must pairs i h,
      lane bit_and _ _ late refl i h,
      lane bit_or _ _ l3 l4 i h,
      get_or-replicate {A = ℕ} 16 i 128 0 h,
      two i h,
      three i h,
    ) refl in
    (fault-Step _ _ _ _ _ (lane_fits x i fx.1) (lane_fits y i fy.1) (lane_fits z i fz.1) (lane_fits block i fb.1) (class i h)).0 (sym is ∙ none i)
