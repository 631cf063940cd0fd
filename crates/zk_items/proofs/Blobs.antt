-- Blobs are read as they are spelled.
use Rattle.std.specs.Prelude.{◌≡◌, ℕ, zero, suc, ◌+◌, ◌*◌, ◌/◌, ◌%◌, ◌<◌, List, [], ◌∷◌, ◌++◌, length, take, drop, Option, Some, None, Result, Ok, Err, Bool, true, false, ◌==◌, refl, slice_index}
use Rattle.std.specs.List.{prefix_len, AllByRecursion}
use Rattle.std.proofs.Common.{ap, sym, ◌∙◌, cond, arith, subst, eqb-true}
use Rattle.std.proofs.{lemmas.List.take-append-drop, Math.Seq.take-append_seam, Math.Seq.drop-append_seam, lemmas.Bool.agree_below_at}
use Rattle.hex.specs.Hex.{encode_lower, encode_with, lower_digits, IsBytes, decode_of, decode_pairs, hex_digit_value, value_at, digit_or_error, pair_value}
use Rattle.hex.specs.Hex as hex
use Rattle.hex.specs.{declared.error.FromHexError.FromHexError, declared.error.FromHexError.TheVariants.OddLength}
use Rattle.hex.proofs.HexLemmas.{decode_of-encode_lower}
use Rattle.zk_jute.specs.Held.{Blob}
use Rattle.zk_jute.specs.declared.value.Nullable.TheVariants as nullable
use Rattle.zk_items.specs.{Form.Read, Form.stops, Form.in_item, Laws.Lawful}
use Rattle.zk_items.specs.Leaf.{in_hex, hex_digit, decoded, blob_at, blob_spell, blob_fits, blob}
use Rattle.zk_items.proofs.{Forms.some_is, Runs.run_is, Runs.run_passes, Runs.stops_end_run}

hex_in_item : (b : ℕ) → in_hex b ≡ true → in_item b ≡ true
hex_in_item b h = grind arith

pub as_bytes : (bytes : List ℕ) → AllByRecursion (λ b. b < 256) bytes → IsBytes bytes
as_bytes [] fit i = omega arith
as_bytes (b ∷ bytes) fit zero = fit.0
as_bytes (b ∷ bytes) fit (suc i) = as_bytes bytes fit.1 i

-- the digits of the crate's table are ours
pub digit_is : (n : ℕ) → n < 16 → slice_index lower_digits n ≡ hex_digit n
digit_is n small = eqb-true _ _ (agree_below_at (λ n. slice_index lower_digits n == hex_digit n) (λ _. true) 16 n refl small)

digit_passes : (n : ℕ) → n < 16 → in_hex (slice_index lower_digits n) ≡ true
digit_passes n small = agree_below_at (λ n. in_hex (slice_index lower_digits n)) (λ _. true) 16 n refl small

all_hex : (bytes : List ℕ) → AllByRecursion (λ b. b < 256) bytes → AllByRecursion (λ b. in_hex b ≡ true) (encode_lower bytes)
unfolding encode_with
all_hex [] fit = tt
all_hex (b ∷ bytes) fit =
    let small : b < 256 = fit.0 in
    (digit_passes (b / 16) (omega arith), (digit_passes (b % 16) (omega arith), all_hex bytes fit.1))

-- ---- lower-case digits decode to what they are written of

bind_ok : {A B : Type 0} (r : Result A FromHexError) (f : A → Result B FromHexError) (y : B) → ◌≡◌ {A = Result B FromHexError} (hex.◌>>=◌ r f) (Ok y) → (x : A) × (r ≡ Ok x) × (f x ≡ Ok y)
bind_ok (Ok x) f y e = (x, refl, e)
bind_ok (Err d) f y e = absurd cc

ok_same : {A : Type 0} (a b : A) → ◌≡◌ {A = Result A FromHexError} (Ok a) (Ok b) → a ≡ b
ok_same a b e = cc

lower_digit : (c v : ℕ) → in_hex c ≡ true → hex_digit_value c ≡ Some v → (c ≡ hex_digit v) × (v < 16)
lower_digit c v h e = (grind (arith, h, e), grind (arith, h, e))

digit_ok : (c i v : ℕ) → in_hex c ≡ true → value_at c i ≡ Ok v → (c ≡ slice_index lower_digits v) × (v < 16)
digit_ok c i v h e = pick (hex_digit_value c) refl e where
  pick : (o : Option ℕ) → hex_digit_value c ≡ o → digit_or_error c i o ≡ Ok v → (c ≡ slice_index lower_digits v) × (v < 16)
  pick None is e = absurd cc
  pick (Some w) is e =
      let same : w ≡ v = cc in
      let d = lower_digit c v h (is ∙ ap Some same) in
      (d.0 ∙ sym (digit_is v d.1), d.1)

pair_ok : (h l i v : ℕ) → in_hex h ≡ true → in_hex l ≡ true → pair_value h l i ≡ Ok v → (h ≡ slice_index lower_digits (v / 16)) × (l ≡ slice_index lower_digits (v % 16)) × (v < 256)
pair_ok h l i v high low e =
    let a = bind_ok (value_at h i) (λ x. hex.◌>>=◌ (value_at l (i + 1)) (λ y. Ok (x * 16 + y))) v e in
    let b = bind_ok (value_at l (i + 1)) (λ y. Ok (a.0 * 16 + y)) v a.2 in
    let x = digit_ok h i a.0 high a.1 in
    let y = digit_ok l (i + 1) b.0 low b.1 in
    let small_x : a.0 < 16 = x.1 in
    let small_y : b.0 < 16 = y.1 in
    let value : a.0 * 16 + b.0 ≡ v = ok_same (a.0 * 16 + b.0) v b.2 in
    let quotient : a.0 ≡ v / 16 = omega arith in
    let remainder : b.0 ≡ v % 16 = omega arith in
    (x.0 ∙ ap (slice_index lower_digits) quotient, y.0 ∙ ap (slice_index lower_digits) remainder, omega arith)

lower_pairs : (run bytes : List ℕ) (i : ℕ) → AllByRecursion (λ b. in_hex b ≡ true) run → decode_pairs i run ≡ Ok bytes → (run ≡ encode_lower bytes) × AllByRecursion (λ b. b < 256) bytes
unfolding decode_pairs encode_with
lower_pairs [] [] i all e = (refl, tt)
lower_pairs [] (b ∷ bytes) i all e = absurd cc
lower_pairs (h ∷ []) bytes i all e = absurd cc
lower_pairs (h ∷ l ∷ rest) bytes i all e =
    let a = bind_ok (pair_value h l i) (λ byte. hex.◌>>=◌ (decode_pairs (i + 2) rest) (λ bs. Ok (byte ∷ bs))) bytes e in
    let b = bind_ok (decode_pairs (i + 2) rest) (λ bs. Ok (a.0 ∷ bs)) bytes a.2 in
    let p = pair_ok h l i a.0 all.0 all.1.0 a.1 in
    let r = lower_pairs rest b.0 (i + 2) all.1.1 b.1 in
    let same : a.0 ∷ b.0 ≡ bytes = ok_same (a.0 ∷ b.0) bytes b.2 in
    let spelled : h ∷ l ∷ rest ≡ encode_lower (a.0 ∷ b.0) = ap (λ (c : ℕ). c ∷ l ∷ rest) p.0 ∙ ap (λ (c : ℕ). slice_index lower_digits (a.0 / 16) ∷ c ∷ rest) p.1 ∙ ap (λ (r : List ℕ). slice_index lower_digits (a.0 / 16) ∷ slice_index lower_digits (a.0 % 16) ∷ r) r.0 in
    subst (λ (bs : List ℕ). (h ∷ l ∷ rest ≡ encode_lower bs) × AllByRecursion (λ b. b < 256) bs) same (spelled, (p.2, r.1))

-- what is decoded of lower-case digits is written so again
pub lower_again : (run bytes : List ℕ) → AllByRecursion (λ b. in_hex b ≡ true) run → decode_of run ≡ Ok bytes → (run ≡ encode_lower bytes) × AllByRecursion (λ b. b < 256) bytes
lower_again run bytes h e = pick (length run % 2 == 1) e where
  pick : (t : Bool) → cond t (Err OddLength) (decode_pairs 0 run) ≡ Ok bytes → (run ≡ encode_lower bytes) × AllByRecursion (λ b. b < 256) bytes
  pick true e = absurd cc
  pick false e = lower_pairs run bytes 0 h e

pub blob_again : (x : Blob) (rest : List ℕ) → blob_fits x → stops rest ≡ true → blob_at (blob_spell x ++ rest) ≡ Some (x, rest)
unfolding blob_at
blob_again nullable.Null rest fit stop = refl
blob_again (nullable.Full bytes) rest fit stop =
    let len : prefix_len in_hex (encode_lower bytes ++ rest) ≡ length (encode_lower bytes) = run_is in_hex (encode_lower bytes) rest (all_hex bytes fit) (stops_end_run in_hex hex_in_item rest stop) in
    ap (λ (n : ℕ). decoded (decode_of (take n (encode_lower bytes ++ rest))) (drop n (encode_lower bytes ++ rest))) len
    ∙ ap (λ (r : List ℕ). decoded (decode_of r) (drop (length (encode_lower bytes)) (encode_lower bytes ++ rest))) (take-append_seam (encode_lower bytes) rest)
    ∙ ap (λ (r : List ℕ). decoded (decode_of (encode_lower bytes)) r) (drop-append_seam (encode_lower bytes) rest)
    ∙ ap (λ (r : Result (List ℕ) FromHexError). decoded r rest) (decode_of-encode_lower bytes (as_bytes bytes fit))

pub blob_sound : (bytes : List ℕ) (x : Blob) (rest : List ℕ) → blob_at bytes ≡ Some (x, rest) → (bytes ≡ blob_spell x ++ rest) × blob_fits x
unfolding blob_at
blob_sound [] x rest e = absurd cc
blob_sound (c ∷ bytes) x rest e = first (c == 126) refl e where
  third : (r : Result (List ℕ) FromHexError) → decode_of (take (prefix_len in_hex bytes) bytes) ≡ r → decoded r (drop (prefix_len in_hex bytes) bytes) ≡ Some (x, rest) → (35 ∷ bytes ≡ blob_spell x ++ rest) × blob_fits x
  third (Err f) is e = absurd cc
  third (Ok b) is e =
      let n = prefix_len in_hex bytes in
      let pair = some_is (nullable.Full b, drop n bytes) (x, rest) e in
      let s = lower_again (take n bytes) b (run_passes in_hex bytes) is in
      subst (λ (x : Blob). (35 ∷ bytes ≡ blob_spell x ++ rest) × blob_fits x) pair.0
      (ap (λ (r : List ℕ). 35 ∷ r) (sym (take-append-drop n bytes) ∙ ap (λ (r : List ℕ). r ++ drop n bytes) s.0 ∙ ap (λ (r : List ℕ). encode_lower b ++ r) pair.1), s.1)

  second : (t : Bool) → (c == 35) ≡ t → cond {A = Read Blob} t (decoded (decode_of (take (prefix_len in_hex bytes) bytes)) (drop (prefix_len in_hex bytes) bytes)) None ≡ Some (x, rest) → (c ∷ bytes ≡ blob_spell x ++ rest) × blob_fits x
  second false is e = absurd cc
  second true is e = let s = third (decode_of (take (prefix_len in_hex bytes) bytes)) refl e in (ap (λ (c : ℕ). c ∷ bytes) (eqb-true c 35 is) ∙ s.0, s.1)

  first : (t : Bool) → (c == 126) ≡ t → cond {A = Read Blob} t (Some (nullable.Null, bytes)) (cond {A = Read Blob} (c == 35) (decoded (decode_of (take (prefix_len in_hex bytes) bytes)) (drop (prefix_len in_hex bytes) bytes)) None) ≡ Some (x, rest) → (c ∷ bytes ≡ blob_spell x ++ rest) × blob_fits x
  first false is e = second (c == 35) refl e
  first true is e =
      let pair = some_is (nullable.Null, bytes) (x, rest) e in
      subst (λ (x : Blob). (c ∷ bytes ≡ blob_spell x ++ rest) × blob_fits x) pair.0 (ap (λ (c : ℕ). c ∷ bytes) (eqb-true c 126 is) ∙ ap (λ (b : List ℕ). 126 ∷ b) pair.1, tt)

pub blob_is : Lawful blob
blob_is = record { again = blob_again; sound = blob_sound }
