-- Numbers are read as they are written.
use Rattle.std.specs.Prelude.{◌≡◌, ◌≢◌, ℕ, suc, ◌^◌, ◌<◌, ◌≤◌, List, [], ◌∷◌, ◌++◌, length, take, drop, Some, None, Result, Ok, Bool, true, false, ◌==◌, ◌&&◌, ◌||◌, nat_le, ℤ, pos, negsuc, IsUtf8, bytes_eq, refl}
use Rattle.std.specs.{List.prefix_len, List.AllByRecursion, Fmt.signed_decimal, Fmt.decimal}
use Rattle.std.specs.Str.Parse.{signed_digits_value, digits_value, AllDigits, ParsesSigned, without_leading_sign, without_leading_plus}
use Rattle.std.proofs.Common.{ap, sym, ◌∙◌, cond, arith, subst, ltb-true, lt-ltb, le-leb, ne_eqb, neg_ℤ, SFits, w32, w64}
use Rattle.std.proofs.{lemmas.List.take-append-drop, Math.Seq.take-append_seam, Math.Seq.drop-append_seam, lemmas.Fmt.decimal_is_IsNumeral, lemmas.Fmt.IsAscii-signed, lemmas.Fmt.parse-signed_decimal, lemmas.Str.IsUtf8-from_ascii}
use Rattle.std.proofs.{lemmas.Str.Parse.digit_from_value, lemmas.Slice.Eq.bytes_eq-Decides}
use lib.Signed.{mag}
use Rattle.zk_items.specs.{Form.Read, Form.in_item, Leaf.in_number, Leaf.in_range, Leaf.num_of, Leaf.num_at, Leaf.int, Leaf.long, Laws.Lawful}
use Rattle.zk_items.proofs.{Forms.if_some, Forms.some_is, Runs.run_is, Runs.run_ends, Runs.stops_end_run}

pub all_digits : (ds : List ℕ) → AllDigits 10 ds → AllByRecursion (λ b. in_number b ≡ true) ds
all_digits [] h = tt
all_digits (c ∷ cs) h = let r = digit_from_value c h.0 in (is_digit c r.0 r.1, all_digits cs h.1) where
  is_digit : (c : ℕ) → 48 ≤ c → c ≤ 57 → in_number c ≡ true
  is_digit c low high = ap (λ (t : Bool). (t && nat_le c 57) || c == 45) (le-leb 48 c low) ∙ ap (λ (t : Bool). t || c == 45) (le-leb c 57 high)

-- digits write their number
pub plain_value : (ds : List ℕ) → AllDigits 10 ds → 0 < length ds → signed_digits_value 10 ds ≡ pos (digits_value 10 ds)
plain_value [] h some = absurd (omega arith)
plain_value (c ∷ cs) h some =
    let r = digit_from_value c h.0 in
    let minus : (c == 45) ≡ false = ne_eqb c 45 (omega arith) in
    let plus : (c == 43) ≡ false = ne_eqb c 43 (omega arith) in
    let front : without_leading_plus (c ∷ cs) ≡ c ∷ cs = ap (λ (t : Bool). drop (cond t 1 0) (c ∷ cs)) plus in
    let sign : without_leading_sign (c ∷ cs) ≡ c ∷ cs = ap (λ (t : Bool). cond t (drop 1 (c ∷ cs)) (without_leading_plus (c ∷ cs))) minus ∙ front in
    ap (λ (t : Bool). cond t (neg_ℤ (pos (digits_value 10 (without_leading_sign (c ∷ cs))))) (pos (digits_value 10 (without_leading_sign (c ∷ cs))))) minus
    ∙ ap (λ (ds : List ℕ). pos (digits_value 10 ds)) sign

-- a number in range, by its magnitude
pub range_small : (k : ℕ) (z : ℤ) → in_range k z ≡ true → mag z < 2 ^ k
range_small k (pos n) fit = ltb-true n (2 ^ k) fit
range_small k (negsuc n) fit = ltb-true n (2 ^ k) fit

pub small_range : (k : ℕ) (z : ℤ) → mag z < 2 ^ k → in_range k z ≡ true
small_range k (pos n) small = lt-ltb n (2 ^ k) small
small_range k (negsuc n) small = lt-ltb n (2 ^ k) small

pub wide : (z : ℤ) → in_range 31 z ≡ true → in_range 63 z ≡ true
wide z fit = let small = range_small 31 z fit in small_range 63 z (omega arith)

pub int_fits : (z : ℤ) → in_range 31 z ≡ true → SFits w32 z
int_fits z fit = record { sfits = range_small 31 z fit }

pub long_fits : (z : ℤ) → in_range 63 z ≡ true → SFits w64 z
long_fits z fit = record { sfits = range_small 63 z fit }

pub written_value : (x : ℤ) → in_range 63 x ≡ true → (signed_digits_value 10 (signed_decimal x) ≡ x) × AllByRecursion (λ b. in_number b ≡ true) (signed_decimal x)
written_value (pos n) fit =
    let small : n < 2 ^ 63 = ltb-true n (2 ^ 63) fit in
    let d = decimal_is_IsNumeral n (omega arith) in
    (plain_value (decimal n) d.0.1 d.0.0 ∙ ap pos d.1, all_digits (decimal n) d.0.1)
written_value (negsuc n) fit =
    let small : n < 2 ^ 63 = ltb-true n (2 ^ 63) fit in
    let d = decimal_is_IsNumeral (suc n) (omega arith) in
    (ap (λ (m : ℕ). neg_ℤ (pos m)) d.1, (refl, all_digits (decimal (suc n)) d.0.1))

pub number_in_item : (b : ℕ) → in_number b ≡ true → in_item b ≡ true
number_in_item b h = elim (nat_le 48 b && nat_le b 57) as (λ t. (t || b == 45) ≡ true → (t || (nat_le 65 b && nat_le b 90) || (nat_le 97 b && nat_le b 122) || b == 45 || b == 47) ≡ true) [
  | true ↦ λ _. refl
  | false ↦ λ h. grind arith
] h

pub equal_bytes : (xs ys : List ℕ) → xs ≡ ys → bytes_eq xs ys ≡ true
equal_bytes xs ys e = grind (arith, bytes_eq-Decides, e)

pub num_of_some : (k : ℕ) (x : ℤ) (run rest : List ℕ) → in_range 63 x ≡ true → in_range k x ≡ true → run ≡ signed_decimal x → num_of k run rest ≡ Some (x, rest)
unfolding num_of
num_of_some k x run rest wide fit e =
    let v : signed_digits_value 10 run ≡ x = ap (signed_digits_value 10) e ∙ (written_value x wide).0 in
    ap (λ (z : ℤ). cond (bytes_eq (signed_decimal z) run && in_range k z) (Some (z, rest)) None) v
    ∙ ap (λ (t : Bool). cond (t && in_range k x) (Some (x, rest)) None) (equal_bytes (signed_decimal x) run (sym e))
    ∙ ap (λ (t : Bool). cond t (Some (x, rest)) None) fit

pub num_of_sound : (k : ℕ) (run rest : List ℕ) (x : ℤ) (behind : List ℕ) → num_of k run rest ≡ Some (x, behind) → (run ≡ signed_decimal x) × (in_range k x ≡ true) × (rest ≡ behind)
unfolding num_of
num_of_sound k run rest x behind e =
    let z = signed_digits_value 10 run in
    let a = if_some (bytes_eq (signed_decimal z) run && in_range k z) (Some (z, rest)) (x, behind) e in
    let pair = some_is (z, rest) (x, behind) a.1 in
    let parts = both_pass (bytes_eq (signed_decimal z) run) (in_range k z) a.0 in
    (same_bytes run (signed_decimal z) (signed_decimal x) parts.0 (ap signed_decimal pair.0), ap (in_range k) (sym pair.0) ∙ parts.1, pair.1) where
      both_pass : (a b : Bool) → (a && b) ≡ true → (a ≡ true) × (b ≡ true)
      both_pass true b e = (refl, e)
      both_pass false b e = absurd cc

      same_bytes : (run a b : List ℕ) → bytes_eq a run ≡ true → a ≡ b → run ≡ b
      same_bytes run a b e h = let d : a ≡ run = grind (arith, bytes_eq-Decides, e) in sym d ∙ h

pub num_again : (k : ℕ) (small : (n : ℕ) → n < 2 ^ k → n < 2 ^ 63) (x : ℤ) (rest : List ℕ) → in_range k x ≡ true → run_ends in_number rest ≡ true → num_at k (signed_decimal x ++ rest) ≡ Some (x, rest)
unfolding num_at
num_again k small x rest fit stop =
    let wide = small_range 63 x (small (mag x) (range_small k x fit)) in
    let w = written_value x wide in
    let len : prefix_len in_number (signed_decimal x ++ rest) ≡ length (signed_decimal x) = run_is in_number (signed_decimal x) rest w.1 stop in
    ap (λ (n : ℕ). num_of k (take n (signed_decimal x ++ rest)) (drop n (signed_decimal x ++ rest))) len
    ∙ ap (λ (r : List ℕ). num_of k r (drop (length (signed_decimal x)) (signed_decimal x ++ rest))) (take-append_seam (signed_decimal x) rest)
    ∙ ap (λ (r : List ℕ). num_of k (signed_decimal x) r) (drop-append_seam (signed_decimal x) rest)
    ∙ num_of_some k x (signed_decimal x) rest wide fit refl

pub num_sound : (k : ℕ) (bytes : List ℕ) (x : ℤ) (rest : List ℕ) → num_at k bytes ≡ Some (x, rest) → (bytes ≡ signed_decimal x ++ rest) × (in_range k x ≡ true)
unfolding num_at
num_sound k bytes x rest e =
    let n = prefix_len in_number bytes in
    let s = num_of_sound k (take n bytes) (drop n bytes) x rest e in
    (sym (take-append-drop n bytes) ∙ ap (λ (r : List ℕ). r ++ drop n bytes) s.0 ∙ ap (λ (r : List ℕ). signed_decimal x ++ r) s.2, s.1)

pub int_is : Lawful int
int_is = record { again = λ x rest fit stop. num_again 31 (λ n h. omega arith) x rest fit (stops_end_run in_number number_in_item rest stop); sound = num_sound 31 }

pub long_is : Lawful long
long_is = record { again = λ x rest fit stop. num_again 63 (λ n h. h) x rest fit (stops_end_run in_number number_in_item rest stop); sound = num_sound 63 }

-- ---- what the readers cite

pub num_none : (k : ℕ) (run rest : List ℕ) → ((z : ℤ) → in_range k z ≡ true → run ≢ signed_decimal z) → num_of k run rest ≡ None
num_none k run rest h = pick (num_of k run rest) refl where
  pick : (r : Read ℤ) → num_of k run rest ≡ r → r ≡ None
  pick None e = refl
  pick (Some q) e = let s = num_of_sound k run rest q.0 q.1 e in absurd (h q.0 s.1 s.0)

pub number_text : (z : ℤ) (run : List ℕ) → in_range 63 z ≡ true → run ≡ signed_decimal z → IsUtf8 run
number_text z run fit e = subst (λ (r : List ℕ). IsUtf8 r) (sym e) (IsUtf8-from_ascii (signed_decimal z) (IsAscii-signed z (range_small 63 z fit)))

pub parse_long : {E : Type 0} (z : ℤ) (run : List ℕ) (r : Result ℤ E) → in_range 63 z ≡ true → run ≡ signed_decimal z → ParsesSigned w64 10 run r → r ≡ Ok z
parse_long z run r fit e h = parse-signed_decimal w64 z run r (long_fits z fit) (range_small 63 z fit) e h
