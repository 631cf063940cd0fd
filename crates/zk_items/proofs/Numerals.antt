-- Numbers told from their digits alone.
use Rattle.std.proofs.Common.{◌≡◌, ℕ, zero, suc, ◌+◌, ◌-◌, ◌*◌, ◌^◌, ◌<◌, ◌≤◌, Some, true, false, List, ◌∷◌, length, take, drop, get_or, ap, sym, ◌∙◌, arith, lt-ltb, SFits, w32, w64, to_z, of_z}
use Rattle.std.specs.Prelude.{◌≢◌, ℤ, pos, negsuc, neg_ℤ}
use Rattle.std.specs.{List.prefix_len, Fmt.decimal, Fmt.signed_decimal, Str.Parse.AllDigits, Str.Parse.digits_value, Str.Parse.signed_digits_value}
use Rattle.std.proofs.{lemmas.Int.to_z-of_z, lemmas.Int.Digits.digits_more, lemmas.Int.Digits.digits_value_more, lemmas.Fmt.decimal-digits_value, lemmas.List.length-take-le, lemmas.List.get_or-take, lemmas.List.Sums.prefix_len_is}
use Rattle.std.proofs.lemmas.Str.{digit_value_digit}
use Rattle.std.proofs.lemmas.Str.Parse.{IsNumeralModel, numerals_by_value, tells_digits, digits_value_short, digit_at}
use Rattle.zk_items.specs.Leaf.{in_number, in_range, num_of, num_at}
use Rattle.zk_items.proofs.Numbers.{num_of_some, num_of_sound, wide, int_fits, long_fits, written_value}

own : IsNumeralModel (AllDigits 10) (digits_value 10)
own = numerals_by_value (AllDigits 10) tells_digits

-- room for one more digit
pub one_more_fits : (ds : List ℕ) (k value : ℕ) → AllDigits 10 (take k ds) → k ≤ 18 → k ≤ length ds → value ≡ digits_value 10 (take k ds) → value < 10 ^ 18
one_more_fits ds k value all few within is =
    let short = digits_value_short own (take k ds) 18 all (omega (arith, length-take-le k ds within)) in
    omega (arith, short)

pub record NextDigit (ds : List ℕ) (k n : ℕ) : Type 0 where
  pub digits : AllDigits 10 (take (k + 1) ds)
  pub value : n ≡ digits_value 10 (take (k + 1) ds)

pub next_digit : (ds : List ℕ) (k value : ℕ) → AllDigits 10 (take k ds) → k < length ds → value ≡ digits_value 10 (take k ds) → 48 ≤ get_or ds k 0 → get_or ds k 0 ≤ 57
    → NextDigit ds k (value * 10 + (get_or ds k 0 - 48))
next_digit ds k value all within is low high =
    let digit = digit_value_digit (get_or ds k 0) (low, high) in
    let more = digits_value_more 10 ds k within in
    record { digits = digits_more 10 ds k within all (omega (arith, digit)); value = omega (arith, digit, more, is) }

-- so many digits, and no more
pub run_of_digits : (bytes : List ℕ) (n : ℕ) → AllDigits 10 (take n bytes) → n ≤ length bytes → (n < length bytes → in_number (get_or bytes n 0) ≡ false) → prefix_len in_number bytes ≡ n
run_of_digits bytes n all within ends = prefix_len_is in_number bytes n 0 within each ends where
  each : (k : ℕ) → k < n → in_number (get_or bytes k 0) ≡ true
  each k before =
      let range = digit_at (take n bytes) k all (omega (arith, length-take-le n bytes within)) in
      let same = get_or-take n bytes k 0 before in
      let low : 48 ≤ get_or bytes k 0 = omega (arith, range.0, same) in
      let high : get_or bytes k 0 ≤ 57 = omega (arith, range.1, same) in
      passes (get_or bytes k 0) low high
    where
      passes : (b : ℕ) → 48 ≤ b → b ≤ 57 → in_number b ≡ true
      passes b low high = grind arith

-- digits without a leading zero are how their number is written
pub spelled : (bytes : List ℕ) (n value : ℕ) → AllDigits 10 (take n bytes) → 0 < n → n ≤ length bytes → (get_or bytes 0 0 ≡ 48 → n ≤ 1) → value ≡ digits_value 10 (take n bytes) → value < 2 ^ 64 → take n bytes ≡ decimal value
spelled bytes n value all some within lead is small =
    let ds = take n bytes in
    let long : length ds ≡ n = length-take-le n bytes within in
    let first : get_or ds 0 0 ≡ get_or bytes 0 0 = get_or-take n bytes 0 0 some in
    sym (ap decimal is ∙ decimal-digits_value own ds all (omega (arith, long)) (λ zero. let one = lead (sym first ∙ zero) in omega (arith, long, one)) (omega (arith, is, small)))

-- a run that is how a number is written is read as it, and the long that the code makes of it is that number
pub read_plain : (bytes : List ℕ) (value len : ℕ) (n : ℤ) → take len bytes ≡ decimal value → prefix_len in_number bytes ≡ len → (n ≡ pos value) × (value < 2 ^ 63) → num_at 63 bytes ≡ Some (to_z w64 (of_z w64 n), drop len bytes)
unfolding num_at
read_plain bytes value len n is run (same, small) =
    let fit : in_range 63 (pos value) ≡ true = lt-ltb value (2 ^ 63) small in
    let fits : SFits w64 (pos value) = record { sfits = small } in
    ap (λ (k : ℕ). num_of 63 (take k bytes) (drop k bytes)) run ∙ num_of_some 63 (pos value) (take len bytes) (drop len bytes) fit fit is
    ∙ ap (λ (z : ℤ). Some (z, drop len bytes)) (sym (to_z-of_z w64 (pos value) fits)) ∙ ap (λ (z : ℤ). Some (to_z w64 (of_z w64 z), drop len bytes)) (sym same)

below : (rest : List ℕ) (value len : ℕ) → take len rest ≡ decimal (suc value) → prefix_len in_number rest ≡ len → value < 2 ^ 63 → num_at 63 (45 ∷ rest) ≡ Some (negsuc value, drop (suc len) (45 ∷ rest))
unfolding num_at
below rest value len is run small =
    let fit : in_range 63 (negsuc value) ≡ true = lt-ltb value (2 ^ 63) small in
    let one : 1 + len ≡ suc len = omega arith in
    ap (λ (k : ℕ). num_of 63 (take (1 + k) (45 ∷ rest)) (drop (1 + k) (45 ∷ rest))) run
    ∙ ap (λ (k : ℕ). num_of 63 (take k (45 ∷ rest)) (drop k (45 ∷ rest))) one
    ∙ num_of_some 63 (negsuc value) (45 ∷ take len rest) (drop len rest) fit fit (ap (λ (l : List ℕ). 45 ∷ l) is)

pub read_minus : (bytes rest : List ℕ) (value len : ℕ) (n : ℤ) → bytes ≡ 45 ∷ rest → take len rest ≡ decimal value → prefix_len in_number rest ≡ len → (n ≡ neg_ℤ (pos value)) × (0 < value) × (value ≤ 2 ^ 63)
    → num_at 63 bytes ≡ Some (to_z w64 (of_z w64 n), drop (len + 1) bytes)
read_minus bytes rest zero len n front is run (same, some, small) = absurd (omega arith)
read_minus bytes rest (suc value) len n front is run (same, some, small) =
    let fits : SFits w64 (negsuc value) = record { sfits = omega (arith, small) } in
    let one : suc len ≡ len + 1 = omega arith in
    ap (num_at 63) front ∙ below rest value len is run (omega (arith, small))
    ∙ ap (λ (z : ℤ). Some (z, drop (suc len) (45 ∷ rest))) (sym (to_z-of_z w64 (negsuc value) fits)) ∙ ap (λ (z : ℤ). Some (to_z w64 (of_z w64 z), drop (suc len) (45 ∷ rest))) (sym same)
    ∙ ap (λ (k : ℕ). Some (to_z w64 (of_z w64 n), drop k (45 ∷ rest))) one ∙ ap (λ (b : List ℕ). Some (to_z w64 (of_z w64 n), drop (len + 1) b)) (sym front)

-- a long that is an int is read as an int too
pub read_narrow : (bytes rest : List ℕ) (n m : ℤ) → num_at 63 bytes ≡ Some (n, rest) → (m ≡ to_z w64 (of_z w64 n)) × (in_range 31 m ≡ true) → num_at 31 bytes ≡ Some (to_z w32 (of_z w32 m), rest)
unfolding num_at
read_narrow bytes rest n m read (same, fit) =
    let k = prefix_len in_number bytes in
    let sound = num_of_sound 63 (take k bytes) (drop k bytes) n rest read in
    let number : m ≡ n = same ∙ to_z-of_z w64 n (long_fits n sound.1) in
    let spelled : take k bytes ≡ signed_decimal m = sound.0 ∙ ap signed_decimal (sym number) in
    num_of_some 31 m (take k bytes) (drop k bytes) (wide m fit) fit spelled ∙ ap (λ (r : List ℕ). Some (m, r)) sound.2
    ∙ ap (λ (z : ℤ). Some (z, rest)) (sym (to_z-of_z w32 m (int_fits m fit)))

-- a long that is no int is spelled as no int is
pub none_narrow : (run : List ℕ) (n : ℤ) → (run ≡ signed_decimal n) × (in_range 63 n ≡ true) → in_range 31 (to_z w64 (of_z w64 n)) ≡ false → (z : ℤ) → in_range 31 z ≡ true → run ≢ signed_decimal z
none_narrow run n (is, fits) out z fit e =
    let same : n ≡ z = sym (written_value n fits).0 ∙ ap (signed_digits_value 10) (sym is ∙ e) ∙ (written_value z (wide z fit)).0 in
    let k : false ≡ true = sym out ∙ ap (in_range 31) (to_z-of_z w64 n (long_fits n fits) ∙ same) ∙ fit in cc
