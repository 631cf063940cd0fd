-- Printed bytes: ASCII characters from the blank to `~`. Numbers, texts, blobs, words and names are spelled by such.
use Rattle.std.proofs.Common.{◌≡◌, ℕ, zero, suc, ◌/◌, ◌%◌, ◌<◌, ◌≤◌, List, [], ◌∷◌, ◌++◌, Some, Bool, true, false, ◌==◌, ◌&&◌, refl, ap, sym, ◌∙◌, cond, arith, leb-true}
use Rattle.std.specs.Prelude.{ℤ, pos, negsuc, ◌≢◌, nat_le, slice_index}
use Rattle.std.specs.{List.flat_map, List.AllByRecursion, Map.lookup, Ordering.int_eq, Fmt.signed_decimal, Fmt.decimal, Fmt.digits, Fmt.digits_onto, Fmt.digit_glyph}
use Rattle.std.proofs.lemmas.Bool.{and_parts, agree_below_at}
use Rattle.hex.specs.Hex.{encode_lower, encode_with, lower_digits}
use Rattle.zk_jute.specs.Held.{Text, Blob}
use Rattle.zk_jute.specs.declared.value.Nullable.TheVariants as nullable
use Rattle.zk_records.specs.Names.{errors, events}
use Rattle.zk_items.specs.Leaf.{in_name, is_plain, hex_digit, symbol_spell, text_spell, text_fits, blob_spell, blob_fits}
use Rattle.zk_items.specs.Codes.{name_spell, error_name, type_name}
use Rattle.zk_lines.specs.{declared.word.Word.Word, Words.word_of}
use Rattle.zk_lines.specs.declared.word.Word.TheVariants as words

-- ---- bytes

abbrev pub is_printed : ℕ → Bool
is_printed b = nat_le 32 b && nat_le b 126

abbrev pub Printed : List ℕ → Type 0
Printed bytes = AllByRecursion (λ b. is_printed b ≡ true) bytes

abbrev pub are_printed : List ℕ → Bool
are_printed [] = true
are_printed (b ∷ bytes) = is_printed b && are_printed bytes

-- bytes that are written out
pub checked : (bytes : List ℕ) → are_printed bytes ≡ true → Printed bytes
checked [] e = tt
checked (b ∷ bytes) e = let p = and_parts (is_printed b) (are_printed bytes) e in (p.0, checked bytes p.1)

pub joined : (xs ys : List ℕ) → Printed xs → Printed ys → Printed (xs ++ ys)
joined [] ys h k = k
joined (x ∷ xs) ys h k = (h.0, joined xs ys h.1 k)

-- ---- numbers

glyph_printed : (d : ℕ) → d < 10 → is_printed (digit_glyph false d) ≡ true
glyph_printed d small = agree_below_at (λ d. is_printed (digit_glyph false d)) (λ _. true) 10 d refl small

onto_printed : (k n : ℕ) (behind : List ℕ) → Printed behind → Printed (digits_onto k 10 false n behind)
onto_printed zero n behind h = h
onto_printed (suc k) n behind h = pick (n / 10 == 0) (onto_printed k (n / 10) (digit_glyph false (n % 10) ∷ behind) (glyph, h)) where
  glyph : is_printed (digit_glyph false (n % 10)) ≡ true
  glyph = glyph_printed (n % 10) (omega arith)

  pick : (t : Bool) → Printed (digits_onto k 10 false (n / 10) (digit_glyph false (n % 10) ∷ behind)) → Printed (cond t (digit_glyph false (n % 10) ∷ behind) (digits_onto k 10 false (n / 10) (digit_glyph false (n % 10) ∷ behind)))
  pick true more = (glyph, h)
  pick false more = more

pub decimal_printed : (n : ℕ) → Printed (decimal n)
unfolding digits
decimal_printed n = onto_printed 64 n [] tt

pub number_printed : (n : ℤ) → Printed (signed_decimal n)
number_printed (pos n) = decimal_printed n
number_printed (negsuc n) = (refl, decimal_printed (suc n))

-- ---- texts and blobs

hex_printed : (n : ℕ) → n < 16 → is_printed (hex_digit n) ≡ true
hex_printed n small = agree_below_at (λ n. is_printed (hex_digit n)) (λ _. true) 16 n refl small

plain_printed : (b : ℕ) → is_plain b ≡ true → is_printed b ≡ true
plain_printed b e = grind (arith, e)

symbol_printed : (b : ℕ) → b < 256 → Printed (symbol_spell b)
symbol_printed b small = pick (is_plain b) refl where
  pick : (t : Bool) → is_plain b ≡ t → Printed (cond t (b ∷ []) (92 ∷ hex_digit (b / 16) ∷ hex_digit (b % 16) ∷ []))
  pick true e = (plain_printed b e, tt)
  pick false e = (refl, (hex_printed (b / 16) (omega arith), (hex_printed (b % 16) (omega arith), tt)))

symbols_printed : (t : List ℕ) → AllByRecursion (λ b. b < 256) t → Printed (flat_map symbol_spell t)
symbols_printed [] h = tt
symbols_printed (b ∷ t) h = joined (symbol_spell b) (flat_map symbol_spell t) (symbol_printed b h.0) (symbols_printed t h.1)

pub text_printed : (t : Text) → text_fits t → Printed (text_spell t)
text_printed nullable.Null fit = (refl, tt)
text_printed (nullable.Full t) fit = (refl, joined (flat_map symbol_spell t) (34 ∷ []) (symbols_printed t fit.1) (refl, tt))

digit_printed : (n : ℕ) → n < 16 → is_printed (slice_index lower_digits n) ≡ true
digit_printed n small = agree_below_at (λ n. is_printed (slice_index lower_digits n)) (λ _. true) 16 n refl small

digits_printed : (bytes : List ℕ) → AllByRecursion (λ b. b < 256) bytes → Printed (encode_lower bytes)
unfolding encode_with
digits_printed [] h = tt
digits_printed (b ∷ bytes) h =
    let small : b < 256 = h.0 in
    (digit_printed (b / 16) (omega arith), (digit_printed (b % 16) (omega arith), digits_printed bytes h.1))

pub blob_printed : (b : Blob) → blob_fits b → Printed (blob_spell b)
blob_printed nullable.Null fit = (refl, tt)
blob_printed (nullable.Full b) fit = (refl, digits_printed b fit)

-- ---- words and names

each_printed : (w : Word) → are_printed (word_of w) ≡ true
unfolding word_of
each_printed words.Acl = refl
each_printed _ = refl

pub word_printed : (w : Word) → Printed (word_of w)
word_printed w = checked (word_of w) (each_printed w)

letter_printed : (b : ℕ) → in_name b ≡ true → is_printed b ≡ true
letter_printed b e = grind (arith, e)

pub letters_printed : (bytes : List ℕ) → AllByRecursion (λ c. in_name c ≡ true) bytes → Printed bytes
letters_printed [] h = tt
letters_printed (b ∷ bytes) h = (letter_printed b h.0, letters_printed bytes h.1)

-- the names of a table
abbrev rows_printed : List (ℤ × List ℕ) → Bool
rows_printed [] = true
rows_printed (row ∷ rows) = are_printed row.1 && rows_printed rows

name_printed : (test : ℤ → Bool) (rows : List (ℤ × List ℕ)) → rows_printed rows ≡ true → Printed (name_spell (lookup test rows))
name_printed test [] e = tt
name_printed test (row ∷ rows) e =
    let p = and_parts (are_printed row.1) (rows_printed rows) e in
    pick (test row.0) p.0 (name_printed test rows p.1) where
      pick : (t : Bool) → are_printed row.1 ≡ true → Printed (name_spell (lookup test rows)) → Printed (name_spell (cond t (Some row.1) (lookup test rows)))
      pick true first more = (refl, checked row.1 first)
      pick false first more = more

pub error_printed : (n : ℤ) → Printed (name_spell (error_name n))
unfolding error_name
error_printed n = name_printed (int_eq n) errors refl

pub type_printed : (n : ℤ) → Printed (name_spell (type_name n))
unfolding type_name
type_printed n = name_printed (int_eq n) events refl

-- ---- no line feed

pub unbroken : (bytes : List ℕ) → Printed bytes → AllByRecursion (λ b. b ≢ 10) bytes
unbroken [] h = tt
unbroken (b ∷ bytes) h = (other b h.0, unbroken bytes h.1) where
  other : (b : ℕ) → is_printed b ≡ true → b ≢ 10
  other b h e = let k : is_printed 10 ≡ true = ap is_printed (sym e) ∙ h in cc

pub in_range : (bytes : List ℕ) → Printed bytes → AllByRecursion (λ b. (32 ≤ b) × (b ≤ 126)) bytes
in_range [] h = tt
in_range (b ∷ bytes) h = let p = and_parts (nat_le 32 b) (nat_le b 126) h.0 in ((leb-true 32 b p.0, leb-true b 126 p.1), in_range bytes h.1)
