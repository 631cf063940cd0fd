-- The items of a line that aren't made of others.
use Rattle.std.specs.Prelude.{◌≡◌, ℕ, ◌+◌, ◌*◌, ◌/◌, ◌%◌, ◌^◌, ◌<◌, List, [], ◌∷◌, ◌++◌, length, take, drop, Option, Some, None, Result, Ok, Err, Bool, true, false, ◌==◌, ◌&&◌, ◌||◌, nat_le, nat_lt, ◌-◌, if◌then◌else◌, ℤ, pos, negsuc, codes, IsUtf8, bytes_eq}
use Rattle.std.specs.{List.prefix_len, List.flat_map, List.AllByRecursion, Fmt.signed_decimal, Str.is_utf8, Str.Parse.signed_digits_value}
use Rattle.hex.specs.{Hex.encode_lower, Hex.decode_of, declared.error.FromHexError.FromHexError}
use Rattle.zk_jute.specs.Held.{Text, Blob}
use Rattle.zk_jute.specs.declared.value.Nullable.TheVariants as nullable
use Rattle.zk_items.specs.Form.{Form, Read, ◌>>=◌}
use Rattle.zk_items.specs.Many.{many_at}

-- ---- num

abbrev pub in_number : ℕ → Bool
in_number b = (nat_le 48 b && nat_le b 57) || b == 45

-- of k bits beside the sign
abbrev pub in_range : ℕ → ℤ → Bool
in_range k (pos n) = nat_lt n (2 ^ k)
in_range k (negsuc n) = nat_lt n (2 ^ k)

-- a run of `-` and digits, where it is how its number is written
unfoldable pub num_of : ℕ → List ℕ → List ℕ → Read ℤ
num_of k run rest = if bytes_eq (signed_decimal (signed_digits_value 10 run)) run && in_range k
    (signed_digits_value 10 run) then Some (signed_digits_value 10 run, rest) else None

-- the longest such run
unfoldable pub num_at : ℕ → List ℕ → Read ℤ
num_at k bytes = num_of k (take (prefix_len in_number bytes) bytes) (drop (prefix_len in_number bytes) bytes)

abbrev pub int : Form ℤ
int = record { fits = λ n. in_range 31 n ≡ true; spell = signed_decimal; at = num_at 31 }

abbrev pub long : Form ℤ
long = record { fits = λ n. in_range 63 n ≡ true; spell = signed_decimal; at = num_at 63 }

-- ---- bit

abbrev pub bit_spell : Bool → List ℕ
bit_spell true = codes "1"
bit_spell false = codes "0"

unfoldable pub bit_at : List ℕ → Read Bool
bit_at [] = None
bit_at (b ∷ rest) = if b == 48 then Some (false, rest) else if b == 49 then Some (true, rest) else None

abbrev pub bit : Form Bool
bit = record { fits = λ _. Unit {0}; spell = bit_spell; at = bit_at }

-- ---- ro: a bit that may be absent

abbrev pub ro_spell : Option Bool → List ℕ
ro_spell None = codes "-"
ro_spell (Some b) = bit_spell b

unfoldable pub ro_at : List ℕ → Read (Option Bool)
ro_at [] = None
ro_at (b ∷ rest) = if b == 45 then Some (None, rest) else if b == 48 then Some (Some false, rest) else if b == 49 then Some (Some true, rest) else None

abbrev pub ro : Form (Option Bool)
ro = record { fits = λ _. Unit {0}; spell = ro_spell; at = ro_at }

-- ---- text

-- plain: needs no escape within a text
abbrev pub is_plain : ℕ → Bool
is_plain b = nat_le 32 b && nat_le b 126 && (if b == 34 then false else true) && (if b == 92 then false else true)

-- a lower-case digit
abbrev pub hex_digit : ℕ → ℕ
hex_digit n = if nat_lt n 10 then 48 + n else 87 + n

abbrev pub hex_value : ℕ → Option ℕ
hex_value c = if nat_le 48 c && nat_le c 57 then Some (c - 48) else if nat_le 97 c && nat_le c 102 then Some (c - 87) else None

-- the byte itself, or `\` and its two digits
abbrev pub symbol_spell : ℕ → List ℕ
symbol_spell b = if is_plain b then b ∷ [] else 92 ∷ hex_digit (b / 16) ∷ hex_digit (b % 16) ∷ []

abbrev pub text_spell : Text → List ℕ
text_spell nullable.Null = codes "~"
text_spell (nullable.Full t) = 34 ∷ (flat_map symbol_spell t ++ (34 ∷ []))

abbrev pub text_fits : Text → Type 0
text_fits nullable.Null = Unit {0}
text_fits (nullable.Full t) = IsUtf8 t × AllByRecursion (λ b. b < 256) t

abbrev pub escape_at : List ℕ → Read (Option ℕ)
escape_at [] = None
escape_at (h ∷ []) = None
escape_at (h ∷ l ∷ rest) = hex_value h >>= λ a. hex_value l >>= λ b. if is_plain (16 * a + b) then None else Some (Some (16 * a + b), rest)

-- the next byte of a text, or its end
unfoldable pub symbol_at : List ℕ → Read (Option ℕ)
symbol_at [] = None
symbol_at (c ∷ rest) = if c == 34 then Some (None, rest) else if c == 92 then escape_at rest else if is_plain c then Some (Some c, rest) else None

abbrev pub checked : List ℕ × List ℕ → Read Text
checked x = if is_utf8 x.0 then Some (nullable.Full x.0, x.1) else None

-- the bytes of a text, up to the sign after it
abbrev pub chars_at : List ℕ → Read Text
chars_at bytes = many_at symbol_at (length bytes) bytes >>= checked

unfoldable pub text_at : List ℕ → Read Text
text_at [] = None
text_at (c ∷ rest) = if c == 126 then Some (nullable.Null, rest) else if c == 34 then chars_at rest else None

abbrev pub text : Form Text
text = record { fits = text_fits; spell = text_spell; at = text_at }

-- ---- blob

abbrev pub blob_spell : Blob → List ℕ
blob_spell nullable.Null = codes "~"
blob_spell (nullable.Full bytes) = 35 ∷ encode_lower bytes

abbrev pub blob_fits : Blob → Type 0
blob_fits nullable.Null = Unit {0}
blob_fits (nullable.Full bytes) = AllByRecursion (λ b. b < 256) bytes

abbrev pub in_hex : ℕ → Bool
in_hex b = (nat_le 48 b && nat_le b 57) || (nat_le 97 b && nat_le b 102)

abbrev pub decoded : Result (List ℕ) FromHexError → List ℕ → Read Blob
decoded (Ok bytes) rest = Some (nullable.Full bytes, rest)
decoded (Err e) rest = None

unfoldable pub blob_at : List ℕ → Read Blob
blob_at [] = None
blob_at (c ∷ rest) = if c == 126 then Some (nullable.Null, rest) else if c == 35
    then decoded (decode_of (take (prefix_len in_hex rest) rest)) (drop (prefix_len in_hex rest) rest) else None

abbrev pub blob : Form Blob
blob = record { fits = blob_fits; spell = blob_spell; at = blob_at }

-- ---- names

-- a letter
abbrev pub in_word : ℕ → Bool
in_word b = (nat_le 65 b && nat_le b 90) || (nat_le 97 b && nat_le b 122)

-- a letter or a digit
abbrev pub in_name : ℕ → Bool
in_name b = (nat_le 48 b && nat_le b 57) || in_word b
