-- Numbers with names: where a number has one, `/` and the name follow it.
use Rattle.std.specs.Prelude.{◌≡◌, ℕ, List, [], ◌∷◌, ◌++◌, Option, Some, None, Bool, true, false, ◌==◌, if◌then◌else◌, ℤ, pos, negsuc, codes}
use Rattle.std.specs.Fmt.{signed_decimal}
use Rattle.zk_records.specs.Names.{code_name, event_name}
use Rattle.zk_items.specs.Form.{Form, ◌>>=◌, word_at}
use Rattle.zk_items.specs.Leaf.{num_at, in_range}

abbrev pub name_spell : Option (List ℕ) → List ℕ
name_spell None = []
name_spell (Some name) = codes "/" ++ name

abbrev pub is_next : ℕ → List ℕ → Bool
is_next sign [] = false
is_next sign (b ∷ rest) = b == sign

-- what is left after the name, or after no name
unfoldable pub name_at : Option (List ℕ) → List ℕ → Option (List ℕ)
name_at (Some name) bytes = word_at (codes "/") bytes >>= word_at name
name_at None bytes = if is_next 47 bytes then None else Some bytes

abbrev pub is_zero : ℤ → Bool
is_zero (pos n) = n == 0
is_zero (negsuc n) = false

-- a number and its name
abbrev pub code : (ℤ → Option (List ℕ)) → Form ℤ
code name = record {
  fits = λ n. in_range 31 n ≡ true;
  spell = λ n. signed_decimal n ++ name_spell (name n);
  at = λ bytes. num_at 31 bytes >>= λ q. name_at (name q.0) q.1 >>= λ rest. Some (q.0, rest);
}

-- a number that isn't 0, and its name
abbrev pub other_code : (ℤ → Option (List ℕ)) → Form ℤ
other_code name = record {
  fits = λ n. (in_range 31 n ≡ true) × (is_zero n ≡ false);
  spell = λ n. signed_decimal n ++ name_spell (name n);
  at = λ bytes. num_at 31 bytes >>= λ q. if is_zero q.0 then None else (name_at (name q.0) q.1 >>= λ rest. Some (q.0, rest));
}

-- the names of errors and of types of events
unfoldable pub error_name : ℤ → Option (List ℕ)
error_name n = code_name n

unfoldable pub type_name : ℤ → Option (List ℕ)
type_name n = event_name n

-- the number of an error, that of a failure, which isn't 0, and that of a type of event
abbrev pub error_code : Form ℤ
error_code = code error_name

abbrev pub failure_code : Form ℤ
failure_code = other_code error_name

abbrev pub event_code : Form ℤ
event_code = code type_name
