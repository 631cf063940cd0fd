-- Tables with a row a key: what a value holds, how that is spelled, and the value that is made of it.
use Rattle.std.specs.Prelude.{ℕ, List, [], Option, Some, None}
use Rattle.zk_items.specs.Form.{Form, Read, read_map}
use Rattle.zk_lines.specs.Named.{Bodies}

-- a form, and the value that is made of what it spells
pub data Row (Y : Type 0) : Type 1 where
  holds : {X : Type 0} → (X → Y) → Form X → Row Y

-- no bytes
abbrev pub nothing : Form (Unit {0})
nothing = record { fits = λ _. Unit {0}; spell = λ _. []; at = λ bytes. Some (tt, bytes) }

-- a form by which values are written, and nothing is read
abbrev pub only_written : {X : Type 0} → (X → Type 0) → (X → List ℕ) → Form X
only_written fits spell = record { fits = fits; spell = spell; at = λ _. None }

-- a value that holds nothing
abbrev pub bare : {Y : Type 0} → Y → Row Y
bare y = holds (λ _. y) nothing

-- ---- what follows from a row

abbrev pub Content : {Y : Type 0} → Row Y → Type 0
Content (holds {X} make f) = X

abbrev pub remake : {Y : Type 0} (r : Row Y) → Content r → Y
remake (holds make f) x = make x

abbrev pub form_of : {Y : Type 0} (r : Row Y) → Form (Content r)
form_of (holds make f) = f

abbrev pub row_at : {Y : Type 0} → Row Y → List ℕ → Read Y
row_at (holds make f) bytes = read_map make (f.at bytes)

-- a value as its row writes it
pub record Written : Type 1 where
  pub fits : Type 0
  pub spell : List ℕ

abbrev pub written : {K Y : Type 0} (row : K → Row Y) (k : K) → Content (row k) → Written
written row k x = record { fits = (form_of (row k)).fits x; spell = (form_of (row k)).spell x }

-- the bodies after the names of a table
abbrev pub bodies_of : {K Y : Type 0} (name : K → List ℕ) (key_at : List ℕ → Option K) (key : Y → K) (row : K → Row Y) (write : Y → Written) → Bodies K Y
bodies_of name key_at key row write = record {
  name = name;
  key_at = key_at;
  key = key;
  fits = λ y. (write y).fits;
  spell = λ y. (write y).spell;
  at = λ k bytes. row_at (row k) bytes;
}
