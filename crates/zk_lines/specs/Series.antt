-- Items one after another, parted by a sign, up to a sign that ends them.
use Rattle.std.specs.Prelude.{ℕ, List, [], ◌∷◌, ◌++◌, length, Option, Some, None, codes}
use Rattle.std.specs.List.{flat_map, AllByRecursion}
use Rattle.zk_jute.specs.Held.{Vector}
use Rattle.zk_jute.specs.declared.value.Nullable.TheVariants as nullable
use Rattle.zk_items.specs.Many.{many_at, with_first}
use Rattle.zk_items.specs.Form.{Form, Read, ◌>>=◌, read_map, word_at}
use Rattle.zk_lines.specs.Words.{field, field_at}
use Rattle.zk_lines.specs.declared.word.Word.TheVariants as words

-- the items joined by a sign, and the sign after them
abbrev pub series_spell : {X : Type 0} → ℕ → ℕ → (X → List ℕ) → List X → List ℕ
series_spell sep close spell [] = close ∷ []
series_spell sep close spell (x ∷ xs) = spell x ++ (flat_map (λ y. sep ∷ spell y) xs ++ (close ∷ []))

-- what is read after the sign, if it comes first; else the other reading
abbrev pub if_passed : {A : Type 0} → Option (List ℕ) → (List ℕ → Option A) → Option A → Option A
if_passed (Some rest) f other = f rest
if_passed None f other = other

-- the sign that parts and the next item, or the end
unfoldable pub element_at : {X : Type 0} → ℕ → ℕ → (List ℕ → Read X) → List ℕ → Read (Option X)
element_at sep close at bytes =
    if_passed (word_at (close ∷ []) bytes)
    (λ rest. Some (None, rest)) (word_at (sep ∷ []) bytes >>= λ rest. at rest >>= λ q. Some (Some q.0, q.1))

unfoldable pub series_at : {X : Type 0} → ℕ → ℕ → (List ℕ → Read X) → List ℕ → Read (List X)
series_at sep close at bytes = if_passed (word_at (close ∷ []) bytes)
    (λ rest. Some ([], rest)) (at bytes >>= λ q. with_first q.0 (many_at (element_at sep close at) (length q.1) q.1))

abbrev pub series : {X : Type 0} → ℕ → ℕ → Form X → Form (List X)
series sep close f = record {
  fits = AllByRecursion f.fits;
  spell = series_spell sep close f.spell;
  at = series_at sep close f.at;
}

-- the parts or the results of a multi: after their word, between semicolons, up to a brace
abbrev pub multi_at : {X : Type 0} → (List ℕ → Read X) → List ℕ → Read (List X)
multi_at at = field_at words.Parts (series_at 59 125 at)

abbrev pub multi_of : {X : Type 0} → Form X → Form (List X)
multi_of f = field words.Parts (series 59 125 f)

-- ---- list of X: null, or items joined by commas between brackets

abbrev pub list_spell : {X : Type 0} → (X → List ℕ) → Vector X → List ℕ
list_spell spell nullable.Null = codes "~"
list_spell spell (nullable.Full xs) = codes "[" ++ series_spell 44 93 spell xs

abbrev pub list_fits : {X : Type 0} → (X → Type 0) → Vector X → Type 0
list_fits fits nullable.Null = Unit {0}
list_fits fits (nullable.Full xs) = AllByRecursion fits xs

-- the items between brackets, after the first of these
abbrev pub full_at : {X : Type 0} → (List ℕ → Read X) → List ℕ → Read (Vector X)
full_at at bytes = read_map nullable.Full (series_at 44 93 at bytes)

unfoldable pub list_at : {X : Type 0} → (List ℕ → Read X) → List ℕ → Read (Vector X)
list_at at bytes = if_passed (word_at (codes "~") bytes)
    (λ rest. Some (nullable.Null, rest)) (word_at (codes "[") bytes >>= full_at at)

abbrev pub list_of : {X : Type 0} → Form X → Form (Vector X)
list_of f = record { fits = list_fits f.fits; spell = list_spell f.spell; at = list_at f.at }
