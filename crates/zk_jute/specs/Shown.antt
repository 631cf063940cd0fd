-- What is borrowed from a payload, as a value of its bytes.
use Rattle.std.specs.Prelude.{◌≡◌, ℕ, zero, suc, List, [], ◌∷◌, length, Option, Some, None, Ok, Err, refl, ◌≤◌}
use Rattle.zk_jute.specs.declared.value.Nullable.TheVariants as nullable
use Rattle.zk_jute.specs.{Held.Text, Held.Blob, Held.Vector, Item.Item, Item.Ustring, Item.AUstring, Item.HaveBytes, Layout.One, Layout.End, Told.StandsAt, Values.text_items}
use Rattle.std.specs.List.{flat_map}
use Rattle.zk_jute.specs.Reading.{Read, ◌>>=◌, read_map, run_at, size_at, text_at, items_at}

abbrev pub text_of : Option (List ℕ) → Text
text_of None = nullable.Null
text_of (Some bytes) = nullable.Full bytes

-- the text at a place
abbrev pub text_value : List ℕ → ℕ → Read Text
text_value src place = read_map text_of (text_at src place)

-- the blob at a place
abbrev pub blob_value : List ℕ → ℕ → Read Blob
blob_value src place = read_map text_of (run_at src place)

text_shown : (read : Read (Option (List ℕ))) →
    (read_map AUstring read >>= λ x. read_map
    (λ others. x.0 ∷ others) (Ok ([], x.1))) ≡ read_map text_items (read_map text_of read)
text_shown (Ok (None, after)) = refl
text_shown (Ok (Some bytes, after)) = refl
text_shown (Err f) = refl

pub text_is_value : (src : List ℕ) (place : ℕ) → items_at (One Ustring End) src place ≡ read_map text_items (text_value src place)
unfolding items_at
text_is_value src place = text_shown (text_at src place)

abbrev pub next_value : {X : Type 0} → Read X → (ℕ → List X) → List X
next_value (Ok x) others = x.0 ∷ others x.1
next_value (Err f) others = []

-- at most n values, one after the other, from a place on: those before the first that isn't there
abbrev pub values_at : {X : Type 0} → (ℕ → Read X) → ℕ → ℕ → List X
values_at at zero place = []
values_at at (suc n) place = next_value (at place) (values_at at n)

-- null, or n values
abbrev pub list_at : {X : Type 0} → (ℕ → Read X) → Option ℕ → ℕ → Vector X
list_at at None place = nullable.Null
list_at at (Some n) place = nullable.Full (values_at at n place)

abbrev pub count_of : {X : Type 0} → Vector X → ℕ
count_of nullable.Null = 0
count_of (nullable.Full xs) = length xs

abbrev pub IsNull : {X : Type 0} → Vector X → Type 0
IsNull v = v ≡ nullable.Null

-- the values of a list; none of null
abbrev pub elements_of : {X : Type 0} → Vector X → List X
elements_of nullable.Null = []
elements_of (nullable.Full xs) = xs

-- ---- values in order, and the place after them

-- one value, and then another
abbrev pub both_at : {X Y : Type 0} → (ℕ → Read X) → (ℕ → Read Y) → ℕ → Read (X × Y)
both_at v w place = v place >>= λ x. read_map (λ y. (x.0, y)) (w x.1)

-- n values, one after the other
abbrev pub run_of : {X : Type 0} → (ℕ → Read X) → ℕ → ℕ → Read (List X)
run_of at zero place = Ok ([], place)
run_of at (suc n) place = at place >>= λ x. read_map (λ others. x.0 ∷ others) (run_of at n x.1)

abbrev pub elements_from : {X : Type 0} → (ℕ → Read X) → Option ℕ × ℕ → Read (Vector X)
elements_from at (None, after) = Ok (nullable.Null, after)
elements_from at (Some n, after) = read_map nullable.Full (run_of at n after)

-- the list at a place
abbrev pub list_value : {X : Type 0} → (List ℕ → ℕ → Read X) → List ℕ → ℕ → Read (Vector X)
list_value at src place = size_at src place >>= elements_from (at src)

-- ---- values one after the other; their layouts may differ

-- `count` values, from `place` to `at`
pub record Stretch {X : Type 0} (items : X → List Item) (src : List ℕ) (place at count : ℕ) : Type 0 where
  pub values : List X
  pub count_is : count ≡ length values
  pub have : HaveBytes (flat_map items values)
  pub stands : StandsAt (flat_map items values) src place at

-- `count` values, from a place on
abbrev pub Begins : {X : Type 0} → (X → List Item) → List ℕ → ℕ → ℕ → Type 0
Begins items src count place = (place ≤ length src) × (at : ℕ) × Stretch items src place at count

-- `count` values are there, and as many are told
abbrev pub AreThere : {X : Type 0} → (X → List Item) → (ℕ → Read X) → List ℕ → ℕ → ℕ → Type 0
AreThere items at src count place = Begins items src count place × (length (values_at at count place) ≡ count)

-- a list's values are there, if it isn't null
abbrev pub ListIsThere : {X : Type 0} → (X → List Item) → (ℕ → Read X) → List ℕ → Option ℕ → ℕ → Type 0
ListIsThere items at src None place = Unit {0}
ListIsThere items at src (Some n) place = AreThere items at src n place

-- each that stands is the one that is told
abbrev pub AreTold : {X : Type 0} → (X → List Item) → (ℕ → Read X) → List ℕ → Type 0
AreTold {X} items at src = (x : X) (place end : ℕ) → place ≤ length src → HaveBytes (items x) → StandsAt (items x) src place end → at place ≡ Ok (x, end)
