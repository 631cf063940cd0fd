-- What fields a type of value has: its values' items, each under its name.
use Rattle.std.specs.Prelude.{◌≡◌, ℕ, ℤ, Bool, List, [], ◌∷◌, ◌++◌, length, Option, Some, None, unwrap_or, refl}
use Rattle.std.proofs.Common.{ap, sym, ◌∙◌, append_assoc}
use Rattle.std.specs.List.{flat_map}
use Rattle.zk_jute.specs.{Held.Text, Held.Blob, Held.Vector, Layout.One, Layout.End, Layout.Groups, Layout.Unfolds, Values.list_items}
use Rattle.zk_jute.specs.declared.value.Nullable.TheVariants as nullable
use Rattle.zk_jute.specs.Item.{Kind, Int, Long, Boolean, Ustring, Buffer, Item, ACount, kind_of}
use Rattle.zk_jute.specs.Wired.{Wired, int, long, boolean, ustring, buffer}
use Rattle.zk_fields.specs.Fields.{Entry, Under, entry_items, items_of, named}

-- the entries, under a name where the value is one item or a list
abbrev pub Entries : Type 0 → Type 0
Entries X = ℕ → X → List Entry

-- what they are of, before a value is known: nothing, an item of a kind under a name, one thing and then another, or a list
pub data Shape : Type 0 where
  Nothing : Shape
  An : ℕ → Kind → Shape
  Both : Shape → Shape → Shape
  Many : ℕ → Shape → Shape

-- the entries are of the shape; a list that is null has no elements
abbrev pub IsOf : Shape → List Entry → Type 0
IsOf Nothing es = es ≡ []
IsOf (An name kind) es = (i : Item) × (kind_of i ≡ kind) × (es ≡ Under name i ∷ [])
IsOf (Both a b) es = (x : List Entry) × (y : List Entry) × IsOf a x × IsOf b y × (es ≡ x ++ y)
IsOf (Many name s) es = (n : Option ℕ) × (inside : List Entry) × Groups (IsOf s) (unwrap_or n 0) inside × (es ≡ Under name (ACount n) ∷ inside)

-- they are those of the value's items, in order
pub record Named (X : Type 0) : Type 0 where
  pub items : X → List Item
  pub entries : Entries X
  pub is : (name : ℕ) (x : X) → items_of (entries name x) ≡ items x
  pub shape : ℕ → Shape
  pub formed : (name : ℕ) (x : X) → IsOf (shape name) (entries name x)

pub named_same : (name : ℕ) (items : List Item) → items_of (named name items) ≡ items
named_same name [] = refl
named_same name (i ∷ items) = ap (λ (z : List Item). i ∷ z) (named_same name items)

pub items_both : (x y : List Entry) → items_of (x ++ y) ≡ items_of x ++ items_of y
items_both [] y = refl
items_both (e ∷ x) y = ap (λ (z : List Item). entry_items e ++ z) (items_both x y) ∙ sym (append_assoc (entry_items e) (items_of x) (items_of y))

-- one item
pub one_formed : (name : ℕ) (kind : Kind) (items : List Item) → Unfolds (One kind End) items → IsOf (An name kind) (named name items)
one_formed name kind items u = (u.0, u.2, ap (named name) (u.4 ∙ ap (λ (others : List Item). u.0 ∷ others) u.3))

abbrev one : {X : Type 0} (w : Wired X) (kind : Kind) → ((x : X) → Unfolds (One kind End) (w.items x)) → Named X
one w kind unfolds = record {
  items = w.items;
  entries = λ name x. named name (w.items x);
  is = λ name x. named_same name (w.items x);
  shape = λ name. An name kind;
  formed = λ name x. one_formed name kind (w.items x) (unfolds x);
}

abbrev pub an_int : Named ℤ
an_int = one int Int int.unfolds

abbrev pub a_long : Named ℤ
a_long = one long Long long.unfolds

abbrev pub a_boolean : Named Bool
a_boolean = one boolean Boolean boolean.unfolds

abbrev pub a_text : Named Text
a_text = one ustring Ustring ustring.unfolds

abbrev pub a_blob : Named Blob
a_blob = one buffer Buffer buffer.unfolds

-- nothing
abbrev pub nothing : Named (Unit {0})
nothing = record {
  items = λ _. [];
  entries = λ _ _. [];
  is = λ _ _. refl;
  shape = λ _. Nothing;
  formed = λ _ _. refl;
}

-- a list: its count, and then its elements' entries, all under the list's name
abbrev pub list_entries : {X : Type 0} → Entries X → Entries (Vector X)
list_entries f name nullable.Null = Under name (ACount None) ∷ []
list_entries f name (nullable.Full xs) = Under name (ACount (Some (length xs))) ∷ flat_map (f name) xs

each_same : {X : Type 0} (k : Named X) (name : ℕ) (xs : List X) → items_of (flat_map (k.entries name) xs) ≡ flat_map k.items xs
each_same k name [] = refl
each_same k name (x ∷ xs) = items_both (k.entries name x) (flat_map (k.entries name) xs) ∙
    ap (λ (z : List Item). z ++ items_of (flat_map (k.entries name) xs)) (k.is name x) ∙
    ap (λ (z : List Item). k.items x ++ z) (each_same k name xs)

pub list_same : {X : Type 0} (k : Named X) (name : ℕ) (v : Vector X) → items_of (list_entries k.entries name v) ≡ list_items k.items v
list_same k name nullable.Null = refl
list_same k name (nullable.Full xs) = ap (λ (items : List Item). ACount (Some (length xs)) ∷ items) (each_same k name xs)

each_formed : {X : Type 0} (k : Named X) (name : ℕ) (xs : List X) → Groups (IsOf (k.shape name)) (length xs) (flat_map (k.entries name) xs)
each_formed k name [] = refl
each_formed k name (x ∷ xs) = (k.entries name x, flat_map (k.entries name) xs, k.formed name x, each_formed k name xs, refl)

pub list_formed : {X : Type 0} (k : Named X) (name : ℕ) (v : Vector X) → IsOf (Many name (k.shape name)) (list_entries k.entries name v)
list_formed k name nullable.Null = (None, [], refl, refl)
list_formed k name (nullable.Full xs) = (Some (length xs), flat_map (k.entries name) xs, each_formed k name xs, refl)

abbrev pub many : {X : Type 0} → Named X → Named (Vector X)
many k = record {
  items = list_items k.items;
  entries = list_entries k.entries;
  is = list_same k;
  shape = λ name. Many name (k.shape name);
  formed = list_formed k;
}

-- a field of a record: what it is, its name, and which it is
infixr 25 ◌of◌
abbrev pub ◌of◌ : {X Y : Type 0} → Named Y → ℕ × (X → Y) → Named X
k of f = record {
  items = λ x. k.items (f.1 x);
  entries = λ _ x. k.entries f.0 (f.1 x);
  is = λ _ x. k.is f.0 (f.1 x);
  shape = λ _. k.shape f.0;
  formed = λ _ x. k.formed f.0 (f.1 x);
}

pub both_same : {X : Type 0} (v w : Named X) (name : ℕ) (x : X) → items_of (v.entries name x ++ w.entries name x) ≡ v.items x ++ w.items x
both_same v w name x = items_both (v.entries name x) (w.entries name x) ∙
    ap (λ (z : List Item). z ++ items_of (w.entries name x)) (v.is name x) ∙ ap (λ (z : List Item). v.items x ++ z) (w.is name x)

infixr 20 ◌and◌
abbrev pub ◌and◌ : {X : Type 0} → Named X → Named X → Named X
v and w = record {
  items = λ x. v.items x ++ w.items x;
  entries = λ name x. v.entries name x ++ w.entries name x;
  is = both_same v w;
  shape = λ name. Both (v.shape name) (w.shape name);
  formed = λ name x. (v.entries name x, w.entries name x, v.formed name x, w.formed name x, refl);
}
