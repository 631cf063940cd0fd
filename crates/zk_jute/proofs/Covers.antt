-- Items of a type's layout are some value's.
use Rattle.std.proofs.Common.{◌≡◌, ℕ, zero, suc, List, [], ◌∷◌, ◌++◌, length, Bool, Option, Some, None, refl, sym, ap, ◌∙◌, append_assoc}
use Rattle.std.proofs.lemmas.List.{append-nil}
use Rattle.std.specs.Prelude.{ℤ}
use Rattle.std.specs.List.{flat_map}
use Rattle.zk_jute.specs.{Held.Text, Held.Blob, Held.Vector, Values.text_items, Values.blob_items, Values.list_items}
use Rattle.zk_jute.specs.declared.value.Nullable.TheVariants as nullable
use Rattle.zk_jute.specs.Item.{Kind, Int, Long, Boolean, Ustring, Buffer, Item, AnInt, ALong, ABoolean, AUstring, ABuffer, ACount, kind_of}
use Rattle.zk_jute.specs.Layout.{Layout, End, One, Each, Groups, Elements, Unfolds, ◌then◌}
use Rattle.zk_jute.specs.Wired.{Wired, int, long, boolean, ustring, buffer, vector}

abbrev pub Covers : {X : Type 0} → Wired X → Type 0
Covers {X} w = (items : List Item) → Unfolds w.layout items → (x : X) × (w.items x ≡ items)

-- ---- primitives

sole : (k : Kind) (items : List Item) (u : Unfolds (One k End) items) (one : List Item) → one ≡ u.0 ∷ [] → one ≡ items
sole k items u one e = e ∙ ap (λ (o : List Item). u.0 ∷ o) (sym u.3) ∙ sym u.4

int_of : (i : Item) → kind_of i ≡ Int → (n : ℤ) × (AnInt n ∷ [] ≡ i ∷ [])
int_of (AnInt n) e = (n, refl)
int_of _ e = absurd cc

long_of : (i : Item) → kind_of i ≡ Long → (n : ℤ) × (ALong n ∷ [] ≡ i ∷ [])
long_of (ALong n) e = (n, refl)
long_of _ e = absurd cc

bool_of : (i : Item) → kind_of i ≡ Boolean → (b : Bool) × (ABoolean b ∷ [] ≡ i ∷ [])
bool_of (ABoolean b) e = (b, refl)
bool_of _ e = absurd cc

text_of : (i : Item) → kind_of i ≡ Ustring → (t : Text) × (text_items t ≡ i ∷ [])
text_of (AUstring None) e = (nullable.Null, refl)
text_of (AUstring (Some bytes)) e = (nullable.Full bytes, refl)
text_of _ e = absurd cc

blob_of : (i : Item) → kind_of i ≡ Buffer → (b : Blob) × (blob_items b ≡ i ∷ [])
blob_of (ABuffer None) e = (nullable.Null, refl)
blob_of (ABuffer (Some bytes)) e = (nullable.Full bytes, refl)
blob_of _ e = absurd cc

pub int_covered : Covers int
int_covered items u = let x = int_of u.0 u.2 in (x.0, sole Int items u (AnInt x.0 ∷ []) x.1)

pub long_covered : Covers long
long_covered items u = let x = long_of u.0 u.2 in (x.0, sole Long items u (ALong x.0 ∷ []) x.1)

pub bool_covered : Covers boolean
bool_covered items u = let x = bool_of u.0 u.2 in (x.0, sole Boolean items u (ABoolean x.0 ∷ []) x.1)

pub text_covered : Covers ustring
text_covered items u = let x = text_of u.0 u.2 in (x.0, sole Ustring items u (text_items x.0) x.1)

pub blob_covered : Covers buffer
blob_covered items u = let x = blob_of u.0 u.2 in (x.0, sole Buffer items u (blob_items x.0) x.1)

-- ---- lists

module _ {X : Type 0} (w : Wired X) (covers : Covers w) where
  groups_covered : (n : ℕ) (items : List Item) → Groups (Unfolds w.layout) n items → (xs : List X) × (length xs ≡ n) × (flat_map w.items xs ≡ items)
  groups_covered zero items g = ([], refl, sym g)
  groups_covered (suc n) items g =
      let x = covers g.0 g.2 in
      let xs = groups_covered n g.1 g.3 in
      (x.0 ∷ xs.0, ap suc xs.1, ap (λ (a : List Item). a ++ flat_map w.items xs.0) x.1 ∙ ap (λ (b : List Item). g.0 ++ b) xs.2 ∙ sym g.4)

  elements_covered : (n : Option ℕ) (inside : List Item) → Elements (Unfolds w.layout) n inside → (v : Vector X) × (list_items w.items v ≡ ACount n ∷ inside)
  elements_covered None inside e = (nullable.Null, ap (λ (z : List Item). ACount None ∷ z) (sym e))
  elements_covered (Some n) inside g =
      let r = groups_covered n inside g in
      (nullable.Full r.0, ap (λ (m : ℕ). ACount (Some m) ∷ flat_map w.items r.0) r.1 ∙ ap (λ (z : List Item). ACount (Some n) ∷ z) r.2)

  pub vector_covered : Covers (vector w)
  vector_covered items u =
      let v = elements_covered u.0 u.1 u.3 in
      (v.0, v.1 ∙ sym (append-nil (ACount u.0 ∷ u.1)) ∙ ap (λ (o : List Item). (ACount u.0 ∷ u.1) ++ o) (sym u.4) ∙ sym u.5)

-- ---- fields in order

split : (a b : Layout) (items : List Item) → Unfolds (a then b) items → (x : List Item) × (y : List Item) × Unfolds a x × Unfolds b y × (items ≡ x ++ y)
unfolding ◌then◌
split End b items u = ([], items, refl, u, refl)
split (One k rest) b items u = let s = split rest b u.1 u.3 in (u.0 ∷ s.0, s.1, (u.0, s.0, u.2, s.2, refl), s.3, u.4 ∙ ap (λ (z : List Item). u.0 ∷ z) s.4)
split (Each l rest) b items u =
    let s = split rest b u.2 u.4 in
    let front = ACount u.0 ∷ u.1 in
    (front ++ s.0, s.1, (u.0, u.1, s.0, u.3, s.2, refl), s.3, u.5 ∙ ap (λ (z : List Item). front ++ z) s.4 ∙ sym (append_assoc front s.0 s.1))

-- the first field, and the others
pub field : {Y : Type 0} (w : Wired Y) → Covers w → (b : Layout) (items : List Item) → Unfolds (w.layout then b) items → (y : Y) × (others : List Item) × Unfolds b others × (items ≡ w.items y ++ others)
field w covers b items u =
    let s = split w.layout b items u in
    let y = covers s.0 s.2 in
    (y.0, s.1, s.3, s.4 ∙ ap (λ (z : List Item). z ++ s.1) (sym y.1))

pub joined : (front others there items : List Item) → there ≡ others → items ≡ front ++ others → front ++ there ≡ items
joined front others there items e is = ap (λ (z : List Item). front ++ z) e ∙ sym is
