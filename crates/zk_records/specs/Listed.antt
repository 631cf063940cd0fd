-- A record by its fields, each with its kind.
use Rattle.std.specs.Prelude.{◌≡◌, List, ◌++◌}
use Rattle.zk_jute.specs.{Item.Item, Apart.unfolds_only, Wired.Wired, Wired.unfolds_then, Wired.has_then}
use Rattle.zk_jute.specs.Layout.{Layout, Unfolds, HasFields, ◌then◌}

-- fields of a record of the type X
pub record Listed (X : Type 0) : Type 1 where
  pub layout : Layout
  pub items : X → List Item
  pub Same : X → X → Type 0
  pub unfolds : (x : X) → Unfolds layout (items x)
  pub apart : (x y : X) → items x ≡ items y → Same x y
  pub has_fields : HasFields layout

infixr 25 ◌of◌
abbrev pub ◌of◌ : {X Y : Type 0} → Wired Y → (X → Y) → Listed X
w of f = record {
  layout = w.layout;
  items = λ x. w.items (f x);
  Same = λ x y. f x ≡ f y;
  unfolds = λ x. w.unfolds (f x);
  apart = λ x y e. w.tells_apart (f x) (f y) e;
  has_fields = w.has_fields;
}

pub both_apart : {X : Type 0} (v w : Listed X) (x y : X) → v.items x ++ w.items x ≡ v.items y ++ w.items y → v.Same x y × w.Same x y
both_apart v w x y e =
    let s = unfolds_only v.layout (v.items x) (v.items y) (w.items x) (w.items y) (v.unfolds x) (v.unfolds y) e in
    (v.apart x y s.0, w.apart x y s.1)

infixr 20 ◌and◌
abbrev pub ◌and◌ : {X : Type 0} → Listed X → Listed X → Listed X
v and w = record {
  layout = v.layout then w.layout;
  items = λ x. v.items x ++ w.items x;
  Same = λ x y. v.Same x y × w.Same x y;
  unfolds = λ x. unfolds_then v.layout w.layout (v.items x) (w.items x) (v.unfolds x) (w.unfolds x);
  apart = λ x y e. both_apart v w x y e;
  has_fields = has_then v.layout w.layout v.has_fields;
}

abbrev pub by : {X : Type 0} (v : Listed X) → ((x y : X) → v.Same x y → x ≡ y) → Wired X
by v same = record { layout = v.layout; items = v.items; unfolds = v.unfolds; tells_apart = λ x y e. same x y (v.apart x y e); has_fields = v.has_fields }
