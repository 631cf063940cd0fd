-- Values that are told by their bytes are those that reading gives.
use Rattle.std.proofs.Common.{◌≡◌, ℕ, zero, suc, List, [], ◌∷◌, ◌++◌, ◌≤◌, length, drop, Option, Some, None, Ok, Err, refl, sym, ap, ◌∙◌}
use Rattle.std.specs.Prelude.{ℤ}
use Rattle.std.specs.List.{flat_map}
use Rattle.zk_jute.specs.declared.value.Nullable.TheVariants as nullable
use Rattle.zk_jute.specs.{Item.Item, Item.AnInt, Item.ALong, Item.ABuffer, Item.ACount, Item.HaveBytes, Layout.Each, Layout.End, Values.list_items, Values.blob_items, Told.StandsAt, Standing.OneStands}
use Rattle.zk_jute.specs.Reading.{Read, ◌>>=◌, read_map, int_at, long_at, run_at, size_at, times_at, items_at}
use Rattle.zk_jute.specs.Wired.{Wired, int, long, buffer, vector, ◌and◌}
use Rattle.zk_jute.specs.Shown.{text_of, blob_value, both_at, run_of, elements_from, list_value}
use Rattle.zk_jute.proofs.{Layouts.items_again, Fields.list_none, Fields.list_some, Fields.read_then, Fields.after_items}

-- the value that is told is that of the items which stand there
abbrev pub IsValued : {X : Type 0} → Wired X → List ℕ → (ℕ → Read X) → Type 0
IsValued w src at = (place : ℕ) → items_at w.layout src place ≡ read_map w.items (at place)

int_read : (read : Read ℤ) → (read_map AnInt read >>= λ x. read_map (λ others. x.0 ∷ others) (Ok ([], x.1))) ≡ read_map (λ n. AnInt n ∷ []) read
int_read (Ok x) = refl
int_read (Err f) = refl

long_read : (read : Read ℤ) → (read_map ALong read >>= λ x. read_map (λ others. x.0 ∷ others) (Ok ([], x.1))) ≡ read_map (λ n. ALong n ∷ []) read
long_read (Ok x) = refl
long_read (Err f) = refl

pub long_valued : (src : List ℕ) → IsValued long src (long_at src)
unfolding items_at
long_valued src place = long_read (long_at src place)

pub int_valued : (src : List ℕ) → IsValued int src (int_at src)
unfolding items_at
int_valued src place = int_read (int_at src place)

blob_read : (read : Read (Option (List ℕ))) → (read_map ABuffer read >>= λ x. read_map (λ others. x.0 ∷ others) (Ok ([], x.1))) ≡ read_map blob_items (read_map text_of read)
blob_read (Ok (None, after)) = refl
blob_read (Ok (Some bytes, after)) = refl
blob_read (Err f) = refl

pub blob_valued : (src : List ℕ) → IsValued buffer src (blob_value src)
unfolding items_at
blob_valued src place = blob_read (run_at src place)

-- ---- one value, and then another

module _ {X Y : Type 0} (v : Wired X) (w : Wired Y) (src : List ℕ) (a : ℕ → Read X) (b : ℕ → Read Y) (is : IsValued v src a) (other : IsValued w src b) where
  second : (x : X) (read : Read Y) → after_items (v.items x) (read_map w.items read) ≡ read_map (v and w).items (read_map (λ (y : Y). (x, y)) read)
  second x (Ok y) = refl
  second x (Err f) = refl

  first : (read : Read X) → (read_map v.items read >>= λ x. after_items x.0 (items_at w.layout src x.1)) ≡ read_map (v and w).items (read >>= λ x. read_map (λ (y : Y). (x.0, y)) (b x.1))
  first (Ok x) = ap (after_items (v.items x.0)) (other x.1) ∙ second x.0 (b x.1)
  first (Err f) = refl

  pub both_valued : IsValued (v and w) src (both_at a b)
  both_valued place = read_then v.layout w.layout src place ∙ ap (λ (r : Read (List Item)). r >>= λ x. after_items x.0 (items_at w.layout src x.1)) (is place) ∙ first (a place)

-- ---- lists

module _ {X : Type 0} (w : Wired X) (src : List ℕ) (at : ℕ → Read X) (is : IsValued w src at) where
  abbrev given : ℕ → Read (List Item)
  given place = items_at w.layout src place

  one_more : (x : X) (read : Read (List X)) → read_map (λ others. w.items x ++ others) (read_map (flat_map w.items) read) ≡ read_map (flat_map w.items) (read_map (λ others. x ∷ others) read)
  one_more x (Ok y) = refl
  one_more x (Err f) = refl

  others_valued : (n : ℕ) → ((place : ℕ) → times_at given n place ≡ read_map (flat_map w.items) (run_of at n place)) → (read : Read X)
      → (read_map w.items read >>= λ x. read_map (λ others. x.0 ++ others) (times_at given n x.1)) ≡ read_map (flat_map w.items) (read >>= λ x. read_map (λ others. x.0 ∷ others) (run_of at n x.1))
  others_valued n h (Ok x) = ap (read_map (λ (others : List Item). w.items x.0 ++ others)) (h x.1) ∙ one_more x.0 (run_of at n x.1)
  others_valued n h (Err f) = refl

  run_valued : (n place : ℕ) → times_at given n place ≡ read_map (flat_map w.items) (run_of at n place)
  run_valued zero place = refl
  run_valued (suc n) place = ap (λ (r : Read (List Item)). r >>= λ x. read_map (λ others. x.0 ++ others) (times_at given n x.1)) (is place) ∙ others_valued n (run_valued n) (at place)

  abbrev Counts : ℕ → Read (List X) → Type 0
  Counts n (Ok x) = length x.0 ≡ n
  Counts n (Err f) = Unit {0}

  one_counts : (n : ℕ) (x : X) (read : Read (List X)) → Counts n read → Counts (suc n) (read_map (λ others. x ∷ others) read)
  one_counts n x (Ok y) c = ap suc c
  one_counts n x (Err f) c = tt

  first_counts : (n : ℕ) → ((place : ℕ) → Counts n (run_of at n place)) → (read : Read X) → Counts (suc n) (read >>= λ x. read_map (λ others. x.0 ∷ others) (run_of at n x.1))
  first_counts n h (Ok x) = one_counts n x.0 (run_of at n x.1) (h x.1)
  first_counts n h (Err f) = tt

  run_counts : (n place : ℕ) → Counts n (run_of at n place)
  run_counts zero place = refl
  run_counts (suc n) place = first_counts n (run_counts n) (at place)

  counted : (n : ℕ) (read : Read (List X)) → Counts n read → read_map (λ inside. ACount (Some n) ∷ inside) (read_map (flat_map w.items) read) ≡ read_map (list_items w.items) (read_map nullable.Full read)
  counted n (Ok x) c = ap (λ (m : ℕ). Ok (ACount (Some m) ∷ flat_map w.items x.0, x.1)) (sym c)
  counted n (Err f) c = refl

  no_size : (place : ℕ) (f : _) → size_at src place ≡ Err f → items_at (Each w.layout End) src place ≡ Err f
  unfolding items_at
  no_size place f e = rw e refl

  sized : (place : ℕ) (size : Read (Option ℕ)) → size_at src place ≡ size → items_at (Each w.layout End) src place ≡ read_map (list_items w.items) (size >>= elements_from at)
  sized place (Ok (None, after)) e = list_none w.layout src place after e
  sized place (Ok (Some n, after)) e = list_some w.layout src place n after e ∙ ap (read_map (λ (inside : List Item). ACount (Some n) ∷ inside)) (run_valued n after) ∙ counted n (run_of at n after) (run_counts n after)
  sized place (Err f) e = no_size place f e

pub list_valued : {X : Type 0} (w : Wired X) (src : List ℕ) (at : List ℕ → ℕ → Read X) → IsValued w src (at src) → IsValued (vector w) src (list_value at src)
list_valued w src at is place = sized w src (at src) is place (size_at src place) refl

-- the value that stands there, where it was read
pub value_read : {X : Type 0} (w : Wired X) (v : Read X) (given : Read (List Item)) (x : X) (after : ℕ) → given ≡ read_map w.items v → given ≡ Ok (w.items x, after) → v ≡ Ok (x, after)
value_read {X = X} w (Ok y) given x after is e =
    let same : ◌≡◌ {A = Read (List Item)} (Ok (w.items y.0, y.1)) (Ok (w.items x, after)) = sym is ∙ e in
    let pairs : ◌≡◌ {A = List Item × ℕ} (w.items y.0, y.1) (w.items x, after) = cc in
    ap (λ (z : X). Ok (z, y.1)) (w.tells_apart y.0 x (ap (λ (p : List Item × ℕ). p.0) pairs)) ∙ ap (λ (p : ℕ). Ok (x, p)) (ap (λ (p : List Item × ℕ). p.1) pairs)
value_read w (Err f) given x after is e = absurd cc

-- a value that stands is told
pub stands_told : {X : Type 0} (w : Wired X) (src : List ℕ) (v : ℕ → Read X) → IsValued w src v → (x : X) (place end : ℕ) → HaveBytes (w.items x) → place ≤ length src → StandsAt (w.items x) src place end → v place ≡ Ok (x, end)
stands_told w src v is x place end have le s =
    let read = items_again w.layout src (w.items x) (drop end src) place (w.unfolds x) have le s.0 in
    value_read w (v place) (items_at w.layout src place) x end (is place) (read ∙ ap (λ (n : ℕ). Ok (w.items x, n)) (sym s.1))

-- so is what is each that stands there
pub one_told : {X : Type 0} (w : Wired X) (src : List ℕ) (v : ℕ → Read X) → IsValued w src v → (place : ℕ) → place ≤ length src → OneStands w.items src place → (y : X × ℕ)
    → ((x : X) (end : ℕ) → HaveBytes (w.items x) → StandsAt (w.items x) src place end → y ≡ (x, end)) → v place ≡ Ok y
one_told w src v is place le s y only = stands_told w src v is s.0 place s.1 s.2 le s.3 ∙ ap Ok (sym (only s.0 s.1 s.2 s.3))

-- what is told of a record's fields is told of the record
pub recast : {P X : Type 0} (v : Wired P) (items : X → List Item) (make : P → X) → ((p : P) → v.items p ≡ items (make p)) → (read : Read P) → read_map v.items read ≡ read_map items (read_map make read)
recast v items make same (Ok p) = ap (λ (i : List Item). Ok (i, p.1)) (same p.0)
recast v items make same (Err f) = refl
