-- Values one after the other, whose layouts may differ: what reads each that stands reads them all.
use Rattle.std.proofs.Common.{◌≡◌, ℕ, ◌+◌, ◌-◌, ◌≤◌, ◌<◌, List, [], ◌∷◌, ◌++◌, length, drop, suc, Ok, refl, sym, ap, subst, ◌∙◌, append_assoc, arith}
use Rattle.std.specs.List.{flat_map}
use Rattle.std.proofs.lemmas.List.{append-nil, length-append, length-drop, drop-drop}
use Rattle.std.proofs.{Math.Seq.drop-append_seam, lemmas.Grind.flat_map-append}
use Rattle.zk_jute.specs.{Item.Item, Item.bytes_of, Item.HaveBytes, Told.StandsAt, Reading.Read, Shown.next_value, Shown.values_at, Shown.Stretch, Shown.Begins}
use Rattle.zk_jute.proofs.{Layouts.bytes_both, Layouts.have_both, Layouts.have_parts, Sequels.stands_then}

-- ---- what stands, in two

pub stands_split : (a b : List Item) (src : List ℕ) (place end : ℕ) → place ≤ length src → StandsAt (a ++ b) src place end
    → StandsAt a src place (place + length (bytes_of a)) × StandsAt b src (place + length (bytes_of a)) end × (place + length (bytes_of a) ≤ length src)
stands_split a b src place end le s =
    let n = length (bytes_of a) in
    let split : drop place src ≡ bytes_of a ++ (bytes_of b ++ drop end src) = s.0 ∙ ap (λ (z : List ℕ). z ++ drop end src) (bytes_both a b) ∙ append_assoc (bytes_of a) (bytes_of b) (drop end src) in
    let behind : drop (place + n) src ≡ bytes_of b ++ drop end src = sym (drop-drop n place src) ∙ ap (drop n) split ∙ drop-append_seam (bytes_of a) (bytes_of b ++ drop end src) in
    let at : end ≡ (place + n) + length (bytes_of b) = omega (arith, s.1, ap length (bytes_both a b), length-append (bytes_of a) (bytes_of b)) in
    let within : place + n ≤ length src = omega (arith, ap length split, length-append (bytes_of a) (bytes_of b ++ drop end src), length-drop place src) in
    ((split ∙ ap (λ (z : List ℕ). bytes_of a ++ z) (sym behind), refl), (behind, at), within)

module _ {X : Type 0} (items : X → List Item) (src : List ℕ) (value : ℕ → Read X)
    (there : (x : X) (place end : ℕ) → place ≤ length src → HaveBytes (items x) → StandsAt (items x) src place end → value place ≡ Ok (x, end)) where
  pub values_are : (xs : List X) (place end : ℕ) → place ≤ length src → HaveBytes (flat_map items xs) → StandsAt (flat_map items xs) src place end → values_at value (length xs) place ≡ xs
  values_are [] place end le have stands = refl
  values_are (x ∷ xs) place end le have stands =
      let s = stands_split (items x) (flat_map items xs) src place end le stands in
      let h = have_parts (items x) (flat_map items xs) have in
      let middle = place + length (bytes_of (items x)) in
      ap (λ (r : Read X). next_value r (values_at value (length xs))) (there x place middle le h.0 s.0) ∙ ap (λ (others : List X). x ∷ others) (values_are xs middle end s.2 h.1 s.1)

  -- those that stand are those that are told
  pub values_told : (place at count : ℕ) → place ≤ length src → (s : Stretch items src place at count) → values_at value count place ≡ s.values
  values_told place at count le s = ap (λ (n : ℕ). values_at value n place) s.count_is ∙ values_are s.values place at le s.have s.stands

  pub values_counted : (count place : ℕ) → Begins items src count place → length (values_at value count place) ≡ count
  values_counted count place all = ap length (values_told place all.1 count all.0 all.2) ∙ sym all.2.count_is

-- ---- the first, and those after it

-- what a reading of the first gives is the first that is shown
pub first_shown : {X : Type 0} (value : ℕ → Read X) (count place : ℕ) (x : X) (end : ℕ) → 0 < count → value place ≡ Ok (x, end) → values_at value count place ≡ x ∷ values_at value (count - 1) end
first_shown value count place x end some is =
    let n : count ≡ suc (count - 1) = omega arith in
    ap (λ (m : ℕ). values_at value m place) n ∙ ap (λ (r : Read _). next_value r (values_at value (count - 1))) is

module _ {X : Type 0} (items : X → List Item) (src : List ℕ) where
  abbrev FirstStands : ℕ → ℕ → Type 0
  FirstStands count place = (x : X) × (middle : ℕ) × HaveBytes (items x) × StandsAt (items x) src place middle × Begins items src (count - 1) middle

  first_of : (xs : List X) (count place at : ℕ) → 0 < count → place ≤ length src → count ≡ length xs → HaveBytes (flat_map items xs) → StandsAt (flat_map items xs) src place at → FirstStands count place
  first_of [] count place at some le is have stands = absurd (omega arith)
  first_of (x ∷ xs) count place at some le is have stands =
      let s = stands_split (items x) (flat_map items xs) src place at le stands in
      let h = have_parts (items x) (flat_map items xs) have in
      let fewer : count - 1 ≡ length xs = omega arith in
      (x, place + length (bytes_of (items x)), h.0, s.0, (s.2, at, record { values = xs; count_is = fewer; have = h.1; stands = s.1 }))

  module _ (count place : ℕ) (some : 0 < count) (all : Begins items src count place) where
    pub first_there : FirstStands count place
    first_there = first_of all.2.values count place all.1 some all.0 all.2.count_is all.2.have all.2.stands

    -- where each that stands here ends, the others begin
    pub rest_begins : (end : ℕ) → ((x : X) (e : ℕ) → HaveBytes (items x) → StandsAt (items x) src place e → end ≡ e) → Begins items src (count - 1) end
    rest_begins end only = let f = first_there in subst (Begins items src (count - 1)) (sym (only f.0 f.1 f.2 f.3)) f.4

-- ---- values that were passed

module _ {X : Type 0} (items : X → List Item) (src : List ℕ) where
  abbrev pub none_passed : (place : ℕ) → place ≤ length src → Stretch items src place place 0
  none_passed place le = record { values = []; count_is = refl; have = tt; stands = (refl, omega arith) }

  pub items_push : (xs : List X) (x : X) → flat_map items (xs ++ x ∷ []) ≡ flat_map items xs ++ items x
  items_push xs x = flat_map-append items xs (x ∷ []) ∙ ap (λ (i : List Item). flat_map items xs ++ i) (append-nil (items x))

  pub length_more : (xs : List X) (x : X) → length (xs ++ x ∷ []) ≡ length xs + 1
  length_more [] x = refl
  length_more (y ∷ xs) x = omega (arith, length_more xs x)

  abbrev pub one_passed : (place at end count : ℕ) → Stretch items src place at count → (x : X) → HaveBytes (items x) → StandsAt (items x) src at end → Stretch items src place end (count + 1)
  one_passed place at end count so_far x have stands =
      let xs = so_far.values in
      record {
        values = xs ++ x ∷ [];
        count_is = omega (arith, so_far.count_is, length_more xs x);
        have = subst HaveBytes (sym (items_push xs x)) (have_both (flat_map items xs) (items x) so_far.have have);
        stands = subst (λ (i : List Item). StandsAt i src place end) (sym (items_push xs x)) (stands_then (flat_map items xs) (items x) src place at end so_far.stands stands);
      }
