-- A list that lies in a payload shows what stands there.
use Rattle.std.proofs.Common.{◌≡◌, ◌≤◌, ℕ, zero, suc, List, [], ◌∷◌, ◌++◌, length, drop, Option, Some, None, Ok, Err, refl, sym, ap, subst, ◌∙◌, arith}
use Rattle.std.specs.List.{flat_map}
use Rattle.std.proofs.lemmas.List.{length-append, length-drop}
use Rattle.zk_jute.specs.declared.value.Nullable.TheVariants as nullable
use Rattle.zk_jute.specs.{Item.Item, Item.ACount, Item.bytes_of, Item.HaveBytes, Layout.Layout, Layout.Each, Layout.End, Held.Vector, Told.StandsAt, Standing.OneStands, Wired.Wired, Wired.vector, Values.list_items, Values.list_unfolds}
use Rattle.zk_jute.specs.Reading.{Read, ◌>>=◌, read_map, end_of, size_at, times_at, items_at}
use Rattle.zk_jute.specs.Shown.{next_value, values_at, list_at, Stretch, AreThere, ListIsThere}
use Rattle.zk_jute.proofs.{Layouts.items_found, Layouts.items_again, Layouts.have_both, Sequels.stands_then, Steps.IsBytes, Stretches.none_passed, Fields.end_map, Fields.list_none, Fields.list_some}

module _ {X : Type 0} (items : X → List Item) (at : ℕ → Read X) (read : ℕ → Read (List Item)) (is : (place : ℕ) → read place ≡ read_map items (at place)) where
  -- what reading them gives is what they show, and where it ends
  abbrev Shows : List X → ℕ → Read (List Item) → Type 0
  Shows xs n r = (e : ℕ) → end_of r ≡ Ok e → (r ≡ Ok (flat_map items xs, e)) × (length xs ≡ n)

  map_shows : (x : X) (xs : List X) (n : ℕ) (r : Read (List Item)) → Shows xs n r → Shows (x ∷ xs) (suc n) (read_map (λ others. items x ++ others) r)
  map_shows x xs n (Ok y) h e q =
      let r = h e q in
      let more : List Item → List Item = λ others. items x ++ others in
      let count : length (x ∷ xs) ≡ suc n = let l = r.1 in omega arith in
      (ap (read_map more) r.0, count)
  map_shows x xs n (Err f) h e q = absurd cc

  one_shows : (n : ℕ) (r : Read X) → ((place : ℕ) → Shows (values_at at n place) n (times_at read n place))
      → Shows (next_value r (values_at at n)) (suc n) (read_map items r >>= λ x. read_map (λ others. x.0 ++ others) (times_at read n x.1))
  one_shows n (Ok x) h e q = map_shows x.0 (values_at at n x.1) n (times_at read n x.1) (h x.1) e q
  one_shows n (Err f) h e q = absurd cc

  pub times_show : (n place : ℕ) → Shows (values_at at n place) n (times_at read n place)
  times_show zero place e q = let same : place ≡ e = cc in (rw same refl, refl)
  times_show (suc n) place e q =
      let all : Shows (values_at at (suc n) place) (suc n) (read place >>= λ x. read_map (λ others. x.0 ++ others) (times_at read n x.1)) =
      subst (λ (r : Read (List Item)). Shows (values_at at (suc n) place) (suc n) (r >>= λ x. read_map (λ others. x.0 ++ others) (times_at read n x.1))) (sym (is place)) (one_shows n (at place) (times_show n)) in
      all e q

module _ {X : Type 0} (l : Layout) (items : X → List Item) (src : List ℕ) (at : ℕ → Read X) (is : (place : ℕ) → items_at l src place ≡ read_map items (at place)) where
  abbrev times : ℕ → ℕ → Read (List Item)
  times = times_at (items_at l src)

  module _ (n start end : ℕ) (ends : end_of (times n start) ≡ Ok end) where
    all_counted : length (values_at at n start) ≡ n
    all_counted = (times_show items at (items_at l src) is n start end ends).1

    pub list_shows : (place : ℕ) → size_at src place ≡ Ok (Some n, start) → items_at (Each l End) src place ≡ Ok (list_items items (nullable.Full (values_at at n start)), end)
    list_shows place size =
        let r = times_show items at (items_at l src) is n start end ends in
        let xs = values_at at n start in
        list_some l src place n start size
        ∙ ap (read_map (λ (inside : List Item). ACount (Some n) ∷ inside)) r.0
        ∙ ap (λ (m : ℕ). Ok (ACount (Some m) ∷ flat_map items xs, end)) (sym r.1)

  -- those that are read are there
  module _ (fits : IsBytes src) where
    abbrev Reaches : ℕ → ℕ → ℕ → Type 0
    Reaches n end place = place ≤ length src → end_of (times n place) ≡ Ok end → Stretch items src place end n

    one_more : (n end place : ℕ) → ((middle : ℕ) → Reaches n end middle) → place ≤ length src → (r : Read X) → items_at l src place ≡ read_map items r
        → end_of (read_map items r >>= λ x. read_map (λ others. x.0 ++ others) (times n x.1)) ≡ Ok end → Stretch items src place end (suc n)
    one_more n end place rest le (Ok (x, middle)) read e =
        let f = items_found l src fits place (items x, middle) le read in
        let s : StandsAt (items x) src place middle = (f.stands.parts, f.stands.at) in
        let within : middle ≤ length src = omega (arith, s.1, ap length s.0, length-append (bytes_of (items x)) (drop middle src), length-drop place src) in
        let others = rest middle within (sym (end_map (λ (more : List Item). items x ++ more) (times n middle)) ∙ e) in
        record {
          values = x ∷ others.values;
          count_is = ap suc others.count_is;
          have = have_both (items x) (flat_map items others.values) f.have others.have;
          stands = stands_then (items x) (flat_map items others.values) src place middle end s others.stands;
        }
    one_more n end place rest le (Err f) read e = absurd cc

    reached : (n end place : ℕ) → Reaches n end place
    reached zero end place le e = let same : place ≡ end = cc in subst (λ (m : ℕ). Stretch items src place m 0) same (none_passed items src place le)
    reached (suc n) end place le e =
        one_more n end place (reached n end) le (at place) (is place) (subst (λ (r : Read (List Item)). end_of (r >>= λ x. read_map (λ others. x.0 ++ others) (times n x.1)) ≡ Ok end) (is place) e)

    pub all_there : (n start end : ℕ) → start ≤ length src → end_of (times n start) ≡ Ok end → AreThere items at src n start
    all_there n start end le e = ((le, end, reached n end start le e), all_counted n start end e)

abbrev items_read : Read (List Item) → List Item
items_read (Ok x) = x.0
items_read (Err f) = []

pub one_read : (read : Read (List Item)) (x y : List Item) (m n : ℕ) → read ≡ Ok (x, m) → read ≡ Ok (y, n) → x ≡ y
one_read read x y m n a b = sym (ap items_read a) ∙ ap items_read b

-- what is known of a list that stands somewhere, once its count is read
module _ {X : Type 0} (w : Wired X) (src : List ℕ) (at : ℕ → Read X) (is : (place : ℕ) → items_at w.layout src place ≡ read_map w.items (at place)) (place : ℕ) (within : place ≤ length src) where
  abbrev ListAt : Vector X → ℕ → Type 0
  ListAt v end = HaveBytes (list_items w.items v) × StandsAt (list_items w.items v) src place end

  abbrev read : Read (List Item)
  read = items_at (Each w.layout End) src place

  read_again : (v : Vector X) (end : ℕ) → ListAt v end → read ≡ Ok (list_items w.items v, end)
  read_again v end s =
      items_again (Each w.layout End) src (list_items w.items v) (drop end src) place (list_unfolds w.layout w.items w.unfolds v) s.0 within s.1.0
      ∙ ap (λ (n : ℕ). Ok (list_items w.items v, n)) (sym s.1.1)

  module _ (n start : ℕ) (size : size_at src place ≡ Ok (Some n, start)) (v : Vector X) (end : ℕ) (s : ListAt v end) where
    times_end : end_of (times_at (items_at w.layout src) n start) ≡ Ok end
    times_end =
        sym (end_map (λ inside. ACount (Some n) ∷ inside) (times_at (items_at w.layout src) n start))
        ∙ ap end_of (sym (list_some w.layout src place n start size) ∙ read_again v end s)

  pub list_there : IsBytes src → (count : Option ℕ) (start : ℕ) → start ≤ length src → size_at src place ≡ Ok (count, start) → OneStands (list_items w.items) src place
      → ListIsThere w.items at src count start
  list_there fits None start le size s = tt
  list_there fits (Some n) start le size s = all_there w.layout w.items src at is fits n start s.1 le (times_end n start size s.0 s.1 (s.2, s.3))

  pub list_is : (count : Option ℕ) (start : ℕ) → size_at src place ≡ Ok (count, start) → (v : Vector X) (end : ℕ) → HaveBytes (list_items w.items v) → StandsAt (list_items w.items v) src place end → list_at at count start ≡ v
  list_is None start size v end have stands =
      (vector w).tells_apart nullable.Null v (one_read read _ _ start end (list_none w.layout src place start size) (read_again v end (have, stands)))
  list_is (Some n) start size v end have stands =
      let shown = list_shows w.layout w.items src at is n start end (times_end n start size v end (have, stands)) place size in
      (vector w).tells_apart (nullable.Full (values_at at n start)) v (one_read read _ _ end end shown (read_again v end (have, stands)))
