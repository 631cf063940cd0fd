-- What a judge's answers say of reading, whatever the verdict.
use Rattle.std.proofs.Common.{◌≡◌, ℕ, ◌+◌, ◌-◌, ◌<◌, ◌≤◌, ltb, false, List, [], ◌∷◌, ◌++◌, length, drop, Option, Some, None, Result, Ok, Err, refl, sym, ap, subst, ◌∙◌, arith}
use Rattle.std.specs.Prelude.{IfOk, IfErr}
use Rattle.std.specs.List.{flat_map}
use Rattle.std.proofs.{lemmas.Bool.le-ltb, lemmas.Option.IfSome_then}
use Rattle.zk_jute.specs.{declared.fault.ItemFault.ItemFault, Item.Item, Item.ACount, Item.bytes_of, Item.HaveBytes, Told.StandsAt, Told.HasSureFault, Wired.Wired, Wired.int, Wired.long, Shown.Stretch}
use Rattle.zk_jute.specs.Layout.{Layout, End, Each, IsValueOf, ◌then◌}
use Rattle.zk_jute.specs.Reading.{Fault, Read, Tells, Fails, told, end_of, read_map, size_at, times_at, items_at}
use Rattle.zk_jute.specs.Verdict.{Says, KeepsPlace, Judges, IsValueAt}
use Rattle.zk_jute.proofs.{Steps.IsBytes, Layouts.items_found, Layouts.items_again, Layouts.have_parts, Chains.then_ends, Chains.then_fails, Chains.then_fails_later, Loops.IsScanning, Loops.scanning_ends, Theorems.plain_fault}
use Rattle.zk_jute.proofs.Fields.{end_map, int_is, long_is, fails_told, list_none, list_some, list_fails, elements_fail}
use Rattle.zk_jute.proofs.Stretches.{stands_split}

-- the fault of a call that tells what reading gives
told_as : {X Y : Type 0} (view : X → Y) (read : Result Y Fault) (answer : Result X ItemFault) → Tells view answer read → (e : ItemFault) → answer ≡ Err e → told read ≡ Err e
told_as view read (Ok x) is e same = absurd cc
told_as view read (Err f) is e same = let k : f ≡ e = cc in is ∙ ap (λ (d : ItemFault). Err d) k

module _ {V : Type 0} (tells : V → Option ItemFault) where
  pub says_more : (P Q : ItemFault → Type 0) → ((e : ItemFault) → P e → Q e) → (v : V) → Says tells P v → Says tells Q v
  says_more P Q more v h = IfSome_then (tells v) h more

  pub errs_more : {X : Type 0} (P Q : ItemFault → Type 0) → ((e : ItemFault) → P e → Q e) → (r : Result X V) → IfErr r (Says tells P) → IfErr r (Says tells Q)
  errs_more P Q more (Ok x) h = tt
  errs_more P Q more (Err v) h = says_more P Q more v h

  -- the fault of a call
  pub says_told : {X : Type 0} (Q : ItemFault → Type 0) (answer : Result X ItemFault) → IfErr answer Q → (v : V) → Says tells (λ e. answer ≡ Err e) v → Says tells Q v
  says_told Q answer h v s = says_more _ Q (λ e is. subst (λ (r : Result _ ItemFault). IfErr r Q) is h) v s

  -- one fault
  pub says_one : (Q : ItemFault → Type 0) (fault : ItemFault) → Q fault → (v : V) → Says tells (λ e. e ≡ fault) v → Says tells Q v
  says_one Q fault h v s = says_more _ Q (λ e is. subst Q (sym is) h) v s

  -- ---- one item

  pub one_judged : {A Y : Type 0} (items : A → List Item) (view : Y → A) (read : Read A) (answer : Result (Y × ℕ) ItemFault) → Tells (λ x. (view x.0, x.1)) answer read
      → (result : Result ℕ V) → KeepsPlace tells result answer → Judges tells result (read_map items read)
  one_judged items view read (Ok x) is (Ok end) k = let same : x.1 ≡ end = let e = k.1 in cc in rw (is, same) refl
  one_judged items view read (Err f) is (Ok end) k = let e = k.1 in absurd cc
  one_judged items view read answer is (Err v) k = says_more _ _ (λ e same. fails_told e items read (told_as (λ x. (view x.0, x.1)) read answer is e same)) v k

  -- ---- fields in order

  module _ (a b : Layout) (src : List ℕ) (place : ℕ) where
    pub first_refused : (v : V) → Says tells (λ e. Fails e (items_at a src place)) v → Says tells (λ e. Fails e (items_at (a then b) src place)) v
    first_refused v h = says_more _ _ (then_fails a b src place) v h

    pub both_judged : (middle : ℕ) → end_of (items_at a src place) ≡ Ok middle → (result : Result ℕ V) → Judges tells result (items_at b src middle) → Judges tells result (items_at (a then b) src place)
    both_judged middle first (Ok end) h = sym (then_ends a b src place middle first) ∙ h
    both_judged middle first (Err v) h = says_more _ _ (λ e. then_fails_later a b src place e middle first) v h

  -- ---- values of one layout, one after the other

  pub elements_refused : (at : ℕ → Read (List Item)) (count i place : ℕ) (total : Read (List Item)) (v : V) → i < count → Says tells (λ e. Fails e (at place)) v
      → IsScanning at count i place total → Says tells (λ e. Fails e total) v
  elements_refused at count i place total v less h so_far = says_more _ _ (λ e f. scanning_ends at count i place total e less f so_far) v h

  module _ (l : Layout) (src : List ℕ) (place start : ℕ) where
    pub count_refused : (answer : Result (Option ℕ × ℕ) ItemFault) → Tells (λ x. x) answer (size_at src place) → (v : V) → Says tells (λ e. answer ≡ Err e) v → Says tells (λ e. Fails e (items_at (Each l End) src place)) v
    count_refused answer is v h = says_more _ _ (λ e same. list_fails l src place e (told_as (λ x. x) (size_at src place) answer is e same)) v h

    pub null_judged : size_at src place ≡ Ok (None, start) → end_of (items_at (Each l End) src place) ≡ Ok start
    null_judged size = ap end_of (list_none l src place start size)

    pub list_judged : (n : ℕ) → size_at src place ≡ Ok (Some n, start) → (result : Result ℕ V) → Judges tells result (times_at (items_at l src) n start) → Judges tells result (items_at (Each l End) src place)
    list_judged n size (Ok end) h = ap end_of (list_some l src place n start size) ∙ end_map (λ items. ACount (Some n) ∷ items) (times_at (items_at l src) n start) ∙ h
    list_judged n size (Err v) h = says_more _ _ (λ e. elements_fail l src place n start e size) v h

  -- ---- what is there, and what is at fault

  module _ (l : Layout) (src : List ℕ) (place : ℕ) (fits : IsBytes src) (le : place ≤ length src) where
    there : (end : ℕ) (read : Read (List Item)) → items_at l src place ≡ read → end_of read ≡ Ok end → IsValueAt (IsValueOf l) src place end
    there end (Ok x) is e =
        let f = items_found l src fits place x le is in
        let same : x.1 ≡ end = cc in
        (x.0, (f.value, f.have), rw (← same) (f.stands.parts, f.stands.at))
    there end (Err f) is e = absurd cc

    pub judged_found : (result : Result ℕ V) → Judges tells result (items_at l src place) → IfOk result (IsValueAt (IsValueOf l) src place)
    judged_found (Ok end) h = there end (items_at l src place) refl h
    judged_found (Err v) h = tt

    pub judged_fault : (result : Result ℕ V) → Judges tells result (items_at l src place) → IfErr result (Says tells (HasSureFault (IsValueOf l) src place))
    judged_fault (Ok end) h = tt
    judged_fault (Err v) h = says_more _ _ (λ e f. plain_fault {X = List Item} l (λ i. i) src place fits le (Err e) f) v h

-- values that stand one after the other are read so
module _ {X : Type 0} (w : Wired X) (src : List ℕ) where
  all_read : (xs : List X) (place end : ℕ) → place ≤ length src → HaveBytes (flat_map w.items xs) → StandsAt (flat_map w.items xs) src place end → end_of (times_at (items_at w.layout src) (length xs) place) ≡ Ok end
  all_read [] place end le have stands = let same : place ≡ end = let s = stands.1 in omega arith in rw same refl
  all_read (x ∷ xs) place end le have stands =
      let s = stands_split (w.items x) (flat_map w.items xs) src place end le stands in
      let h = have_parts (w.items x) (flat_map w.items xs) have in
      let middle = place + length (bytes_of (w.items x)) in
      let one = items_again w.layout src (w.items x) (drop middle src) place (w.unfolds x) h.0 le s.0.0 in
      rw one (end_map (λ others. w.items x ++ others) (times_at (items_at w.layout src) (length xs) middle) ∙ all_read xs middle end s.2 h.1 s.1)

  pub stretch_read : (place end count : ℕ) → place ≤ length src → Stretch w.items src place end count → end_of (times_at (items_at w.layout src) count place) ≡ Ok end
  stretch_read place end count le s = ap (λ (n : ℕ). end_of (times_at (items_at w.layout src) n place)) s.count_is ∙ all_read s.values place end le s.have s.stands

-- ---- numbers, if there is room for them

module _ (rest : Layout) (src : List ℕ) (place middle : ℕ) (within : middle ≤ length src) where
  pub int_then : middle ≡ place + 4 → end_of (items_at (int.layout then rest) src place) ≡ end_of (items_at rest src middle)
  int_then at =
      let test : ltb (length src - place) 4 ≡ false = le-ltb _ _ (omega arith) in
      let one : end_of (items_at int.layout src place) ≡ Ok middle = rw (int_is, test, at) refl in
      sym (then_ends int.layout rest src place middle one)

  pub long_then : middle ≡ place + 8 → end_of (items_at (long.layout then rest) src place) ≡ end_of (items_at rest src middle)
  long_then at =
      let test : ltb (length src - place) 8 ≡ false = le-ltb _ _ (omega arith) in
      let one : end_of (items_at long.layout src place) ≡ Ok middle = rw (long_is, test, at) refl in
      sym (then_ends long.layout rest src place middle one)

pub long_last : (src : List ℕ) (place end : ℕ) → end ≤ length src → end ≡ place + 8 → end_of (items_at long.layout src place) ≡ Ok end
long_last src place end within at =
    let test : ltb (length src - place) 8 ≡ false = le-ltb _ _ (omega arith) in
    rw (long_is, test, at) refl
