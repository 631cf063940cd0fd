-- What is known to stand somewhere, for the parts of it.
use Rattle.std.proofs.Common.{◌≡◌, ℕ, ◌+◌, ◌-◌, ◌<◌, ◌≤◌, Bool, true, false, cond, eqb, List, [], ◌∷◌, ◌++◌, length, drop, Option, Some, None, Ok, Err, refl, sym, ap, subst, ◌∙◌, arith, nat_lt}
use Rattle.std.specs.Prelude.{IsOk, IsUtf8}
use Rattle.std.specs.Str.Lossy.{utf8_valid_len}
use Rattle.std.proofs.{lemmas.Bool.eqb-true, lemmas.Bool.ltb-false, lemmas.List.append-nil, lemmas.List.length-drop, lemmas.List.drop_at}
use Rattle.zk_jute.specs.declared.fault.Reason.TheVariants.{BadText, Short}
use Rattle.zk_jute.specs.Item.{Int, Long, Boolean, Item, AnInt, ALong, ABoolean, ACount, bytes_of, HaveBytes}
use Rattle.zk_jute.specs.Layout.{Layout, End, One, Each, ◌then◌, IsValueOf}
use Rattle.zk_jute.specs.Reading.{Fault, Read, fault, ◌>>=◌, read_map, end_of, int_at, long_at, bool_at, text_at, run_at, size_at, checked_text, times_at, elements_at, items_at}
use Rattle.zk_jute.specs.{Told.StandsAt, Flagged.flag_items, Flagged.OneIsFlagged, Wired.Wired, Wired.boolean, Standing.OneStands, Verdict.IsValueAt}
use Rattle.zk_jute.proofs.{Primitives.utf8_if_valid, Layouts.items_again, Layouts.bytes_only, Layouts.bytes_both, Layouts.have_parts, Lists.one_read, Sequels.none_left, Loops.IsScanning, Loops.IsReading, Loops.next_times}
use Rattle.zk_jute.proofs.Fields.{read_then, int_is, long_is, bool_is, each_is, list_some}

-- ---- steps of reading

known_bind : {A B : Type 0} (read : Read A) (next : A × ℕ → Read B) → IsOk (read >>= next) → IsOk read
known_bind (Ok x) next h = refl
known_bind (Err e) next h = absurd cc

known_next : {A B : Type 0} (read : Read A) (next : A × ℕ → Read B) (x : A × ℕ) → read ≡ Ok x → IsOk (read >>= next) → IsOk (next x)
known_next read next x e h = subst (λ (r : Read _). IsOk (r >>= next)) e h

known_map : {A B : Type 0} (f : A → B) (read : Read A) → IsOk (read_map f read) → IsOk read
known_map f (Ok x) h = refl
known_map f (Err e) h = absurd cc

-- ---- one item

open_ok : {A : Type 0} (b : Bool) (f : Fault) (rest : Read A) → IsOk (cond b (Err f) rest) → b ≡ false
open_ok false f rest h = refl
open_ok true f rest h = absurd cc

-- what reads a number asks for its bytes
room : {A : Type 0} (size : ℕ) (src : List ℕ) (place : ℕ) (rest : Read A) → place ≤ length src → IsOk (cond (nat_lt (length src - place) size) (fault place Short) rest) → place + size ≤ length src
room size src place rest le h = omega (arith, le, ltb-false (length src - place) size (open_ok (nat_lt (length src - place) size) (record { place = place; reason = Short }) rest h))

module _ (src : List ℕ) (place : ℕ) where
  pub int_known : IsOk (items_at (One Int End) src place) → IsOk (int_at src place)
  int_known h = known_map (λ n. AnInt n ∷ []) (int_at src place) (rw (← int_is) h)

  pub long_known : IsOk (items_at (One Long End) src place) → IsOk (long_at src place)
  long_known h = known_map (λ n. ALong n ∷ []) (long_at src place) (rw (← long_is) h)

  pub bool_known : IsOk (items_at (One Boolean End) src place) → IsOk (bool_at src place)
  bool_known h = known_map (λ b. ABoolean b ∷ []) (bool_at src place) (rw (← bool_is) h)

  pub int_room : place ≤ length src → IsOk (int_at src place) → place + 4 ≤ length src
  int_room le h = room 4 src place _ le h

  pub long_room : place ≤ length src → IsOk (long_at src place) → place + 8 ≤ length src
  long_room le h = room 8 src place _ le h

-- the bytes of a text that stands there are one
chosen_ok : {A : Type 0} (b : Bool) (x : A × ℕ) (f : Fault) → IsOk (cond b (Ok x) (Err f)) → b ≡ true
chosen_ok true x f h = refl
chosen_ok false x f h = absurd cc

pub text_is_one : (src : List ℕ) (place : ℕ) (bytes : List ℕ) (after : ℕ) → run_at src place ≡ Ok (Some bytes, after) → IsOk (text_at src place) → IsUtf8 bytes
text_is_one src place bytes after e h =
    let read : IsOk (checked_text place (Some bytes, after)) = subst (λ (r : Read (Option (List ℕ))). IsOk (r >>= checked_text place)) e h in
    utf8_if_valid bytes (eqb-true _ _ (chosen_ok (eqb (utf8_valid_len bytes) (length bytes)) (Some bytes, after) (record { place = place + 4 + utf8_valid_len bytes; reason = BadText }) read))

-- ---- fields in order

module _ (a b : Layout) (src : List ℕ) (place : ℕ) (h : IsOk (items_at (a then b) src place)) where
  in_order : IsOk (items_at a src place >>= λ x. read_map (λ others. x.0 ++ others) (items_at b src x.1))
  in_order = subst (λ (r : Read (List Item)). IsOk r) (read_then a b src place) h

  pub then_known : IsOk (items_at a src place)
  then_known = known_bind (items_at a src place) (λ x. read_map (λ others. x.0 ++ others) (items_at b src x.1)) in_order

  pub then_known_later : (x : List Item) (middle : ℕ) → items_at a src place ≡ Ok (x, middle) → IsOk (items_at b src middle)
  then_known_later x middle e =
      known_map (λ others. x ++ others) (items_at b src middle) (known_next (items_at a src place) (λ x. read_map (λ others. x.0 ++ others) (items_at b src x.1)) (x, middle) e in_order)

-- ---- lists

module _ (l : Layout) (src : List ℕ) (place : ℕ) (h : IsOk (items_at (Each l End) src place)) where
  pub count_known : IsOk (size_at src place)
  count_known = known_bind (size_at src place) (λ n. read_map (λ items. ACount n.0 ∷ items) (elements_at (items_at l src) n.0 n.1)) (subst (λ (r : Read (List Item)). IsOk r) (each_is l src place) h)

  pub elements_known : (n after : ℕ) → size_at src place ≡ Ok (Some n, after) → IsOk (times_at (items_at l src) n after)
  elements_known n after e = known_map (λ items. ACount (Some n) ∷ items) (times_at (items_at l src) n after) (subst (λ (r : Read (List Item)). IsOk r) (list_some l src place n after e) h)

known_alike : (a b : Read (List Item)) → end_of a ≡ end_of b → IsOk b → IsOk a
known_alike (Ok x) b same h = refl
known_alike (Err e) (Ok y) same h = absurd cc
known_alike (Err e) (Err f) same h = absurd cc

-- the next element of those that a loop goes over
pub next_known : (at : ℕ → Read (List Item)) (count i place : ℕ) (total : Read (List Item)) → i < count → IsScanning at count i place total → IsOk total → IsOk (at place)
next_known at count i place total lt so_far h =
    let left = subst (λ (r : Read (List Item)). IsOk r) (next_times at count i place lt) (known_alike (times_at at (count - i) place) total so_far h) in
    known_bind (at place) (λ x. read_map (λ others. x.0 ++ others) (times_at at (count - (i + 1)) x.1)) left

-- the next of those that a loop copies
pub next_read : (at : ℕ → Read (List Item)) (count i place : ℕ) (front : List Item) (total : Read (List Item)) → i < count → IsReading at count i place front total → IsOk total → IsOk (at place)
next_read at count i place front total lt so_far h =
    let left = subst (λ (r : Read (List Item)). IsOk r) (next_times at count i place lt) (known_map (λ others. front ++ others) (times_at at (count - i) place) (subst (λ (r : Read (List Item)). IsOk r) (sym so_far) h)) in
    known_bind (at place) (λ x. read_map (λ others. x.0 ++ others) (times_at at (count - (i + 1)) x.1)) left

-- the items that stand somewhere are read there
pub value_known : (l : Layout) (src : List ℕ) (place end : ℕ) → place ≤ length src → IsValueAt (IsValueOf l) src place end → IsOk (items_at l src place)
value_known l src place end le v = rw (items_again l src v.0 (drop end src) place v.1.0 v.1.1 le v.2.0) refl

-- what stands somewhere is read there
pub stands_read : {X : Type 0} (w : Wired X) (src : List ℕ) (place : ℕ) → place ≤ length src → OneStands w.items src place → IsOk (items_at w.layout src place)
stands_read w src place le h = value_known w.layout src place h.1 le (w.items h.0, (w.unfolds h.0, h.2), h.3)

-- the first of the bytes are a value's
pub stands_first : {X : Type 0} (items : X → List Item) (x : X) (src rest : List ℕ) → HaveBytes (items x) → src ≡ bytes_of (items x) ++ rest → OneStands items src 0
stands_first items x src rest have is =
    let front = bytes_of (items x) in
    let n = length front in
    let left : drop n src ≡ rest = ap (drop n) is ∙ drop_at front rest n refl in
    (x, n, have, (is ∙ ap (λ (b : List ℕ). front ++ b) (sym left), omega arith))

-- all bytes from the place on are those of the items
pub stands_last : (items : List Item) (src : List ℕ) (place : ℕ) → place ≤ length src → drop place src ≡ bytes_of items → StandsAt items src place (place + length (bytes_of items))
stands_last items src place le is =
    let bytes = bytes_of items in
    let none : drop (place + length bytes) src ≡ [] = none_left src (place + length bytes) (omega (arith, ap length is, length-drop place src)) in
    (is ∙ sym (ap (λ (b : List ℕ). bytes ++ b) none ∙ append-nil bytes), refl)

-- ---- a value, and the boolean behind it

module _ {X : Type 0} (w : Wired X) (payload : List ℕ) (f : OneIsFlagged w payload) where
  abbrev value : List Item
  value = w.items f.0

  abbrev flag : List Item
  flag = flag_items f.1

  have : HaveBytes value × HaveBytes flag
  have = have_parts value flag f.2

  split : payload ≡ bytes_of value ++ bytes_of flag
  split = f.3 ∙ bytes_both value flag

  pub value_there : OneStands w.items payload 0
  value_there = stands_first w.items f.0 payload (bytes_of flag) have.0 split

  pub behind : (y : List Item) (place : ℕ) → IsValueOf w.layout y → StandsAt y payload 0 place → drop place payload ≡ bytes_of flag
  behind y place v s = (bytes_only w.layout y value (drop place payload) (bytes_of flag) v (w.unfolds f.0, have.0) (sym s.0 ∙ split)).1

pub flag_there : (flag : Option Bool) (payload : List ℕ) (place : ℕ) → place ≤ length payload → (place ≡ length payload → ⊥) → drop place payload ≡ bytes_of (flag_items flag) → OneStands boolean.items payload place
flag_there None payload place le more e = absurd (more (omega (arith, le, length-drop place payload, ap length e)))
flag_there (Some b) payload place le more e = (b, place + length (bytes_of (boolean.items b)), (tt, tt), stands_last (boolean.items b) payload place le e)

-- it is the one that is read there
pub flag_is : (flag : Option Bool) (payload : List ℕ) (place : ℕ) (b : Bool) (end : ℕ) → place ≤ length payload → (place ≡ length payload → ⊥) → drop place payload ≡ bytes_of (flag_items flag)
    → items_at boolean.layout payload place ≡ Ok (ABoolean b ∷ [], end) → drop place payload ≡ bytes_of (flag_items (Some b))
flag_is None payload place b end le more e read = absurd (more (omega (arith, le, length-drop place payload, ap length e)))
flag_is (Some c) payload place b end le more e read =
    let s = stands_last (boolean.items c) payload place le e in
    let again = items_again boolean.layout payload (boolean.items c) _ place (boolean.unfolds c) (tt, tt) le s.0 in
    e ∙ ap (λ (b : Bool). bytes_of (flag_items (Some b))) (boolean.tells_apart c b (one_read (items_at boolean.layout payload place) (boolean.items c) (boolean.items b) _ end again read))
