-- What a room takes, one entry after the other.
use Rattle.std.proofs.Common.{◌≡◌, ℕ, suc, ◌+◌, ◌<◌, ◌≤◌, ◌^◌, List, [], ◌∷◌, ◌++◌, length, set, refl, sym, ap, subst, ◌∙◌, arith}
use Rattle.std.proofs.{lemmas.List.length-append, Math.Nat.add_assoc}
use Rattle.std.specs.List.{flat_map}
use Rattle.std.specs.Prelude.{pos, ℤ, Option, Some, None}
use Rattle.zk_jute.proofs.Layouts.{have_parts}
use Rattle.zk_jute.specs.{Item.Item, Item.AUstring, Item.ABuffer, Item.ACount, Item.HaveBytes, Held.Text, Held.Blob, Values.text_items, Values.blob_items, Shown.text_of}
use Rattle.zk_records.specs.declared.header.MultiHeader.{MultiHeader}
use Rattle.zk_fields.specs.{Named.items_both, declared.field.Field.Field, declared.field.At.At, Room.written, Room.Fits, Room.Puts, Room.Takes}
use Rattle.zk_fields.specs.declared.kind.TheConstants.{TEXT, BLOB, LIST}
use Rattle.zk_fields.specs.Fields.{Entry, Under, Head, items_of, item_size, size_of, size_all, fields_from, field_of, named, run_field, run_size}

pub size_both : (x y : List Entry) → size_all (x ++ y) ≡ size_all x + size_all y
size_both [] y = omega arith
size_both (e ∷ x) y = ap (λ (n : ℕ). size_of e + n) (size_both x y) ∙ sym (add_assoc (size_of e) (size_all x) (size_all y))

pub fields_both : (place : ℕ) (x y : List Entry) → fields_from place (x ++ y) ≡ fields_from place x ++ fields_from (place + size_all x) y
fields_both place [] y = ap (λ (n : ℕ). fields_from n y) (omega arith)
fields_both place (e ∷ x) y =
    ap (λ (fs : List Field). field_of place e ∷ fs) (fields_both (place + size_of e) x y ∙ ap (λ (n : ℕ). fields_from (place + size_of e) x ++ fields_from n y) (add_assoc place (size_of e) (size_all x)))

pub fields_length : (place : ℕ) (x : List Entry) → length (fields_from place x) ≡ length x
fields_length place [] = refl
fields_length place (e ∷ x) = ap suc (fields_length (place + size_of e) x)

pub written_both : (count : ℕ) (x y room : List Field) → written count (x ++ y) room ≡ written (count + length x) y (written count x room)
written_both count [] y room = ap (λ (n : ℕ). written n y room) (omega arith)
written_both count (f ∷ x) y room = written_both (count + 1) x y (set room count f) ∙ ap (λ (n : ℕ). written n y (written (count + 1) x (set room count f))) (omega arith)

item_has : (i : Item) → 1 ≤ item_size i
item_has (AUstring None) = omega arith
item_has (ABuffer None) = omega arith
item_has _ = omega arith

entry_has : (e : Entry) → 1 ≤ size_of e
entry_has (Under name i) = item_has i
entry_has (Head h) = omega arith

-- each entry has a byte
pub as_many : (x : List Entry) → length x ≤ size_all x
as_many [] = omega arith
as_many (e ∷ x) = omega (arith, entry_has e, as_many x)

pub takes_nothing : (at : At) (room : List Field) → Takes at room [] at room
unfolding Takes
takes_nothing at room fits = (search arith, refl)

pub takes_both : (a b c : At) (r s t : List Field) (x y : List Entry) → Takes a r x b s → Takes b s y c t → Takes a r (x ++ y) c t
unfolding Takes
takes_both a b c r s t x y p q fits =
    let size = size_both x y in
    let have = have_parts (items_of x) (items_of y) (subst HaveBytes (items_both x y) fits.2) in
    let first : Fits a x = (fits.0, omega (arith, fits.1, size), have.0) in
    let one = p first in
    let count : b.count ≡ a.count + length x = ap (λ (at : At). at.count) one.0 in
    let place : b.place ≡ a.place + size_all x = ap (λ (at : At). at.place) one.0 in
    let second : Fits b y = (omega (arith, fits.0, count, place, as_many x), omega (arith, fits.1, size, place), have.1) in
    let two = q second in
    let count2 : c.count ≡ b.count + length y = ap (λ (at : At). at.count) two.0 in
    let place2 : c.place ≡ b.place + size_all y = ap (λ (at : At). at.place) two.0 in
    let many = length-append x y in
    let count3 : c.count ≡ a.count + length (x ++ y) = omega (arith, count, count2, many) in
    let place3 : c.place ≡ a.place + size_all (x ++ y) = omega (arith, place, place2, size) in
    ((λ i. record { count = count3 i; place = place3 i }), two.1 ∙ rw (fields_both a.place x y, written_both a.count (fields_from a.place x) (fields_from (a.place + size_all x) y) r, fields_length a.place x) (subst (λ (z : ℕ × ℕ). written b.count (fields_from b.place y) s ≡ written z.0 (fields_from z.1 y) (written a.count (fields_from a.place x) r)) (λ i. (count i, place i)) (ap (λ (z : List Field). written b.count (fields_from b.place y) z) one.1)))

pub takes_one : (at : At) (room : List Field) (e : Entry) (next : At) (new : List Field) → Puts at room (field_of at.place e) (size_of e) next new → Takes at room (e ∷ []) next new
unfolding Takes
takes_one at room e next new puts fits =
    let size : size_of e + 0 ≡ size_of e = omega arith in
    rw size (puts fits.0 (entry_has e) (omega (arith, fits.1)))

pub takes_text : (at : At) (room : List Field) (name : ℕ) (t : Text) (bytes : Option (List ℕ)) (next : At) (new : List Field) → t ≡ text_of bytes → Puts at room (run_field at.place name TEXT bytes) (run_size bytes) next new
    → Takes at room (named name (text_items t)) next new
takes_text at room name t None next new e puts = rw e (takes_one at room (Under name (AUstring None)) next new puts)
takes_text at room name t (Some bytes) next new e puts = rw e (takes_one at room (Under name (AUstring (Some bytes))) next new puts)

pub takes_blob : (at : At) (room : List Field) (name : ℕ) (t : Blob) (bytes : Option (List ℕ)) (next : At) (new : List Field) → t ≡ text_of bytes → Puts at room (run_field at.place name BLOB bytes) (run_size bytes) next new
    → Takes at room (named name (blob_items t)) next new
takes_blob at room name t None next new e puts = rw e (takes_one at room (Under name (ABuffer None)) next new puts)
takes_blob at room name t (Some bytes) next new e puts = rw e (takes_one at room (Under name (ABuffer (Some bytes))) next new puts)

-- one more of those that are left
pub goes_on : {X : Type 0} (f : X → List Entry) (a b c : At) (r s t : List Field) (xs ys : List X) (x : X) → xs ≡ x ∷ ys → Takes a r (f x) b s → Takes b s (flat_map f ys) c t → Takes a r (flat_map f xs) c t
goes_on f a b c r s t xs ys x e p q = rw e (takes_both a b c r s t (f x) (flat_map f ys) p q)

pub takes_count : (at : At) (room : List Field) (name n : ℕ) (number : ℤ) (next : At) (new : List Field) → (n < 2 ^ 31 → number ≡ pos n)
    → Puts at room (record { place = at.place; length = 4; number = number; name = name; kind = LIST; null = 0 }) 4 next new → Takes at room (Under name (ACount (Some n)) ∷ []) next new
unfolding Takes
takes_count at room name n number next new is puts fits = takes_one at room (Under name (ACount (Some n))) next new (subst (λ (m : ℤ). Puts at room (record { place = at.place; length = 4; number = m; name = name; kind = LIST; null = 0 }) 4 next new) (is fits.2.0) puts) fits

pub takes_headed : (a b c : At) (r s t : List Field) (h : MultiHeader) (es : List Entry) → Takes a r (Head h ∷ []) b s → Takes b s es c t → Takes a r (Head h ∷ es) c t
takes_headed a b c r s t h es head others = takes_both a b c r s t (Head h ∷ []) es head others
