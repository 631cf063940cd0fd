-- What fields say, one after the other.
use Rattle.std.proofs.Common.{option_copied, Bor, ◌≡◌, ℕ, zero, suc, ◌+◌, ◌<◌, ◌≤◌, ◌^◌, List, [], ◌∷◌, ◌++◌, length, take, get_or, refl, sym, ap, subst, ◌∙◌, append_assoc, arith}
use Rattle.std.specs.Prelude.{Option, Some, None, pos, Ok, Err, true, ◌==◌, unwrap_or}
use Rattle.std.specs.{Option.option_map, Option.option_and_then, List.slice_get, Str.Lossy.utf8_valid_len, Slice.IsGetResult}
use Rattle.std.proofs.lemmas.List.{append-nil, length-append, take_more, take_all}
use Rattle.std.proofs.{lemmas.Bool.Decides.nat_tests, lemmas.Option.slice_get-get_or, lemmas.Option.slice_get_past}
use Rattle.zk_jute.specs.Item.{Item, AUstring, ABuffer, bytes_of, int_bytes}
use Rattle.zk_jute.proofs.{Layouts.bytes_both, Numbers.len32}
use Rattle.zk_fields.specs.{declared.field.Field.Field, declared.value.Heads.Heads, declared.value.Value.Value, Values.value_bytes, Values.IsSaid, Values.Fills, Values.Measures, declared.write.Unwritten.Unwritten}
use Rattle.zk_fields.specs.Written.{stretch_said, utf8_said, Pair, pairs, said, said_with, all_said, payload_items, frame, Holds, Writes}
use Rattle.zk_fields.specs.declared.write.Unwritten.TheVariants as unwritten
use Rattle.zk_fields.proofs.Filling.{fills_both}

pub some_is : {A : Type 0} {x y : A} → Some x ≡ Some y → x ≡ y
some_is {x = x} e = ap (λ o. unwrap_or o x) e

-- a text of UTF-8
pub text_said : (content bytes : List ℕ) (f : Field) (v : Option Value) → Some bytes ≡ stretch_said content f → utf8_valid_len bytes ≡ length bytes → IsSaid (Some (ABuffer (Some bytes) ∷ [])) v
    → IsSaid (option_map (λ (t : Option (List ℕ)). AUstring t ∷ []) (option_and_then utf8_said (option_map Some (stretch_said content f)))) v
text_said content bytes f v is valid says =
    let test : (utf8_valid_len bytes == length bytes) ≡ true = grind (arith, nat_tests) in
    rw (sym is, test) says

-- ---- the fields, each with the one after it

-- no field is there
abbrev pub no_one : Field
no_one = record { place = 0; length = 0; number = pos 0; name = 0; kind = 0; null = 0 }

abbrev pub no_field : Pair
no_field = (no_one, None)

pub pairs_length : (fs : List Field) → length (pairs fs) ≡ length fs
pairs_length [] = refl
pairs_length (f ∷ fs) = ap suc (pairs_length fs)

pub pair_at : (fs : List Field) (i : ℕ) (f : Field) (d : Pair) → slice_get fs i ≡ Some f → get_or (pairs fs) i d ≡ (f, slice_get fs (suc i))
pair_at [] i f d e = absurd (cc)
pair_at (x ∷ fs) zero f d e = ap (λ (z : Field). (z, slice_get fs 0)) (some_is e)
pair_at (x ∷ fs) (suc i) f d e = pair_at fs i f d e

-- the field that a slice has there
pub got : (fs : List Field) (i : ℕ) (r : Option (Bor Field)) → IsGetResult fs i i r → option_copied r ≡ slice_get fs i
got fs i None is = sym (slice_get_past fs i is.3)
got fs i (Some x) is = ap Some (is.4 (omega arith) no_one) ∙ sym (slice_get-get_or fs i no_one is.3.0)

-- nothing is said
pub none_said : (o : Option (List Item)) → IsSaid o None → o ≡ None
none_said None e = refl
none_said (Some x) e = absurd (cc)

-- something is
pub some_said : (o : Option (List Item)) (v : Value) → IsSaid o (Some v) → (items : List Item) × (o ≡ Some items) × (value_bytes v ≡ bytes_of items)
some_said None v e = absurd (cc)
some_said (Some x) v e = (x, refl, some_is e)

pub with_some : (first others : Option (List Item)) (a : List Item) → said_with first others ≡ Some a → (x : List Item) × (y : List Item) × (first ≡ Some x) × (others ≡ Some y) × (a ≡ x ++ y)
with_some None others a e = absurd (cc)
with_some (Some x) None a e = absurd (cc)
with_some (Some x) (Some y) a e = (x, y, refl, refl, sym (some_is e))

-- one more field
said_more : (heads : Heads) (content : List ℕ) (xs : List Pair) (f : Pair) (a b : List Item) → all_said heads content xs ≡ Some a → said heads content f ≡ Some b → all_said heads content (xs ++ f ∷ []) ≡ Some (a ++ b)
said_more heads content [] f a b p q = ap (λ (o : Option (List Item)). said_with o (Some [])) q ∙ ap Some (append-nil b) ∙ ap (λ (z : List Item). Some (z ++ b)) (some_is p)
said_more heads content (x ∷ xs) f a b p q =
    let w = with_some (said heads content x) (all_said heads content xs) a p in
    let next = said_more heads content xs f w.1 b w.3 q in
    (λ k. said_with (w.2 k) (next k)) ∙ ap Some (sym (append_assoc w.0 w.1 b) ∙ ap (λ (z : List Item). z ++ b) (sym w.4))

said_split : (heads : Heads) (content : List ℕ) (xs : List Pair) (f : Pair) (c : List Item) → all_said heads content (xs ++ f ∷ []) ≡ Some c → (a : List Item) × (b : List Item) × (all_said heads content xs ≡ Some a) × (said heads content f ≡ Some b) × (c ≡ a ++ b)
said_split heads content [] f c p =
    let w = with_some (said heads content f) (Some []) c p in
    ([], w.0, refl, w.2, w.4 ∙ ap (λ (z : List Item). w.0 ++ z) (sym (some_is w.3)) ∙ append-nil w.0)
said_split heads content (x ∷ xs) f c p =
    let w = with_some (said heads content x) (all_said heads content (xs ++ f ∷ [])) c p in
    let s = said_split heads content xs f w.1 w.3 in
    (w.0 ++ s.0, s.1, (λ k. said_with (w.2 k) (s.2 k)), s.3, w.4 ∙ ap (λ (z : List Item). w.0 ++ z) s.4 ∙ sym (append_assoc w.0 s.0 s.1))

pub next_said : (heads : Heads) (content : List ℕ) (fs : List Pair) (i : ℕ) (d : Pair) (a b : List Item) → i < length fs → all_said heads content (take i fs) ≡ Some a → said heads content (get_or fs i d) ≡ Some b → all_said heads content (take (i + 1) fs) ≡ Some (a ++ b)
next_said heads content fs i d a b within p q = ap (all_said heads content) (take_more fs i d within) ∙ said_more heads content (take i fs) (get_or fs i d) a b p q

pub next_split : (heads : Heads) (content : List ℕ) (fs : List Pair) (i : ℕ) (d : Pair) (c : List Item) → i < length fs → all_said heads content (take (i + 1) fs) ≡ Some c
    → (a : List Item) × (b : List Item) × (all_said heads content (take i fs) ≡ Some a) × (said heads content (get_or fs i d) ≡ Some b) × (c ≡ a ++ b)
next_split heads content fs i d c within p = said_split heads content (take i fs) (get_or fs i d) c (ap (all_said heads content) (sym (take_more fs i d within)) ∙ p)

pub at_end : (heads : Heads) (content : List ℕ) (fs : List Pair) (i : ℕ) → length fs ≤ i → all_said heads content (take i fs) ≡ all_said heads content fs
at_end heads content fs i past = ap (all_said heads content) (take_all i fs past)

pub longer : (a b : List Item) → length (bytes_of (a ++ b)) ≡ length (bytes_of a) + length (bytes_of b)
longer a b = ap length (bytes_both a b) ∙ length-append (bytes_of a) (bytes_of b)

-- what one more says comes behind the others
pub fills_more : (x y : List Item) (bytes : List ℕ) (a b c : ℕ) (r s t : List ℕ) → bytes ≡ bytes_of y → Fills (bytes_of x) a r b s → Fills bytes b s c t → Fills (bytes_of (x ++ y)) a r c t
fills_more x y bytes a b c r s t same p q = rw (bytes_both x y) (fills_both a b c r s t (bytes_of x) (bytes_of y) p (subst (λ (z : List ℕ). Fills z b s c t) same q))

pub fills_said : (o : Option (List Item)) (v : Value) (a b : ℕ) (r s : List ℕ) → IsSaid o (Some v) → Fills (value_bytes v) a r b s → (items : List Item) → o ≡ Some items → Fills (bytes_of items) a r b s
fills_said None v a b r s is p items e = absurd (cc)
fills_said (Some x) v a b r s is p items e = subst (λ (z : List ℕ). Fills z a r b s) (some_is is ∙ ap bytes_of (some_is e)) p

pub unsaid : (o : Option (List Item)) (items : List Item) → IsSaid o None → o ≡ Some items → ⊥
unsaid o items is e = let n = none_said o is in absurd (cc)

pub fills_next : (heads : Heads) (content : List ℕ) (fs : List Pair) (i : ℕ) (a b c : ℕ) (r s t : List ℕ) → i < length fs → ((items : List Item) → all_said heads content (take i fs) ≡ Some items → Fills (bytes_of items) a r b s)
    → ((items : List Item) → said heads content (get_or fs i no_field) ≡ Some items → Fills (bytes_of items) b s c t) → (items : List Item) → all_said heads content (take (i + 1) fs) ≡ Some items → Fills (bytes_of items) a r c t
fills_next heads content fs i a b c r s t within p q items e =
    let x = next_split heads content fs i no_field items within e in
    subst (λ (z : List Item). Fills (bytes_of z) a r c t) (sym x.4) (fills_more x.0 x.1 (bytes_of x.1) a b c r s t refl (p x.0 x.2) (q x.1 x.3))

-- ---- how many bytes they are

-- the bytes of what the fields so far say, and others
abbrev pub SoFar : Heads → List ℕ → List Pair → ℕ → ℕ → ℕ → Type 0
SoFar heads content fs i start size = (items : List Item) × (all_said heads content (take i fs) ≡ Some items) × (size ≡ start + length (bytes_of items)) × (size < 2 ^ 31)

module _ (heads : Heads) (content : List ℕ) (fs : List Pair) (i start size : ℕ) (within : i < length fs) (so_far : SoFar heads content fs i start size) where
  abbrev here : Pair
  here = get_or fs i no_field

  pub wrong : IsSaid (said heads content here) None → Measures heads content fs start (Err (unwritten.Wrong i))
  wrong is = (so_far.0, here, so_far.1, omega (arith, so_far.2, so_far.3), slice_get-get_or fs i no_field within, none_said (said heads content here) is)

  -- with one more
  more : (v : Value) → IsSaid (said heads content here) (Some v) → (items : List Item) × (all_said heads content (take (i + 1) fs) ≡ Some items) × (start + length (bytes_of items) ≡ size + length (value_bytes v))
  more v is =
      let s = some_said (said heads content here) v is in
      (so_far.0 ++ s.0, next_said heads content fs i no_field so_far.0 s.0 within so_far.1 s.1, omega (arith, so_far.2, longer so_far.0 s.0, ap length s.2))

  pub long : (v : Value) → IsSaid (said heads content here) (Some v) → 2 ^ 31 ≤ size + length (value_bytes v) → Measures heads content fs start (Err (unwritten.Long i))
  long v is past =
      let m = more v is in
      (so_far.0, m.0, so_far.1, omega (arith, so_far.2, so_far.3), m.1, omega (arith, m.2, past))

  pub next : (v : Value) (sum : ℕ) → IsSaid (said heads content here) (Some v) → sum ≡ size + length (value_bytes v) → sum < 2 ^ 31 → SoFar heads content fs (i + 1) start sum
  next v sum is adds small =
      let m = more v is in
      (m.0, m.1, omega (arith, m.2, adds), small)

pub measured : (heads : Heads) (content : List ℕ) (fs : List Pair) (i start size : ℕ) → length fs ≤ i → SoFar heads content fs i start size → Measures heads content fs start (Ok size)
measured heads content fs i start size past s = (s.0, sym (at_end heads content fs i past) ∙ s.1, s.2, s.3)

-- ---- the frame

filled : (bytes room new : List ℕ) (end : ℕ) → Fills bytes 0 room end new → length bytes ≤ length room → Holds bytes room new
unfolding Fills
filled bytes room new end p fits = (p room [] (refl, refl) (omega (arith, fits))).1

pub split : (front items behind : List Item) → bytes_of (payload_items front items behind) ≡ bytes_of front ++ (bytes_of items ++ bytes_of behind)
split front items behind = bytes_both front (items ++ behind) ∙ ap (λ (z : List ℕ). bytes_of front ++ z) (bytes_both items behind)

pub total : (front items behind : List Item) → length (bytes_of (payload_items front items behind)) ≡ length (bytes_of front) + length (bytes_of behind) + length (bytes_of items)
total front items behind = omega (arith, longer front (items ++ behind), longer items behind)

module _ (heads : Heads) (a b : List Item) (x y content : List ℕ) (fs : List Field) (room : List ℕ) (front : x ≡ bytes_of a) (back : y ≡ bytes_of b) where
  pub refused : (why : Unwritten) → Measures heads content (pairs fs) (length x + length y) (Err why) → Writes heads a b content fs room (Err why) room
  refused (unwritten.Wrong i) (items, f, said_so, few, got, none) = ((items, f, said_so, omega (arith, few, total a items b, ap length front, ap length back), got, none), refl)
  refused (unwritten.Long i) (items, more, said_so, few, said_more_, many) = ((items, more, said_so, omega (arith, few, total a items b, ap length front, ap length back), said_more_, omega (arith, many, total a more b, ap length front, ap length back)), refl)
  refused (unwritten.Room n) m = absurd m

  size_is : (items : List Item) (payload : ℕ) → payload ≡ length x + length y + length (bytes_of items) → length (bytes_of (payload_items a items b)) ≡ payload
  size_is items payload is = omega (arith, is, total a items b, ap length front, ap length back)

  frame_is : (items : List Item) → length (frame (payload_items a items b)) ≡ length (bytes_of (payload_items a items b)) + 4
  frame_is items =
      let all = bytes_of (payload_items a items b) in
      omega (arith, length-append (int_bytes (pos (length all))) all, len32 (pos (length all)))

  pub crowded : (payload : ℕ) → Measures heads content (pairs fs) (length x + length y) (Ok payload) → length room < payload + 4 → Writes heads a b content fs room (Err (unwritten.Room (payload + 4))) room
  crowded payload m few =
      let size = size_is m.0 payload m.2 in
      ((m.0, m.1, omega (arith, size, m.3), omega (arith, size, frame_is m.0), few), refl)

  pub framed : (payload n1 n2 n3 n4 : ℕ) (r1 r2 r3 r4 : List ℕ) → Measures heads content (pairs fs) (length x + length y) (Ok payload) → payload + 4 ≤ length room → Fills (int_bytes (pos payload)) 0 room n1 r1 → Fills x n1 r1 n2 r2
      → ((items : List Item) → all_said heads content (pairs fs) ≡ Some items → Fills (bytes_of items) n2 r2 n3 r3) → Fills y n3 r3 n4 r4 → Writes heads a b content fs room (Ok (payload + 4)) r4
  framed payload n1 n2 n3 n4 r1 r2 r3 r4 m fits p q r s =
      let items = m.0 in
      let all = payload_items a items b in
      let size = size_is items payload m.2 in
      let long = frame_is items in
      let first = subst (λ (z : List ℕ). Fills z n1 r1 n2 r2) front q in
      let last = subst (λ (z : List ℕ). Fills z n3 r3 n4 r4) back s in
      let body : Fills (bytes_of all) n1 r1 n4 r4 = subst (λ (z : List ℕ). Fills z n1 r1 n4 r4) (sym (split a items b)) (fills_both n1 n2 n4 r1 r2 r4 (bytes_of a) (bytes_of items ++ bytes_of b) first (fills_both n2 n3 n4 r2 r3 r4 (bytes_of items) (bytes_of b) (r items m.1) last)) in
      let head : Fills (int_bytes (pos (length (bytes_of all)))) 0 room n1 r1 = subst (λ (n : ℕ). Fills (int_bytes (pos n)) 0 room n1 r1) (sym size) p in
      let whole : Fills (frame all) 0 room n4 r4 = fills_both 0 n1 n4 room r1 r4 (int_bytes (pos (length (bytes_of all)))) (bytes_of all) head body in
      (items, m.1, omega (arith, size, m.3), omega (arith, size, long), fits, filled (frame all) room r4 n4 whole (omega (arith, size, long, fits)))
