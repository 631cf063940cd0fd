-- The content of a field lies where it says.
use Rattle.std.proofs.Common.{◌≡◌, ℕ, ◌+◌, List, [], ◌∷◌, ◌++◌, length, take, drop, refl, sym, ap, subst, ◌∙◌, append_assoc, arith}
use Rattle.std.specs.Prelude.{Some, None, pos}
use Rattle.std.proofs.lemmas.List.{length-append, append-nil, take_at, drop_at}
use Rattle.zk_jute.specs.Item.{AUstring, ABuffer, ACount, bytes_of, int_bytes}
use Rattle.zk_jute.proofs.{Layouts.bytes_both, Numbers.len32}
use Rattle.zk_fields.specs.Fields.{Entry, Under, entry_items, items_of, size_of, field_of}
use Rattle.zk_fields.specs.{Frames.Framed, Frames.framed_items, Contents.content_of, Contents.IsAt, Contents.AreAt}
use Rattle.zk_fields.proofs.Same.{entry_has}

-- these bytes stand behind those
stretch : (before bytes after : List ℕ) (place size : ℕ) → place ≡ length before → size ≡ length bytes → take size (drop place (before ++ (bytes ++ after))) ≡ bytes
stretch before bytes after place size p s = ap (take size) (drop_at before (bytes ++ after) place (sym p)) ∙ take_at bytes after size (sym s)

-- a run's bytes, behind their length
run : (before bytes after : List ℕ) (place : ℕ) → place ≡ length before → take (length bytes) (drop (place + 4) (before ++ ((int_bytes (pos (length bytes)) ++ bytes) ++ after))) ≡ bytes
run before bytes after place p =
    let front = int_bytes (pos (length bytes)) in
    let moved : before ++ ((front ++ bytes) ++ after) ≡ (before ++ front) ++ (bytes ++ after) = ap (λ (z : List ℕ). before ++ z) (append_assoc front bytes after) ∙ sym (append_assoc before front (bytes ++ after)) in
    ap (λ (z : List ℕ). take (length bytes) (drop (place + 4) z)) moved
    ∙ stretch (before ++ front) bytes after (place + 4) (length bytes) (omega (arith, p, length-append before front, len32 (pos (length bytes)))) refl

one_at : (e : Entry) (before after : List ℕ) (place : ℕ) → place ≡ length before → IsAt (before ++ (bytes_of (entry_items e) ++ after)) (field_of place e) (content_of e)
one_at (Under name (AUstring None)) before after place p = tt
one_at (Under name (AUstring (Some t))) before after place p = subst (λ (z : List ℕ). take (length t) (drop (place + 4) (before ++ (z ++ after))) ≡ t) (sym (append-nil (int_bytes (pos (length t)) ++ t))) (run before t after place p)
one_at (Under name (ABuffer None)) before after place p = tt
one_at (Under name (ABuffer (Some b))) before after place p = subst (λ (z : List ℕ). take (length b) (drop (place + 4) (before ++ (z ++ after))) ≡ b) (sym (append-nil (int_bytes (pos (length b)) ++ b))) (run before b after place p)
one_at (Under name (ACount None)) before after place p = stretch before (bytes_of (entry_items (Under name (ACount None)))) after place 4 p (sym (entry_has (Under name (ACount None))))
one_at (Under name (ACount (Some n))) before after place p = stretch before (bytes_of (entry_items (Under name (ACount (Some n))))) after place 4 p (sym (entry_has (Under name (ACount (Some n)))))
one_at e before after place p = stretch before (bytes_of (entry_items e)) after place (size_of e) p (sym (entry_has e))

all_at : (es : List Entry) (before after : List ℕ) (place : ℕ) → place ≡ length before → AreAt (before ++ (bytes_of (items_of es) ++ after)) place es
all_at [] before after place p = tt
all_at (e ∷ es) before after place p =
    let here = bytes_of (entry_items e) in
    let rest = bytes_of (items_of es) in
    let split : bytes_of (items_of (e ∷ es)) ++ after ≡ here ++ (rest ++ after) = ap (λ (z : List ℕ). z ++ after) (bytes_both (entry_items e) (items_of es)) ∙ append_assoc here rest after in
    let moved : before ++ (here ++ (rest ++ after)) ≡ (before ++ here) ++ (rest ++ after) = sym (append_assoc before here (rest ++ after)) in
    subst (λ (z : List ℕ). AreAt (before ++ z) place (e ∷ es)) (sym split)
    (one_at e before (rest ++ after) place p, subst (λ (z : List ℕ). AreAt z (place + size_of e) es) (sym moved) (all_at es (before ++ here) after (place + size_of e) (omega (arith, p, length-append before here, entry_has e))))

-- of a whole frame
pub framed_at : (f : Framed) → AreAt (bytes_of (framed_items f)) (length (bytes_of f.front)) f.entries
framed_at f =
    let split : bytes_of (framed_items f) ≡ bytes_of f.front ++ (bytes_of (items_of f.entries) ++ bytes_of f.behind) =
    bytes_both f.front (items_of f.entries ++ f.behind) ∙ ap (λ (z : List ℕ). bytes_of f.front ++ z) (bytes_both (items_of f.entries) f.behind) in
    subst (λ (z : List ℕ). AreAt z (length (bytes_of f.front)) f.entries) (sym split) (all_at f.entries (bytes_of f.front) (bytes_of f.behind) (length (bytes_of f.front)) refl)
