-- The fields of a whole frame, in a room.
use Rattle.std.proofs.Common.{◌≡◌, ℕ, ◌+◌, ◌<◌, ◌≤◌, ◌^◌, List, [], ◌∷◌, ◌++◌, length, take, drop, set, refl, sym, ap, subst, ◌∙◌, append_assoc, arith}
use Rattle.std.proofs.{lemmas.List.length-append, lemmas.List.length-take, lemmas.List.set_past, lemmas.Bool.Decides.nat_tests}
use Rattle.zk_jute.specs.Item.{Item, bytes_of, HaveBytes}
use Rattle.zk_jute.proofs.{Layouts.have_parts, Steps.IsBytes, Steps.IsBytes-take}
use Rattle.zk_fields.specs.{declared.field.Field.Field, declared.field.At.At, declared.walk.Walked.Walked, Fields.Entry, Fields.items_of, Fields.fields_from, Room.written, Room.Fits, Room.Takes, declared.payload_fields.Opened.Opened, Rows.Content}
use Rattle.zk_fields.specs.Frames.{Framed, framed_items, framed_fields, client_framed, server_framed, client_fields, server_fields, AreWritten, Shows}
use Rattle.zk_asks.specs.Held.{ClientFrame}
use Rattle.zk_asks.specs.Frames as asks
use Rattle.zk_answers.specs.Held.{ServerFrame}
use Rattle.zk_answers.specs.Frames as answers
use Rattle.std.specs.Prelude.{nat_le, true, false}
use Rattle.zk_fields.specs.Walks.{content_met, Walks, opened_start, opened_content, opened_fields}
use Rattle.zk_fields.proofs.{Rooms.fields_length, Same.size_is, Same.client_is, Same.server_is, Saying.total, Stood.content_stood}

-- beyond its end nothing is written
past_end : (count : ℕ) (fs room : List Field) → length room ≤ count → written count fs room ≡ room
past_end count [] room le = refl
past_end count (f ∷ fs) room le = ap (written (count + 1) fs) (set_past room count f le) ∙ past_end (count + 1) fs room (omega (arith, le))

set_front : (pre qs : List Field) (q f : Field) → set (pre ++ q ∷ qs) (length pre) f ≡ pre ++ f ∷ qs
set_front [] qs q f = refl
set_front (p ∷ pre) qs q f = ap (λ (z : List Field). p ∷ z) (set_front pre qs q f)

-- what stands in a room behind those that are written
overlay : (pre fs post : List Field) → written (length pre) fs (pre ++ post) ≡ pre ++ (take (length post) fs ++ drop (length fs) post)
overlay pre [] [] = refl
overlay pre [] (q ∷ qs) = refl
overlay pre (f ∷ fs) [] = past_end (length pre) (f ∷ fs) (pre ++ []) (omega (arith, length-append pre []))
overlay pre (f ∷ fs) (q ∷ qs) =
    let one = f ∷ [] in
    let longer : length (pre ++ one) ≡ length pre + 1 = length-append pre one in
    ap (written (length pre + 1) fs) (set_front pre qs q f ∙ sym (append_assoc pre one qs))
    ∙ ap (λ (n : ℕ). written n fs ((pre ++ one) ++ qs)) (sym longer)
    ∙ overlay (pre ++ one) fs qs
    ∙ append_assoc pre one (take (length qs) fs ++ drop (length fs) qs)

pub from_start : (fs room : List Field) → written 0 fs room ≡ take (length room) fs ++ drop (length fs) room
from_start fs room = overlay [] fs room

-- all that fit, from the room's beginning on
pub shows : (es : List Entry) (room new : List Field) (start : ℕ) (next : At) → Takes (record { count = 0; place = start }) room es next new → Shows start es room new next.count
unfolding Takes Shows
shows es room new start next takes fits =
    let told = takes fits in
    let counted : next.count ≡ 0 + length es = ap (λ (z : At). z.count) told.0 in
    record { count_is = omega (arith, counted, fields_length start es); room_is = told.1 ∙ from_start (fields_from start es) room }

whole : (f : Framed) (items : List Item) (room new : List Field) (start count : ℕ) → framed_items f ≡ items → start ≡ length (bytes_of f.front) → HaveBytes items → length (bytes_of items) < 2 ^ 32 → Shows start f.entries room new count
    → AreWritten (framed_fields f) room new count
unfolding Shows
whole f items room new start count same starts have small shown =
    let parts = have_parts f.front (items_of f.entries ++ f.behind) (subst HaveBytes (sym same) have) in
    let inner = have_parts (items_of f.entries) f.behind parts.1 in
    let long = ap (λ (z : List Item). length (bytes_of z)) (sym same) in
    let fits : Fits (record { count = 0; place = start }) f.entries = (omega arith, omega (arith, small, starts, long, total f.front (items_of f.entries) f.behind, size_is f.entries), inner.0) in
    subst (λ (n : ℕ). AreWritten (fields_from n f.entries) room new count) starts (shown fits)

pub client_written : (f : ClientFrame) (room new : List Field) (start count : ℕ) → start ≡ length (bytes_of (client_framed f).front) → Shows start (client_framed f).entries room new count → asks.IsSent f → length (asks.payload f) < 2 ^ 32
    → AreWritten (client_fields f) room new count
client_written f room new start count starts shown sent small = whole (client_framed f) (asks.frame_items f) room new start count (client_is f) starts sent.1 small shown

pub server_written : (s : ServerFrame) (room new : List Field) (start count : ℕ) → start ≡ length (bytes_of (server_framed s).front) → Shows start (server_framed s).entries room new count → answers.IsSent s → length (answers.payload s) < 2 ^ 32
    → AreWritten (server_fields s) room new count
server_written s room new start count starts shown sent small = whole (server_framed s) (answers.frame_items s) room new start count (server_is s) starts sent.2 small shown

-- no fields are written
pub none_written : (room : List Field) → AreWritten [] room room 0
none_written room = record { count_is = refl; room_is = from_start [] room }

-- the place where the fields begin is behind the bytes, or it isn't
pub too_short : (o : Opened) (payload : List ℕ) (place : ℕ) (room : List Field) → length (take place payload) < opened_start o → AreWritten (opened_fields o payload place) room room 0
too_short o payload place room short =
    let test : nat_le (opened_start o) (length (take place payload)) ≡ false = grind (arith, nat_tests) in
    rw test (none_written room)

pub long_enough : (o : Opened) (payload : List ℕ) (place count : ℕ) (room new : List Field) → opened_start o ≤ length (take place payload) → AreWritten (fields_from (opened_start o) (content_met (opened_content o) (take place payload) (opened_start o)).entries) room new count
    → AreWritten (opened_fields o payload place) room new count
long_enough o payload place count room new long written =
    let test : nat_le (opened_start o) (length (take place payload)) ≡ true = grind (arith, nat_tests) in
    rw test written

-- what a walk from a place on has written of a payload
pub walked : (c : Content) (src : List ℕ) (place : ℕ) (room new : List Field) (next : Walked) → IsBytes src → place ≤ length src → length src < 2 ^ 32 → Walks (record { count = 0; place = place }) room (content_met c src place) next new
    → AreWritten (fields_from place (content_met c src place).entries) room new next.at.count
unfolding Walks Shows
walked c src place room new next fits le small w =
    let m = content_met c src place in
    let s = content_stood c src place fits le in
    let stop = s.stands.at in
    let within = s.stands.within in
    shows m.entries room new place next.at w.0 (omega arith, omega (arith, stop, within, small, size_is m.entries), s.have)

-- of its front, up to a place
pub of_front : (o : Opened) (payload front : List ℕ) (place start : ℕ) (room new : List Field) (next : Walked) → front ≡ take place payload → start ≡ opened_start o → IsBytes payload → start ≤ length front → length payload < 2 ^ 32
    → Walks (record { count = 0; place = start }) room (content_met (opened_content o) front start) next new → AreWritten (opened_fields o payload place) room new next.at.count
of_front o payload front place start room new next is begins fits long small w =
    let short : length front < 2 ^ 32 = omega (arith, small, ap length is, length-take place payload) in
    let all = walked (opened_content o) front start room new next (subst IsBytes (sym is) (IsBytes-take place payload fits)) long short w in
    let le = subst (λ (n : ℕ). n ≤ length (take place payload)) begins (subst (λ (src : List ℕ). start ≤ length src) is long) in
    long_enough o payload place next.at.count room new le
    (subst (λ (n : ℕ). AreWritten (fields_from n (content_met (opened_content o) (take place payload) n).entries) room new next.at.count) begins
    (subst (λ (src : List ℕ). AreWritten (fields_from start (content_met (opened_content o) src start).entries) room new next.at.count) is all))
