-- The fields that were read of a message say its items again.
use Rattle.std.proofs.Common.{◌≡◌, ℕ, zero, suc, ◌+◌, ◌<◌, ◌≤◌, ◌^◌, ℤ, List, [], ◌∷◌, ◌++◌, length, take, drop, refl, sym, ap, subst, ◌∙◌, append_assoc, arith, FitsSigned, w32}
use Rattle.std.specs.Prelude.{Option, Some, None, Bool, true, false, pos, negsuc, Result, Ok, Err, ◌==◌, nat_lt, nat_le, unwrap_or, if◌then◌else◌}
use Rattle.std.specs.{Option.option_map, Option.option_and_then, List.flat_map, List.slice_get, Str.Lossy.utf8_valid_len}
use Rattle.std.proofs.{lemmas.List.append-nil, lemmas.List.take-append-drop, lemmas.Str.utf8_valid_len-IsUtf8, lemmas.Int.ints, lemmas.Option.slice_get_within, lemmas.Option.get_or_from_slice_get, lemmas.Bool.Decides.nat_tests}
use Rattle.zk_jute.specs.Item.{Item, AnInt, ABoolean, AUstring, ABuffer, ACount, HaveBytes, bytes_of}
use Rattle.zk_jute.specs.Layout.{Groups}
use Rattle.zk_jute.proofs.Layouts.{have_parts}
use Rattle.zk_records.specs.{Records.multi_header, Codes.op_number}
use Rattle.zk_asks.specs.declared.frame.ClientFrameOf.TheVariants as client
use Rattle.zk_asks.specs.{Held.Part, Held.Ask, Held.ClientFrame, Parts.record_of}
use Rattle.zk_asks.specs.Frames as asks
use Rattle.zk_answers.specs.declared.frame.PartDoneOf.TheVariants as done
use Rattle.zk_answers.specs.declared.frame.OutcomeOf.TheVariants as outcome
use Rattle.zk_answers.specs.declared.frame.ServerFrameOf.TheVariants as server
use Rattle.zk_answers.specs.{Held.PartDone, Held.Body, Held.Outcome, Held.ServerFrame, Results.result_of, Frames.err_of, Frames.op_of_outcome, Frames.IsOutcome}
use Rattle.zk_answers.specs.Frames as answers
use Rattle.zk_fields.specs.{declared.field.Field.Field, declared.value.Heads.Heads, declared.write.Unwritten.Unwritten, Contents.content_of, Contents.IsAt, Contents.AreAt}
use Rattle.zk_fields.specs.declared.value.Heads.TheVariants as head
use Rattle.zk_fields.specs.declared.write.Unwritten.TheVariants as unwritten
use Rattle.zk_fields.specs.Fields.{Entry, Under, Head, entry_items, items_of, size_of, size_all, field_of, fields_from}
use Rattle.zk_fields.specs.Named.{Shape, Nothing, An, Both, Many, IsOf, Named}
use Rattle.zk_fields.specs.{Heads.plain_head, Heads.headed_shape, Heads.record_entries, Heads.part_entries, Heads.result_entries, Heads.done_entries, Rows.ask_entries, Rows.body_entries}
use Rattle.zk_fields.specs.Frames.{Framed, flag_entries, rest_entries, rest_behind, framed_items, framed_fields, client_framed, server_framed}
use Rattle.zk_fields.specs.Records.{connect_request, connect_response, watcher_event, read_only}
use Rattle.zk_fields.specs.Written.{int_said, count_said, utf8_said, Pair, pairs, head_said, said, said_with, all_said, done_behind, MayBe, frame, payload_items, Holds, Writes, Again, WritesAgain, AnswersAgain}
use Rattle.zk_fields.proofs.{Heads.unequal, Rows.Formed, Rows.part_formed, Rows.done_formed, Rows.of_ask, Rows.of_body, Same.size_is, Same.client_is, Same.server_is, Contents.framed_at}
use Rattle.zk_fields.proofs.Saying.{some_is, with_some, next_split, longer, total}

int_fits : (n : ℤ) → FitsSigned w32 n → int_said n ≡ Some n
int_fits (pos n) fits =
    let small : n < 2147483648 = omega (arith, ints, fits) in
    let test : nat_lt n 2147483648 ≡ true = grind (arith, nat_tests) in
    rw test refl
int_fits (negsuc n) fits =
    let small : n < 2147483648 = omega (arith, ints, fits) in
    let test : nat_lt n 2147483648 ≡ true = grind (arith, nat_tests) in
    rw test refl

-- ---- the headers are those that the fields say

-- before these entries the field of a header says it
abbrev IsTold : Heads → Entry → List Entry → Type 0
IsTold heads (Under name i) es = Unit {0}
IsTold heads (Head h) es = (place : ℕ) → HaveBytes (items_of es) → head_said heads (slice_get (fields_from place es) 0) h.kind ≡ Some h

-- so it is of each, before others
abbrev ToldBefore : Heads → List Entry → List Entry → Type 0
ToldBefore heads more [] = Unit {0}
ToldBefore heads more (e ∷ es) = IsTold heads e (es ++ more) × ToldBefore heads more es

abbrev AreTold : Heads → List Entry → Type 0
AreTold heads es = (more : List Entry) → ToldBefore heads more es

both : (heads : Heads) (x y : List Entry) → AreTold heads x → AreTold heads y → AreTold heads (x ++ y)
both heads [] y p q more = q more
both heads (e ∷ x) y p q more = (subst (IsTold heads e) (sym (append_assoc x y more)) (p (y ++ more)).0, both heads x y (λ others. (p others).1) q more)

each : (heads : Heads) {X : Type 0} (f : X → List Entry) → ((x : X) → AreTold heads (f x)) → (xs : List X) → AreTold heads (flat_map f xs)
each heads f are [] more = tt
each heads f are (x ∷ xs) more = both heads (f x) (flat_map f xs) (are x) (each heads f are xs) more

-- entries of a shape have no headers
times : (heads : Heads) (P : List Entry → Type 0) → ((es : List Entry) → P es → AreTold heads es) → (n : ℕ) (es : List Entry) → Groups P n es → AreTold heads es
times heads P are zero es p = subst (AreTold heads) (sym p) (λ more. tt)
times heads P are (suc n) es p = subst (AreTold heads) (sym p.4) (both heads p.0 p.1 (are p.0 p.2) (times heads P are n p.1 p.3))

plain : (heads : Heads) (s : Shape) (es : List Entry) → IsOf s es → AreTold heads es
plain heads Nothing es p = subst (AreTold heads) (sym p) (λ more. tt)
plain heads (An name kind) es p = subst (AreTold heads) (sym p.2) (λ more. (tt, tt))
plain heads (Both a b) es p = subst (AreTold heads) (sym p.4) (both heads p.0 p.1 (plain heads a p.0 p.2) (plain heads b p.1 p.3))
plain heads (Many name s) es p = subst (AreTold heads) (sym p.3) (λ more. (tt, times heads (IsOf s) (plain heads s) (unwrap_or p.0 0) p.1 p.2 more))

one : {X : Type 0} (heads : Heads) (k : Named X) (name : ℕ) (x : X) → AreTold heads (k.entries name x)
one heads k name x = plain heads (k.shape name) (k.entries name x) (k.formed name x)

-- those of a row have none either
formed_told : (heads : Heads) (s : Shape) (es : List Entry) (items : List Item) → Formed s es items → AreTold heads es
formed_told heads s es items f = plain heads s es f.of

part_told : (p : Part) → AreTold head.Parts (part_entries p)
part_told p more = let m = part_formed p in ((λ place have. refl), formed_told head.Parts (headed_shape m.0) (record_entries p) (record_of p) m.2 more)

ask_told : (a : Ask) → AreTold head.Parts (ask_entries a)
ask_told = of_ask (λ c es behind items. AreTold head.Parts es) (formed_told head.Parts) (each head.Parts part_entries part_told)

flag_told : (heads : Heads) (flag : Option Bool) → AreTold heads (flag_entries flag)
flag_told heads None = λ more. tt
flag_told heads (Some b) = one heads read_only 0 b

flagged : {X : Type 0} (heads : Heads) (k : Named X) (x : X) (flag : Option Bool) → AreTold heads (k.entries 0 x ++ flag_entries flag)
flagged heads k x flag = both heads (k.entries 0 x) (flag_entries flag) (one heads k 0 x) (flag_told heads flag)

client_told : (f : ClientFrame) → AreTold head.Parts (client_framed f).entries
client_told (client.Connect hello flag) = flagged head.Parts connect_request hello flag
client_told (client.Ask xid a) = ask_told a

done_told : (d : PartDone) → AreTold head.Results (done_entries d)
done_told (done.PartFailed e) more = ((λ place have. ap (option_map (plain_head (negsuc 0))) (int_fits e have.0)), (tt, tt))
done_told d more = let m = done_formed d in ((λ place have. refl), formed_told head.Results (headed_shape m.0) (result_entries d) (result_of d) m.2 more)

body_told : (b : Body) → AreTold head.Results (body_entries b)
body_told = of_body (λ c es behind items. AreTold head.Results es) (formed_told head.Results) (each head.Results done_entries done_told)

rest_told : (o : Outcome) → AreTold head.Results (rest_entries o)
rest_told (outcome.Done b) = body_told b
rest_told (outcome.Failed op e) = λ more. tt

server_told : (s : ServerFrame) → AreTold head.Results (server_framed s).entries
server_told (server.Connected hello flag) = flagged head.Results connect_response hello flag
server_told (server.Answered r) = rest_told r.outcome
server_told (server.Event zxid event) = one head.Results watcher_event 0 event

-- ---- each field says its entry's items

count_fits : (n : ℕ) → n < 2 ^ 31 → count_said (pos n) ≡ Some n
count_fits n small =
    let test : nat_lt n 2147483648 ≡ true = grind (arith, nat_tests) in
    rw test refl

stretch : (src bytes : List ℕ) (p n : ℕ) → p + n ≤ length src → n < 2 ^ 31 → take n (drop p src) ≡ bytes → (if nat_le (p + n) (length src) then (if nat_lt n 2147483648 then Some (take n (drop p src)) else None) else None) ≡ Some bytes
stretch src bytes p n within small is =
    let a : nat_le (p + n) (length src) ≡ true = grind (arith, nat_tests) in
    let b : nat_lt n 2147483648 ≡ true = grind (arith, nat_tests) in
    rw (a, b) (ap Some is)

utf8 : (t : List ℕ) → utf8_valid_len t ≡ length t → utf8_said (Some t) ≡ Some (Some t)
utf8 t valid =
    let test : (utf8_valid_len t == length t) ≡ true = grind (arith, nat_tests) in
    rw test refl

one_again : (heads : Heads) (src : List ℕ) (place : ℕ) (e : Entry) (es : List Entry) → IsTold heads e es → HaveBytes (entry_items e) → HaveBytes (items_of es) → IsAt src (field_of place e) (content_of e) → place + size_of e ≤ length src
    → said heads src (field_of place e, slice_get (fields_from (place + size_of e) es) 0) ≡ Some (entry_items e)
one_again heads src place (Under name (AnInt n)) es is have others at within = ap (option_map (λ (m : ℤ). AnInt m ∷ [])) (int_fits n have.0)
one_again heads src place (Under name (ABoolean true)) es is have others at within = refl
one_again heads src place (Under name (ABoolean false)) es is have others at within = refl
one_again heads src place (Under name (AUstring (Some t))) es is have others at within =
    ap (λ (o : Option (List ℕ)). option_map (λ (z : Option (List ℕ)). AUstring z ∷ []) (option_and_then utf8_said (option_map Some o))) (stretch src t (place + 4) (length t) (omega (arith, within)) have.0.1 at)
    ∙ ap (option_map (λ (z : Option (List ℕ)). AUstring z ∷ [])) (utf8 t (utf8_valid_len-IsUtf8 t have.0.0))
one_again heads src place (Under name (ABuffer (Some b))) es is have others at within =
    ap (λ (o : Option (List ℕ)). option_map (λ (z : Option (List ℕ)). ABuffer z ∷ []) (option_map Some o)) (stretch src b (place + 4) (length b) (omega (arith, within)) have.0.1 at)
one_again heads src place (Under name (ACount (Some n))) es is have others at within = ap (λ (o : Option ℕ). option_map (λ (z : Option ℕ). ACount z ∷ []) (option_map Some o)) (count_fits n have.0)
one_again heads src place (Head h) es is have others at within =
    ap (λ (o : Option ℤ). option_map multi_header.items (option_and_then (head_said heads (slice_get (fields_from (place + 9) es) 0)) o)) (int_fits h.kind have.0) ∙ ap (option_map multi_header.items) (is (place + 9) others)
one_again heads src place _ es is have others at within = refl

all_again : (heads : Heads) (src : List ℕ) (place : ℕ) (es : List Entry) → ToldBefore heads [] es → HaveBytes (items_of es) → AreAt src place es → place + size_all es ≤ length src → all_said heads src (pairs (fields_from place es)) ≡ Some (items_of es)
all_again heads src place [] are have at within = refl
all_again heads src place (e ∷ es) are have at within =
    let parts = have_parts (entry_items e) (items_of es) have in
    let first = one_again heads src place e es (subst (IsTold heads e) (append-nil es) are.0) parts.0 parts.1 at.0 (omega (arith, within)) in
    let others = all_again heads src (place + size_of e) es are.1 parts.1 at.1 (omega (arith, within)) in
    λ k. said_with (first k) (others k)

framed_said : (heads : Heads) (f : Framed) → AreTold heads f.entries → HaveBytes (framed_items f) → all_said heads (bytes_of (framed_items f)) (pairs (framed_fields f)) ≡ Some (items_of f.entries)
framed_said heads f told have_all =
    let es = f.entries in
    let have = have_parts (items_of es) f.behind (have_parts f.front (items_of es ++ f.behind) have_all).1 in
    let within : length (bytes_of f.front) + size_all es ≤ length (bytes_of (framed_items f)) = omega (arith, longer f.front (items_of es ++ f.behind), longer (items_of es) f.behind, size_is es) in
    all_again heads (bytes_of (framed_items f)) (length (bytes_of f.front)) es (told []) have.0 (framed_at f) within

-- ---- so they are written

split_all : (heads : Heads) (content : List ℕ) (xs ys : List Pair) (c : List Item) → all_said heads content (xs ++ ys) ≡ Some c → (a : List Item) × (b : List Item) × (all_said heads content xs ≡ Some a) × (c ≡ a ++ b)
split_all heads content [] ys c p = ([], c, refl, refl)
split_all heads content (x ∷ xs) ys c p =
    let w = with_some (said heads content x) (all_said heads content (xs ++ ys)) c p in
    let s = split_all heads content xs ys w.1 w.3 in
    (w.0 ++ s.0, s.1, (λ k. said_with (w.2 k) (s.2 k)), w.4 ∙ ap (λ (z : List Item). w.0 ++ z) s.3 ∙ sym (append_assoc w.0 s.0 s.1))

front_said : (heads : Heads) (content : List ℕ) (fs : List Pair) (n : ℕ) (c : List Item) → all_said heads content fs ≡ Some c → (a : List Item) × (b : List Item) × (all_said heads content (take n fs) ≡ Some a) × (c ≡ a ++ b)
front_said heads content fs n c p = split_all heads content (take n fs) (drop n fs) c (ap (all_said heads content) (take-append-drop n fs) ∙ p)

written : (heads : Heads) (front items behind : List Item) (content : List ℕ) (fs : List Field) (before after : List ℕ) (result : Result ℕ Unwritten) → all_said heads content (pairs fs) ≡ Some items → MayBe (payload_items front items behind) → length (frame (payload_items front items behind)) ≤ length before
    → Writes heads front behind content fs before result after → (result ≡ Ok (length (frame (payload_items front items behind)))) × Holds (frame (payload_items front items behind)) before after
written heads front items behind content fs before after (Ok size) says small fits (others, says_too, few, is, within, holds) =
    let same : others ≡ items = some_is (sym says_too ∙ says) in
    (ap Ok (is ∙ ap (λ (z : List Item). length (frame (payload_items front z behind))) same), subst (λ (z : List Item). Holds (frame (payload_items front z behind)) before after) same holds)
written heads front items behind content fs before after (Err (unwritten.Wrong i)) says small fits ((others, f, says_too, few, got, none), unchanged) =
    let a = front_said heads content (pairs fs) (i + 1) items says in
    let s = next_split heads content (pairs fs) i f a.0 (slice_get_within (pairs fs) i f got) a.2 in
    let said_f : said heads content f ≡ Some s.1 = ap (said heads content) (sym (get_or_from_slice_get (pairs fs) i f f got)) ∙ s.3 in
    absurd (cc)
written heads front items behind content fs before after (Err (unwritten.Long i)) says small fits ((others, more, says_too, few, says_more, past), unchanged) =
    let a = front_said heads content (pairs fs) (i + 1) items says in
    let same : a.0 ≡ more = some_is (sym a.2 ∙ says_more) in
    absurd (omega (arith, small, past, total front items behind, total front more behind, ap (λ (z : List Item). length (bytes_of z)) a.3, longer a.0 a.1, ap (λ (z : List Item). length (bytes_of z)) same))
written heads front items behind content fs before after (Err (unwritten.Room size)) says small fits ((others, says_too, few, is, past), unchanged) =
    let same : others ≡ items = some_is (sym says_too ∙ says) in
    absurd (omega (arith, past, fits, is, ap (λ (z : List Item). length (frame (payload_items front z behind))) same))

framed_again : (heads : Heads) (f : Framed) (items : List Item) (content : List ℕ) (fs : List Field) (before after : List ℕ) (result : Result ℕ Unwritten) → AreTold heads f.entries → framed_items f ≡ items → HaveBytes items
    → Writes heads f.front f.behind content fs before result after → Again items (framed_fields f) content fs before result after
framed_again heads f items content fs before after result told same have writes is are small fits =
    let own = framed_said heads f told (subst HaveBytes (sym same) have) in
    let payload : content ≡ bytes_of (framed_items f) = is ∙ ap bytes_of (sym same) in
    let says : all_said heads content (pairs fs) ≡ Some (items_of f.entries) = (λ k. all_said heads (payload k) (pairs (are k))) ∙ own in
    subst (λ (z : List Item). (result ≡ Ok (length (frame z))) × Holds (frame z) before after) same
    (written heads f.front (items_of f.entries) f.behind content fs before after result says (subst MayBe (sym same) small) (subst (λ (z : List Item). length (frame z) ≤ length before) (sym same) fits) writes)

pub client_again : (f : ClientFrame) (content : List ℕ) (fs : List Field) (before after : List ℕ) (result : Result ℕ Unwritten) → Writes head.Parts (client_framed f).front (client_framed f).behind content fs before result after
    → WritesAgain f content fs before result after
client_again f content fs before after result writes sent = framed_again head.Parts (client_framed f) (asks.frame_items f) content fs before after result (client_told f) (client_is f) sent.1 writes

pub server_again : (s : ServerFrame) (content : List ℕ) (fs : List Field) (before after : List ℕ) (result : Result ℕ Unwritten) → (answers.IsSent s → Writes head.Results (server_framed s).front (server_framed s).behind content fs before result after)
    → AnswersAgain s content fs before result after
server_again s content fs before after result writes sent = framed_again head.Results (server_framed s) (answers.frame_items s) content fs before after result (server_told s) (server_is s) sent.2 (writes sent)

pub rests_alike : (o : Outcome) → IsOutcome o → done_behind (err_of o) (op_number (op_of_outcome o)) ≡ rest_behind o
rests_alike (outcome.Done b) is = refl
rests_alike (outcome.Failed op e) is = rw (unequal e (pos 0) is) refl
