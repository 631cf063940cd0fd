-- The fields of a message are its items, in order.
use Rattle.std.proofs.Common.{◌≡◌, ℕ, ◌+◌, List, [], ◌∷◌, ◌++◌, length, refl, ap, ◌∙◌, arith}
use Rattle.std.specs.Prelude.{Option, Some, None, Bool, true, false, pos, negsuc}
use Rattle.std.proofs.lemmas.List.{append-nil, length-append}
use Rattle.std.specs.List.{flat_map}
use Rattle.zk_jute.specs.Item.{Item, AnInt, ALong, ABoolean, AUstring, ABuffer, ACount, item_bytes, bytes_of, run_bytes, int_bytes}
use Rattle.zk_jute.specs.Flagged.{flag_items}
use Rattle.zk_jute.proofs.{Numbers.len32, Numbers.len64, Layouts.bytes_both}
use Rattle.zk_records.specs.Records.{multi_header}
use Rattle.zk_asks.specs.{Held.Part, Held.Ask, Held.ClientFrame, Parts.part_items, Parts.op_of_part, Parts.part_header, Parts.marked, Parts.end_header, Rows.body_items}
use Rattle.zk_asks.specs.declared.frame.ClientFrameOf.TheVariants as client
use Rattle.zk_asks.specs.Frames as asks
use Rattle.zk_answers.specs.{Held.PartDone, Held.Body, Held.Outcome, Held.ServerFrame, Results.done_items, Results.mark_before}
use Rattle.zk_answers.specs.declared.frame.PartDoneOf.TheVariants as done
use Rattle.zk_answers.specs.declared.frame.OutcomeOf.TheVariants as outcome
use Rattle.zk_answers.specs.declared.frame.ServerFrameOf.TheVariants as server
use Rattle.zk_answers.specs.Rows as answered
use Rattle.zk_answers.specs.Frames as answers
use Rattle.zk_fields.specs.Fields.{Entry, Under, Head, entry_items, items_of, size_of, size_all, item_size, run_size}
use Rattle.zk_fields.specs.{Named.Named, Records.connect_request, Records.connect_response, Records.watcher_event, Heads.part_entries, Heads.done_entries, Rows.ask_entries, Rows.ask_behind, Rows.body_entries, Rows.body_behind}
use Rattle.zk_fields.proofs.Rows.{both_is, part_formed, done_formed, of_ask, of_body}
use Rattle.zk_fields.specs.Frames.{flag_entries, rest_entries, rest_behind, framed_items, client_framed, server_framed}

-- nothing stands behind them
alone : (x : List Entry) (a : List Item) → items_of x ≡ a → items_of x ++ [] ≡ a
alone x a p = append-nil (items_of x) ∙ p

each_is : {X : Type 0} (f : X → List Entry) (g : X → List Item) → ((x : X) → items_of (f x) ≡ g x) → (xs : List X) → items_of (flat_map f xs) ≡ flat_map g xs
each_is f g is [] = refl
each_is f g is (x ∷ xs) = both_is (f x) (flat_map f xs) (g x) (flat_map g xs) (is x) (each_is f g is xs)

-- ---- requests

part_is : (p : Part) → items_of (part_entries p) ≡ part_items p
part_is p = ap (λ (z : List Item). marked (part_header (op_of_part p)) ++ z) (part_formed p).2.is

ask_is : (a : Ask) → items_of (ask_entries a) ++ ask_behind a ≡ body_items a
ask_is =
    of_ask (λ c es behind items. items_of es ++ behind ≡ items) (λ s es items f. alone es items f.is)
    (λ ps. ap (λ (items : List Item). items ++ marked end_header) (each_is part_entries part_items part_is ps))

flag_is : (flag : Option Bool) → items_of (flag_entries flag) ≡ flag_items flag
flag_is None = refl
flag_is (Some b) = refl

flagged : {X : Type 0} (k : Named X) (x : X) (flag : Option Bool) → items_of (k.entries 0 x ++ flag_entries flag) ++ [] ≡ k.items x ++ flag_items flag
flagged k x flag = alone (k.entries 0 x ++ flag_entries flag) (k.items x ++ flag_items flag) (both_is (k.entries 0 x) (flag_entries flag) (k.items x) (flag_items flag) (k.is 0 x) (flag_is flag))

pub client_is : (f : ClientFrame) → framed_items (client_framed f) ≡ asks.frame_items f
client_is (client.Connect hello flag) = flagged connect_request hello flag
client_is (client.Ask xid a) = ap (λ (items : List Item). (client_framed (client.Ask xid a)).front ++ items) (ask_is a)

-- ---- replies

done_is : (d : PartDone) → items_of (done_entries d) ≡ done_items d
done_is (done.Created p) = ap (λ (z : List Item). marked (mark_before (done.Created p)) ++ z) (done_formed (done.Created p)).2.is
done_is (done.DataSet s) = ap (λ (z : List Item). marked (mark_before (done.DataSet s)) ++ z) (done_formed (done.DataSet s)).2.is
done_is _ = refl

answer_is : (b : Body) → items_of (body_entries b) ++ body_behind b ≡ answered.body_items b
answer_is =
    of_body (λ c es behind items. items_of es ++ behind ≡ items) (λ s es items f. alone es items f.is)
    (λ ds. ap (λ (items : List Item). items ++ marked end_header) (each_is done_entries done_items done_is ds))

rest_is : (o : Outcome) → items_of (rest_entries o) ++ rest_behind o ≡ answers.rest_items o
rest_is (outcome.Done b) = answer_is b
rest_is (outcome.Failed op e) = refl

pub server_is : (s : ServerFrame) → framed_items (server_framed s) ≡ answers.frame_items s
server_is (server.Connected hello flag) = flagged connect_response hello flag
server_is (server.Answered r) = ap (λ (items : List Item). (server_framed (server.Answered r)).front ++ items) (rest_is r.outcome)
server_is (server.Event zxid e) = ap (λ (items : List Item). (server_framed (server.Event zxid e)).front ++ items) (alone (watcher_event.entries 0 e) (watcher_event.items e) (watcher_event.is 0 e))

-- ---- their bytes

run_has : (o : Option (List ℕ)) → length (run_bytes o) ≡ run_size o
run_has None = len32 (negsuc 0)
run_has (Some bytes) = omega (arith, length-append (int_bytes (pos (length bytes))) bytes, len32 (pos (length bytes)))

item_has : (i : Item) → length (item_bytes i) ≡ item_size i
item_has (AnInt n) = len32 n
item_has (ALong n) = len64 n
item_has (ABoolean true) = refl
item_has (ABoolean false) = refl
item_has (AUstring t) = run_has t
item_has (ABuffer b) = run_has b
item_has (ACount None) = len32 (negsuc 0)
item_has (ACount (Some n)) = len32 (pos n)

abbrev pub size_items : List Item → ℕ
size_items [] = 0
size_items (i ∷ items) = item_size i + size_items items

pub items_have : (items : List Item) → length (bytes_of items) ≡ size_items items
items_have [] = refl
items_have (i ∷ items) = omega (arith, length-append (item_bytes i) (bytes_of items), item_has i, items_have items)

pub entry_has : (e : Entry) → length (bytes_of (entry_items e)) ≡ size_of e
entry_has (Under name i) = items_have (i ∷ []) ∙ omega arith
entry_has (Head h) = items_have (multi_header.items h) ∙ refl

pub size_is : (es : List Entry) → length (bytes_of (items_of es)) ≡ size_all es
size_is [] = refl
size_is (e ∷ es) = omega (arith, ap length (bytes_both (entry_items e) (items_of es)), length-append (bytes_of (entry_items e)) (bytes_of (items_of es)), entry_has e, size_is es)
