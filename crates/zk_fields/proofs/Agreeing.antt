-- A walk over a message's payload meets all of its fields.
use Rattle.std.proofs.Common.{◌≡◌, ℤ, ℕ, zero, suc, ◌+◌, ◌-◌, ◌<◌, ◌≤◌, List, [], ◌∷◌, ◌++◌, length, take, drop, refl, sym, ap, subst, ◌∙◌, append_assoc, arith}
use Rattle.std.specs.Prelude.{Option, Some, None, Bool, true, Ok, Err, nat_lt, nat_le, unwrap_or, if◌then◌else◌}
use Rattle.std.specs.List.{flat_map}
use Rattle.std.proofs.lemmas.List.{append-nil, length-append, take_all, drop_at}
use Rattle.std.proofs.lemmas.Bool.Decides.{nat_tests}
use Rattle.zk_jute.specs.Item.{Kind, Long, Boolean, Item, ABoolean, ACount, HaveBytes, bytes_of, item_bytes, int_bytes, kind_of}
use Rattle.zk_jute.specs.{declared.fault.Reason.TheVariants.Short, Layout.One, Layout.End, Layout.Groups}
use Rattle.zk_jute.specs.Reading.{Fault, int_at, size_at, item_at, items_at}
use Rattle.zk_jute.proofs.{Steps.BytesAt-from, Runs.int_again, Runs.size_again, Primitives.bool_again, Primitives.bool_len, Layouts.have_parts, Layouts.bytes_both, Layouts.items_again}
use Rattle.zk_records.specs.{declared.header.MultiHeader.MultiHeader, Records.multi_header}
use Rattle.zk_asks.specs.declared.frame.ClientFrameOf.TheVariants as client
use Rattle.zk_asks.specs.{Held.Part, Held.Ask, Held.ClientFrame, Parts.op_of_part, Parts.part_header, Parts.end_header, Parts.marked, Rows.op_of_ask}
use Rattle.zk_asks.specs.Frames as asks
use Rattle.zk_answers.specs.declared.frame.OutcomeOf.TheVariants as outcome
use Rattle.zk_answers.specs.declared.frame.ServerFrameOf.TheVariants as server
use Rattle.zk_answers.specs.{Held.PartDone, Held.Body, Held.Outcome, Held.ServerFrame, Rows.op_of_body, Results.mark_before}
use Rattle.zk_answers.specs.Frames as answers
use Rattle.zk_fields.specs.{declared.payload_fields.Headed.Headed, declared.payload_fields.Opened.Opened, declared.name.TheConstants.READ_ONLY, Fields.Entry, Fields.Under, Fields.Head, Fields.items_of, Fields.fields_from}
use Rattle.zk_fields.specs.Named.{Shape, Nothing, An, Both, Many, IsOf, Named, items_both}
use Rattle.zk_fields.specs.{Records.connect_request, Records.connect_response, Records.watcher_event, Records.read_only, Rows.body_entries, Rows.body_behind, Rows.Content, Rows.Fields, Rows.Heads, Rows.ask_content, Rows.body_content}
use Rattle.zk_fields.specs.Heads.{OfHead, headed_part, headed_result, headed_shape, record_entries, part_entries, result_entries, done_entries}
use Rattle.zk_fields.specs.Frames.{Framed, flag_entries, rest_entries, rest_behind, framed_items, framed_fields, client_framed, server_framed, client_fields, server_fields}
use Rattle.zk_fields.specs.Walks.{Met, none_met, item_met, met_then, times_met, list_met, walk, header_at, head_met, content_met, opened_content, opened_start, whole_fields, client_opened, server_opened}
use Rattle.zk_fields.proofs.{Rows.Formed, Rows.part_formed, Rows.done_formed, Rows.of_ask, Rows.of_body, Same.client_is, Same.server_is, Same.entry_has, Saying.some_is, Saying.longer, Saying.split}
use Rattle.zk_asks.proofs.Parted.{end_bytes}

abbrev size : List Entry → ℕ
size es = length (bytes_of (items_of es))

abbrev all_met : List Entry → ℕ → Met
all_met es place = record { entries = es; end = Some (place + size es) }

-- where the entries' bytes stand, they are met
abbrev Meets : List ℕ → (ℕ → Met) → List Entry → Type 0
Meets src f es = (more : List ℕ) (place : ℕ) → HaveBytes (items_of es) → place ≤ length src → drop place src ≡ bytes_of (items_of es) ++ more → f place ≡ all_met es place

nothing_meets : (src : List ℕ) → Meets src (λ place. record { entries = []; end = Some place }) []
nothing_meets src more place have le e = ap (λ (n : ℕ). record { entries = []; end = Some n }) (omega arith)

then_meets : (src : List ℕ) (f g : ℕ → Met) (x y : List Entry) → Meets src f x → Meets src g y → Meets src (λ place. met_then (f place) g) (x ++ y)
then_meets src f g x y p q more place have le e =
    let items = items_both x y in
    let h = have_parts (items_of x) (items_of y) (subst HaveBytes items have) in
    let bytes : bytes_of (items_of (x ++ y)) ≡ bytes_of (items_of x) ++ bytes_of (items_of y) = ap bytes_of items ∙ bytes_both (items_of x) (items_of y) in
    let split : drop place src ≡ bytes_of (items_of x) ++ (bytes_of (items_of y) ++ more) = e ∙ ap (λ (b : List ℕ). b ++ more) bytes ∙ append_assoc (bytes_of (items_of x)) (bytes_of (items_of y)) more in
    let s = BytesAt-from (bytes_of (items_of x)) (bytes_of (items_of y) ++ more) src place le split in
    let first : f place ≡ all_met x place = p (bytes_of (items_of y) ++ more) place h.0 le split in
    let second : g (place + size x) ≡ all_met y (place + size x) = q more (place + size x) h.1 s.0.within s.1 in
    rw (first, second) (ap (λ (n : ℕ). record { entries = x ++ y; end = Some n }) (omega (arith, ap length bytes, length-append (bytes_of (items_of x)) (bytes_of (items_of y)))))

item_meets : (src : List ℕ) (name : ℕ) (kind : Kind) (i : Item) → kind_of i ≡ kind → Meets src (λ place. item_met name (items_at (One kind End) src place)) (Under name i ∷ [])
item_meets src name kind i is more place have le e = ap (item_met name) (items_again (One kind End) src (i ∷ []) more place (i, [], is, refl, refl) have le e)

times_meet : (src : List ℕ) (f : ℕ → Met) (P : List Entry → Type 0) → ((es : List Entry) → P es → Meets src f es) → (n : ℕ) (es : List Entry) → Groups P n es → Meets src (times_met f n) es
times_meet src f P each zero es p = subst (Meets src (λ place. record { entries = []; end = Some place })) (sym p) (nothing_meets src)
times_meet src f P each (suc n) es p = subst (Meets src (λ place. met_then (f place) (times_met f n))) (sym p.4) (then_meets src f (times_met f n) p.0 p.1 (each p.0 p.2) (times_meet src f P each n p.1 p.3))

list_meets : (src : List ℕ) (name : ℕ) (f : ℕ → Met) (P : List Entry → Type 0) → ((es : List Entry) → P es → Meets src f es) → (n : Option ℕ) (inside : List Entry) → Groups P (unwrap_or n 0) inside
    → Meets src (λ place. list_met name f (size_at src place)) (Under name (ACount n) ∷ inside)
list_meets src name f P each None inside p more place have le e =
    let read = size_again None src (bytes_of (items_of inside) ++ more) place have.0 (e ∙ append_assoc (item_bytes (ACount None)) (bytes_of (items_of inside)) more) in
    rw (read, p) refl
list_meets src name f P each (Some n) inside p more place have le e =
    let count = item_bytes (ACount (Some n)) in
    let split : drop place src ≡ count ++ (bytes_of (items_of inside) ++ more) = e ∙ append_assoc count (bytes_of (items_of inside)) more in
    let read = size_again (Some n) src (bytes_of (items_of inside) ++ more) place have.0 split in
    let s = BytesAt-from count (bytes_of (items_of inside) ++ more) src place le split in
    let within : place + 4 ≤ length src = s.0.within in
    let others : times_met f n (place + 4) ≡ all_met inside (place + 4) = times_meet src f P each n inside p more (place + 4) have.1 within s.1 in
    rw (read, others) (ap (λ (z : ℕ). record { entries = Under name (ACount (Some n)) ∷ inside; end = Some z }) (omega arith))

walk_meets : (src : List ℕ) (s : Shape) (es : List Entry) → IsOf s es → Meets src (walk s src) es
walk_meets src Nothing es p = subst (Meets src (walk Nothing src)) (sym p) (nothing_meets src)
walk_meets src (An name kind) es p = subst (Meets src (walk (An name kind) src)) (sym p.2) (item_meets src name kind p.0 p.1)
walk_meets src (Both a b) es p = subst (Meets src (walk (Both a b) src)) (sym p.4) (then_meets src (walk a src) (walk b src) p.0 p.1 (walk_meets src a p.0 p.2) (walk_meets src b p.1 p.3))
walk_meets src (Many name s) es p = subst (Meets src (walk (Many name s) src)) (sym p.3) (list_meets src name (walk s src) (IsOf s) (walk_meets src s) p.0 p.1 p.2)

-- ---- at the payload's end nothing is met

int_end : (src : List ℕ) (place : ℕ) → length src ≤ place → (f : Fault) × (int_at src place ≡ Err f)
int_end src place past =
    let test : nat_lt (length src - place) 4 ≡ true = grind (arith, nat_tests) in
    (record { place = place; reason = Short }, rw test refl)

item_end : (src : List ℕ) (place : ℕ) (kind : Kind) → length src ≤ place → (f : Fault) × (item_at kind src place ≡ Err f)
item_end src place Long past =
    let test : nat_lt (length src - place) 8 ≡ true = grind (arith, nat_tests) in
    (record { place = place; reason = Short }, rw test refl)
item_end src place Boolean past =
    let test : nat_lt (length src - place) 1 ≡ true = grind (arith, nat_tests) in
    (record { place = place; reason = Short }, rw test refl)
item_end src place _ past = let n = int_end src place past in (n.0, rw n.1 refl)

items_end : (src : List ℕ) (place : ℕ) (name : ℕ) (kind : Kind) → length src ≤ place → item_met name (items_at (One kind End) src place) ≡ none_met
unfolding items_at
items_end src place name kind past = let n = item_end src place kind past in rw n.1 refl

-- no entries, and a place at the end if any
abbrev Empty : List ℕ → Met → Type 0
Empty src m = (m.entries ≡ []) × ((p : ℕ) → m.end ≡ Some p → length src ≤ p)

behind_end : (src : List ℕ) (m : Met) (f : ℕ → Met) → Empty src m → ((p : ℕ) → length src ≤ p → Empty src (f p)) → (end : Option ℕ) → m.end ≡ end → Empty src (met_then m f)
behind_end src m f e others None is = rw (is, e.0) (refl, λ p none. absurd (cc))
behind_end src m f e others (Some p) is = rw (is, e.0) (others p (e.1 p is))

walk_end : (src : List ℕ) (s : Shape) (place : ℕ) → length src ≤ place → Empty src (walk s src place)
walk_end src Nothing place past = (refl, λ p e. subst (λ (n : ℕ). length src ≤ n) (some_is e) past)
walk_end src (An name kind) place past = rw (items_end src place name kind past) (refl, λ p e. absurd (cc))
walk_end src (Both a b) place past = behind_end src (walk a src place) (walk b src) (walk_end src a place past) (walk_end src b) (walk a src place).end refl
walk_end src (Many name s) place past = let n = int_end src place past in rw n.1 (refl, λ p e. absurd (cc))

heads_end : (src : List ℕ) (f : OfHead) (n place : ℕ) → length src ≤ place → (times_met (head_met f src) n place).entries ≡ []
heads_end src f zero place past = refl
heads_end src f (suc n) place past = let m = int_end src place past in rw m.1 refl

content_end : (src : List ℕ) (c : Content) (place : ℕ) → length src ≤ place → (content_met c src place).entries ≡ []
content_end src (Fields s) place past = (walk_end src s place past).0
content_end src (Heads f) place past = heads_end src f (length src) place past

-- ---- the parts and the results of a multi

header_again : (src more : List ℕ) (h : MultiHeader) (place : ℕ) → HaveBytes (multi_header.items h) → place ≤ length src → drop place src ≡ bytes_of (multi_header.items h) ++ more → header_at src place ≡ Ok (h, place + 9)
header_again src more h place have le e =
    let flag = item_bytes (ABoolean h.done) in
    let err = int_bytes h.err in
    let rest = flag ++ (err ++ more) in
    let split : drop place src ≡ int_bytes h.kind ++ rest = e ∙ append_assoc (int_bytes h.kind) (flag ++ (err ++ [])) more ∙ ap (λ (z : List ℕ). int_bytes h.kind ++ z) (append_assoc flag (err ++ []) more ∙ ap (λ (z : List ℕ). flag ++ z) (append_assoc err [] more)) in
    let a = int_again h.kind src rest place have.0 split in
    let s = BytesAt-from (int_bytes h.kind) rest src place le split in
    let b = bool_again h.done src (err ++ more) (place + 4) s.1 in
    let t = BytesAt-from flag (err ++ more) src (place + 4) s.0.within s.1 in
    let one : length flag ≡ 1 = bool_len h.done in
    let after : drop (place + 4 + 1) src ≡ err ++ more = ap (λ (n : ℕ). drop (place + 4 + n) src) (sym one) ∙ t.1 in
    let d = int_again h.err src more (place + 4 + 1) have.1.1.0 after in
    rw (a, b, d) (ap (λ (n : ℕ). Ok (h, n)) (omega arith))

under_meets : (src : List ℕ) (f : OfHead) (h : MultiHeader) (m : Headed) (es : List Entry) → f h ≡ Some m → IsOf (headed_shape m) es → Meets src (head_met f src) (Head h ∷ es)
under_meets src f h m es is of more place have le e =
    let head = multi_header.items h in
    let parts = have_parts head (items_of es) have in
    let bytes = bytes_both head (items_of es) in
    let split : drop place src ≡ bytes_of head ++ (bytes_of (items_of es) ++ more) = e ∙ ap (λ (b : List ℕ). b ++ more) bytes ∙ append_assoc (bytes_of head) (bytes_of (items_of es)) more in
    let read = header_again src (bytes_of (items_of es) ++ more) h place parts.0 le split in
    let s = BytesAt-from (bytes_of head) (bytes_of (items_of es) ++ more) src place le split in
    let long : length (bytes_of head) ≡ 9 = entry_has (Head h) in
    let within : place + 9 ≤ length src = omega (arith, s.0.within, long) in
    let after : drop (place + 9) src ≡ bytes_of (items_of es) ++ more = ap (λ (n : ℕ). drop (place + n) src) (sym long) ∙ s.1 in
    let others : walk (headed_shape m) src (place + 9) ≡ all_met es (place + 9) = walk_meets src (headed_shape m) es of more (place + 9) parts.1 within after in
    rw (read, is, others) (ap (λ (n : ℕ). record { entries = Head h ∷ es; end = Some n }) (omega (arith, long, longer head (items_of es))))

part_meets : (src : List ℕ) (p : Part) → Meets src (head_met headed_part src) (part_entries p)
part_meets src p = let m = part_formed p in under_meets src headed_part (part_header (op_of_part p)) m.0 (record_entries p) m.1 m.2.of

done_meets : (src : List ℕ) (d : PartDone) → Meets src (head_met headed_result src) (done_entries d)
done_meets src d = let m = done_formed d in under_meets src headed_result (mark_before d) m.0 (result_entries d) m.1 m.2.of

no_part : headed_part end_header ≡ None
unfolding headed_part
no_part = refl

no_result : headed_result end_header ≡ None
unfolding headed_result
no_result = refl

module _ {X : Type 0} (src : List ℕ) (f : OfHead) (g : X → List Entry) (each : (x : X) → Meets src (head_met f src) (g x)) (none : f end_header ≡ None) where
  heads_meet : (xs : List X) (n place : ℕ) → length xs ≤ n → HaveBytes (items_of (flat_map g xs)) → place ≤ length src → drop place src ≡ bytes_of (items_of (flat_map g xs)) ++ bytes_of (marked end_header)
      → (times_met (head_met f src) n place).entries ≡ flat_map g xs
  heads_meet [] zero place few have le e = refl
  heads_meet [] (suc n) place few have le e =
      let read = header_again src [] end_header place end_bytes le (e ∙ sym (append-nil (bytes_of (marked end_header)))) in
      rw (read, none) refl
  heads_meet (x ∷ xs) zero place few have le e = absurd (omega (arith, few))
  heads_meet (x ∷ xs) (suc n) place few have le e =
      let y = flat_map g xs in
      let items = items_both (g x) y in
      let h = have_parts (items_of (g x)) (items_of y) (subst HaveBytes items have) in
      let bytes : bytes_of (items_of (g x ++ y)) ≡ bytes_of (items_of (g x)) ++ bytes_of (items_of y) = ap bytes_of items ∙ bytes_both (items_of (g x)) (items_of y) in
      let rest = bytes_of (items_of y) ++ bytes_of (marked end_header) in
      let split : drop place src ≡ bytes_of (items_of (g x)) ++ rest = e ∙ ap (λ (b : List ℕ). b ++ bytes_of (marked end_header)) bytes ∙ append_assoc (bytes_of (items_of (g x))) (bytes_of (items_of y)) (bytes_of (marked end_header)) in
      let s = BytesAt-from (bytes_of (items_of (g x))) rest src place le split in
      let first : head_met f src place ≡ all_met (g x) place = each x rest place h.0 le split in
      let others = heads_meet xs n (place + size (g x)) (omega (arith, few)) h.1 s.0.within s.1 in
      rw first (ap (λ (z : List Entry). g x ++ z) others)

many : {X : Type 0} (g : X → List Entry) → ((x : X) → 0 < size (g x)) → (xs : List X) → length xs ≤ size (flat_map g xs)
many g each [] = omega arith
many g each (x ∷ xs) = omega (arith, each x, many g each xs, longer (items_of (g x)) (items_of (flat_map g xs)), ap (λ (z : List Item). length (bytes_of z)) (items_both (g x) (flat_map g xs)))

under_long : (h : MultiHeader) (es : List Entry) → 0 < size (Head h ∷ es)
under_long h es = omega (arith, entry_has (Head h), longer (multi_header.items h) (items_of es))

-- ---- of a frame's payload, from its fields' place on

abbrev bytes_in : Framed → List ℕ
bytes_in f = bytes_of (framed_items f)

abbrev start_of : Framed → ℕ
start_of f = length (bytes_of f.front)

abbrev Agrees : Framed → Content → Type 0
Agrees f c = HaveBytes (framed_items f) → (content_met c (bytes_in f) (start_of f)).entries ≡ f.entries

module _ (f : Framed) (have : HaveBytes (framed_items f)) where
  has : HaveBytes (items_of f.entries)
  has = (have_parts (items_of f.entries) f.behind (have_parts f.front (items_of f.entries ++ f.behind) have).1).0

  within : start_of f ≤ length (bytes_in f)
  within = omega (arith, longer f.front (items_of f.entries ++ f.behind))

  stands : drop (start_of f) (bytes_in f) ≡ bytes_of (items_of f.entries) ++ bytes_of f.behind
  stands = ap (drop (start_of f)) (split f.front (items_of f.entries) f.behind) ∙ drop_at (bytes_of f.front) (bytes_of (items_of f.entries) ++ bytes_of f.behind) (start_of f) refl

shaped : (f : Framed) (s : Shape) → IsOf s f.entries → Agrees f (Fields s)
shaped f s of have = ap (λ (m : Met). m.entries) (walk_meets (bytes_in f) s f.entries of (bytes_of f.behind) (start_of f) (has f have) (within f have) (stands f have))

multi : {X : Type 0} (front : List Item) (m : OfHead) (g : X → List Entry) (xs : List X) → ((src : List ℕ) (x : X) → Meets src (head_met m src) (g x)) → m end_header ≡ None → ((x : X) → 0 < size (g x))
    → Agrees (record { front = front; entries = flat_map g xs; behind = marked end_header }) (Heads m)
multi front m g xs each none some have =
    let f : Framed = record { front = front; entries = flat_map g xs; behind = marked end_header } in
    let few : length xs ≤ length (bytes_in f) = omega (arith, many g some xs, longer front (items_of (flat_map g xs) ++ marked end_header), longer (items_of (flat_map g xs)) (marked end_header)) in
    heads_meet (bytes_in f) m g (each (bytes_in f)) none xs (length (bytes_in f)) (start_of f) few (has f have) (within f have) (stands f have)

-- nothing comes after the header
bare : (front : List Item) (c : Content) → Agrees (record { front = front; entries = []; behind = [] }) c
bare front c have =
    let f : Framed = record { front = front; entries = []; behind = [] } in
    content_end (bytes_in f) c (start_of f) (omega (arith, longer front []))

-- a connect message with its flag, or without
flagged : {X : Type 0} (k : Named X) (x : X) (flag : Option Bool) → Agrees (record { front = []; entries = k.entries 0 x ++ flag_entries flag; behind = [] }) (Fields (Both (k.shape 0) (read_only.shape 0)))
flagged k x (Some b) have = shaped (record { front = []; entries = k.entries 0 x ++ read_only.entries 0 b; behind = [] }) (Both (k.shape 0) (read_only.shape 0)) (k.entries 0 x, read_only.entries 0 b, k.formed 0 x, read_only.formed 0 b, refl) have
flagged k x None have =
    let es = k.entries 0 x in
    let same : items_of (es ++ []) ++ [] ≡ items_of es = append-nil (items_of (es ++ [])) ∙ ap items_of (append-nil es) in
    let src = bytes_of (items_of es) in
    let first : walk (k.shape 0) src 0 ≡ all_met es 0 = walk_meets src (k.shape 0) es (k.formed 0 x) [] 0 (subst HaveBytes same have) (omega arith) (sym (append-nil src)) in
    let second : item_met READ_ONLY (items_at (One Boolean End) src (0 + size es)) ≡ none_met = items_end src (0 + size es) READ_ONLY Boolean (omega arith) in
    let alone : (met_then (walk (k.shape 0) src 0) (walk (read_only.shape 0) src)).entries ≡ es ++ [] = rw (first, second) refl in
    subst (λ (z : List Item). (content_met (Fields (Both (k.shape 0) (read_only.shape 0))) (bytes_of z) 0).entries ≡ es ++ []) (sym same) alone

-- what is read behind a header is the entries
abbrev AgreesBehind : List Item → Content → List Entry → List Item → List Item → Type 0
AgreesBehind front c es behind items = Agrees (record { front = front; entries = es; behind = behind }) c

formed : (front : List Item) (s : Shape) (es : List Entry) (items : List Item) → Formed s es items → AgreesBehind front (Fields s) es [] items
formed front s es items f = shaped (record { front = front; entries = es; behind = [] }) s f.of

ask_agrees : (xid : ℤ) (a : Ask) → Agrees (client_framed (client.Ask xid a)) (ask_content (op_of_ask a))
ask_agrees xid a =
    let front = (client_framed (client.Ask xid a)).front in
    of_ask (AgreesBehind front) (formed front) (λ ps. multi front headed_part part_entries ps part_meets no_part (λ p. under_long (part_header (op_of_part p)) (record_entries p))) a

client_agrees : (f : ClientFrame) → Agrees (client_framed f) (opened_content (client_opened f))
client_agrees (client.Connect hello flag) = flagged connect_request hello flag
client_agrees (client.Ask xid a) = ask_agrees xid a

body_agrees : (front : List Item) (b : Body) → Agrees (record { front = front; entries = body_entries b; behind = body_behind b }) (body_content (op_of_body b))
body_agrees front = of_body (AgreesBehind front) (formed front) (λ ds. multi front headed_result done_entries ds done_meets no_result (λ d. under_long (mark_before d) (result_entries d)))

rest_agrees : (front : List Item) (o : Outcome) → Agrees (record { front = front; entries = rest_entries o; behind = rest_behind o }) (body_content (answers.op_of_outcome o))
rest_agrees front (outcome.Done b) = body_agrees front b
rest_agrees front (outcome.Failed op e) = bare front (body_content op)

server_agrees : (s : ServerFrame) → Agrees (server_framed s) (opened_content (server_opened s))
server_agrees (server.Connected hello flag) = flagged connect_response hello flag
server_agrees (server.Answered r) = rest_agrees (server_framed (server.Answered r)).front r.outcome
server_agrees (server.Event zxid event) = shaped (server_framed (server.Event zxid event)) (watcher_event.shape 0) (watcher_event.formed 0 event)

-- ---- so the fields are those

opened : (o : Opened) (f : Framed) (items : List Item) → framed_items f ≡ items → HaveBytes items → opened_start o ≡ start_of f → Agrees f (opened_content o) → whole_fields o (bytes_of items) ≡ framed_fields f
opened o f items same have start agrees =
    let src = bytes_in f in
    let all : take (length src) src ≡ src = take_all (length src) src (omega arith) in
    let have_all = subst HaveBytes (sym same) have in
    let test : nat_le (opened_start o) (length src) ≡ true = let w = within f have_all in grind (arith, nat_tests) in
    let met : (content_met (opened_content o) src (opened_start o)).entries ≡ f.entries = ap (λ (n : ℕ). (content_met (opened_content o) src n).entries) start ∙ agrees have_all in
    let whole : whole_fields o src ≡ framed_fields f =
    ap (λ (z : List ℕ). if nat_le (opened_start o) (length z) then fields_from (opened_start o) (content_met (opened_content o) z (opened_start o)).entries else []) all ∙ rw test (λ k. fields_from (start k) (met k)) in
    subst (λ (z : List Item). whole_fields o (bytes_of z) ≡ framed_fields f) same whole

client_start : (f : ClientFrame) → opened_start (client_opened f) ≡ start_of (client_framed f)
client_start (client.Connect hello flag) = refl
client_start _ = refl

server_start : (s : ServerFrame) → opened_start (server_opened s) ≡ start_of (server_framed s)
server_start (server.Connected hello flag) = refl
server_start _ = refl

pub client_whole : (f : ClientFrame) → asks.IsSent f → whole_fields (client_opened f) (asks.payload f) ≡ client_fields f
client_whole f sent = opened (client_opened f) (client_framed f) (asks.frame_items f) (client_is f) sent.1 (client_start f) (client_agrees f)

pub server_whole : (s : ServerFrame) → answers.IsSent s → whole_fields (server_opened s) (answers.payload s) ≡ server_fields s
server_whole s sent = opened (server_opened s) (server_framed s) (answers.frame_items s) (server_is s) sent.2 (server_start s) (server_agrees s)
