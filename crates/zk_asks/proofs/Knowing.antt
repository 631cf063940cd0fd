-- A payload that is known to be a request: its header stands in front, and its body behind that.
use Rattle.std.proofs.Common.{◌≡◌, ℕ, ◌+◌, ◌≤◌, List, ◌++◌, length, drop, Option, Some, Result, Ok, sym, ap, subst, ◌∙◌, arith}
use Rattle.std.proofs.lemmas.List.{length-append, length-drop}
use Rattle.std.specs.Prelude.{ℤ, IfOk, MatchOption}
use Rattle.zk_jute.specs.{Item.bytes_of, Item.Item, Item.HaveBytes, Layout.IsValueOf, Told.StandsAt, Wired.Wired, Standing.OneStands}
use Rattle.zk_jute.proofs.{Layouts.bytes_only, Layouts.bytes_both, Layouts.have_parts, Known.stands_first, Known.stands_last}
use Rattle.zk_records.specs.{Records.request_header, declared.op.Op.Op, declared.header.RequestHeader.RequestHeader, Codes.op_number}
use Rattle.zk_records.proofs.Numbers.{op_number_apart}
use Rattle.zk_asks.specs.{Held.Ask, Held.ClientFrame, Forms.header_items, Rows.row_of, Rows.items_in, Rows.op_of_ask, Rows.body_items, Frames.frame_items, Frames.IsLater, Frames.payload}
use Rattle.zk_asks.specs.declared.frame.ClientFrameOf.TheVariants as frame
use Rattle.zk_asks.proofs.{Made.IsMade, Made.is_made, Later.header_is, Later.header_same}

-- the value at the place, whichever it is, and the place after it
abbrev pub IsThe : {X : Type 0} → (X → List Item) → List ℕ → ℕ → X × ℕ → Type 0
IsThe {X} items src place x = (v : X) (end : ℕ) → HaveBytes (items v) → StandsAt (items v) src place end → x ≡ (v, end)

-- it is one that stands there
pub found_there : {X : Type 0} (w : Wired X) (src : List ℕ) (place : ℕ) (x : X × ℕ) → IsThe w.items src place x → OneStands w.items src place → IsValueOf w.layout (w.items x.0) × StandsAt (w.items x.0) src place x.1
found_there {X} w src place x is o =
    subst (λ (z : X × ℕ). IsValueOf w.layout (w.items z.0) × StandsAt (w.items z.0) src place z.1) (sym (is o.0 o.1 o.2 o.3)) ((w.unfolds o.0, o.2), o.3)

pub ends_within : (items : List Item) (src : List ℕ) (place end : ℕ) → place ≤ length src → StandsAt items src place end → end ≤ length src
ends_within items src place end le s = omega (arith, s.1, le, ap length s.0, length-append (bytes_of items) (drop end src), length-drop place src)

pub made_stands : (op : Op) (a : Ask) (src : List ℕ) (place end : ℕ) → IsMade op a → HaveBytes (body_items a) → StandsAt (body_items a) src place end → OneStands (items_in (row_of op)) src place
unfolding IsMade
made_stands op a src place end m have stands = (m.0, end, subst HaveBytes (sym m.2) have, subst (λ (i : List Item). StandsAt i src place end) (sym m.2) stands)

module _ (xid : ℤ) (a : Ask) (src : List ℕ) (sent : HaveBytes (frame_items (frame.Ask xid a))) (is : src ≡ payload (frame.Ask xid a)) where
  abbrev head : List Item
  head = header_items xid (op_number (op_of_ask a))

  have : HaveBytes head × HaveBytes (body_items a)
  have = have_parts head (body_items a) sent

  split : src ≡ bytes_of head ++ bytes_of (body_items a)
  split = is ∙ bytes_both head (body_items a)

  pub header_stands : OneStands request_header.items src 0
  header_stands = stands_first request_header.items (record { xid = xid; kind = op_number (op_of_ask a) }) src (bytes_of (body_items a)) have.0 split

  pub behind_header : (h : RequestHeader) (place : ℕ) → IsValueOf request_header.layout (request_header.items h) → StandsAt (request_header.items h) src 0 place
      → (h.xid ≡ xid) × (h.kind ≡ op_number (op_of_ask a)) × (drop place src ≡ bytes_of (body_items a))
  behind_header h place v s =
      let same = bytes_only request_header.layout (request_header.items h) head (drop place src) (bytes_of (body_items a)) v (header_is xid (op_number (op_of_ask a)) have.0) (sym s.0 ∙ split) in
      let both = header_same h.xid h.kind xid (op_number (op_of_ask a)) same.0 in
      (both.0, both.1, same.1)

  module _ (place : ℕ) (rest : drop place src ≡ bytes_of (body_items a)) where
    pub body_stands : place ≤ length src → OneStands (items_in (row_of (op_of_ask a))) src place
    body_stands le = made_stands (op_of_ask a) a src place (place + length (bytes_of (body_items a))) (is_made a) have.1 (stands_last (body_items a) src place le rest)

    pub body_is_it : place ≤ length src → (b : Ask) → ((end : ℕ) → HaveBytes (body_items a) → StandsAt (body_items a) src place end → b ≡ a) → b ≡ a
    body_is_it le b only = only (place + length (bytes_of (body_items a))) have.1 (stands_last (body_items a) src place le rest)

-- ---- the same, of whatever frame the payload is known to be

abbrev pub AnAsk : List ℕ → ClientFrame → Type 0
AnAsk src f = IsLater f × HaveBytes (frame_items f) × (src ≡ payload f)

pub ask_header : (src : List ℕ) (f : ClientFrame) → AnAsk src f → OneStands request_header.items src 0
ask_header src (frame.Ask xid a) k = header_stands xid a src k.1 k.2
ask_header src (frame.Connect hello flag) k = absurd k.0

pub ask_front : (src : List ℕ) (x : RequestHeader × ℕ) → IsThe request_header.items src 0 x → (f : ClientFrame) → AnAsk src f
    → IsValueOf request_header.layout (request_header.items x.0) × StandsAt (request_header.items x.0) src 0 x.1 × (x.1 ≤ length src)
ask_front src x is f k = let found = found_there request_header src 0 x is (ask_header src f k) in (found.0, found.1, ends_within (request_header.items x.0) src 0 x.1 (omega arith) found.1)

module _ (src : List ℕ) (h : RequestHeader) (place : ℕ) (v : IsValueOf request_header.layout (request_header.items h)) (s : StandsAt (request_header.items h) src 0 place) where
  pub ask_op : (f : ClientFrame) → AnAsk src f → (op : Op) × (h.kind ≡ op_number op)
  ask_op (frame.Ask xid a) k = (op_of_ask a, (behind_header xid a src k.1 k.2 h place v s).1)
  ask_op (frame.Connect hello flag) k = absurd k.0

  module _ (op : Op) (is : h.kind ≡ op_number op) where
    pub ask_body : (f : ClientFrame) → AnAsk src f → place ≤ length src → OneStands (items_in (row_of op)) src place
    ask_body (frame.Ask xid a) k le =
        let b = behind_header xid a src k.1 k.2 h place v s in
        let same : op_of_ask a ≡ op = op_number_apart (op_of_ask a) op (sym b.1 ∙ is) in
        subst (λ (o : Op). OneStands (items_in (row_of o)) src place) same (body_stands xid a src k.1 k.2 place b.2 le)
    ask_body (frame.Connect hello flag) k le = absurd k.0

    pub ask_is : place ≤ length src → (f : ClientFrame) → AnAsk src f → (b : Ask) → ((a : Ask) (end : ℕ) → op_of_ask a ≡ op → HaveBytes (body_items a) → StandsAt (body_items a) src place end → b ≡ a) → frame.Ask h.xid b ≡ f
    ask_is le (frame.Ask xid a) k b only =
        let d = behind_header xid a src k.1 k.2 h place v s in
        let same : op_of_ask a ≡ op = op_number_apart (op_of_ask a) op (sym d.1 ∙ is) in
        ap (λ (z : ℤ). frame.Ask z b) d.0 ∙ ap (frame.Ask xid) (body_is_it xid a src k.1 k.2 place d.2 le b (λ end. only a end same))
    ask_is le (frame.Connect hello flag) k b only = absurd k.0

-- what holds of any value that is answered holds of this one
pub of_answer : {X E : Type 0} (P : X → Type 0) (answer : Result X E) (x : X) → answer ≡ Ok x → IfOk answer P → P x
of_answer {X} {E} P answer x e h = subst (λ (r : Result X E). IfOk r P) e h

pub of_some : {X : Type 0} (N : Type 0) (P : X → Type 0) (answer : Option X) (x : X) → answer ≡ Some x → MatchOption answer N P → P x
of_some {X} N P answer x e h = subst (λ (o : Option X). MatchOption o N P) e h
