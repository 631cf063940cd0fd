-- A payload that is known to be a reply or an event: what stands behind its header, and that it is no other frame.
use Rattle.std.proofs.Common.{◌≡◌, ℕ, ◌+◌, ◌≤◌, List, [], ◌++◌, length, drop, refl, sym, ap, subst, ◌∙◌, arith}
use Rattle.std.specs.Prelude.{◌≢◌, ℤ, pos}
use Rattle.std.proofs.lemmas.List.{append-nil, length-append}
use Rattle.zk_jute.specs.{Item.Item, Item.bytes_of, Item.HaveBytes, Layout.IsValueOf, Told.StandsAt, Standing.OneStands}
use Rattle.zk_jute.proofs.{Layouts.bytes_only, Layouts.bytes_both, Layouts.have_parts, Known.stands_first, Known.stands_last}
use Rattle.zk_records.specs.{declared.header.ReplyHeader.ReplyHeader, Held.WatcherEvent, declared.op.Op.Op, Records.reply_header, Records.watcher_event}
use Rattle.zk_answers.specs.{Held.Body, Held.Outcome, Held.Reply, Held.ServerFrame, Faults.IsHead, Rows.Content, Rows.row_of, Rows.remake, Rows.items_in, Rows.op_of_body, Rows.body_items, Known.ABodyStands}
use Rattle.zk_answers.specs.declared.frame.OutcomeOf.TheVariants as outcome
use Rattle.zk_answers.specs.declared.frame.ServerFrameOf.TheVariants as frame
use Rattle.zk_answers.specs.Frames.{err_of, header_of, event_header, rest_items, IsEvent, IsOutcome, IsSent, IsBorne, IsReplyOf, op_of_outcome, payload}
use Rattle.zk_asks.proofs.Knowing.{IsThe}
use Rattle.zk_answers.proofs.{Bodies.IsMade, Bodies.is_made, Heads.head_unique, Heads.stands_head, Replies.reply_same, Refusals.head_of}

-- ---- the body behind a header

-- the reply with this header's xid and zxid
abbrev pub reply_under : ReplyHeader → Outcome → ServerFrame
reply_under h o = frame.Answered (record { xid = h.xid; zxid = h.zxid; outcome = o })

failed_is : (op : Op) (o : Outcome) → op_of_outcome o ≡ op → (e : ℤ) → e ≢ pos 0 → e ≡ err_of o → outcome.Failed op e ≡ o
failed_is op (outcome.Done b) fits e n is = absurd (n is)
failed_is op (outcome.Failed o m) fits e n is = ap (λ (z : ℤ). outcome.Failed op z) is ∙ ap (λ (z : Op). outcome.Failed z m) (sym fits)

done_is : (op : Op) (o : Outcome) → op_of_outcome o ≡ op → IsOutcome o → pos 0 ≡ err_of o → (b : Body) × (op_of_body b ≡ op) × (outcome.Done b ≡ o)
done_is op (outcome.Done b) fits is none = (b, fits, refl)
done_is op (outcome.Failed o e) fits is none = absurd (is (sym none))

module _ (src : List ℕ) (op : Op) (r : Reply) (fits : IsReplyOf op (frame.Answered r)) (sent : IsBorne (frame.Answered r)) (is : src ≡ payload (frame.Answered r)) where
  head_there : IsHead src (header_of r) (bytes_of (rest_items r.outcome))
  head_there = let k = stands_head (header_of r) (rest_items r.outcome) sent.1 in (k.0, is ∙ k.1)

  pub header_there : OneStands reply_header.items src 0
  header_there = stands_first reply_header.items (header_of r) src (bytes_of (rest_items r.outcome)) head_there.0 head_there.1

  module _ (h : ReplyHeader) (after : ℕ) (v : IsValueOf reply_header.layout (reply_header.items h)) (s : StandsAt (reply_header.items h) src 0 after) where
    same : (h ≡ header_of r) × (drop after src ≡ bytes_of (rest_items r.outcome))
    same = head_unique src h (header_of r) (drop after src) (bytes_of (rest_items r.outcome)) (head_of src h after v s) head_there

    err_is : h.err ≡ err_of r.outcome
    err_is = ap (λ (z : ReplyHeader). z.err) same.0

    made_of : (o : Outcome) → o ≡ r.outcome → reply_under h o ≡ frame.Answered r
    made_of o q = ap frame.Answered (reply_same (record { xid = h.xid; zxid = h.zxid; outcome = o }) r (ap (λ (z : ReplyHeader). z.xid) same.0) (ap (λ (z : ReplyHeader). z.zxid) same.0) q)

    pub made_failed : (e : ℤ) → e ≢ pos 0 → e ≡ h.err → reply_under h (outcome.Failed op e) ≡ frame.Answered r
    made_failed e n q = made_of (outcome.Failed op e) (failed_is op r.outcome fits e n (q ∙ err_is))

    module _ (none : h.err ≡ pos 0) where
      done : (b : Body) × (op_of_body b ≡ op) × (outcome.Done b ≡ r.outcome)
      done = done_is op r.outcome fits sent.0 (sym none ∙ err_is)

      pub body_there : ABodyStands op src after
      body_there =
          let items = body_items done.0 in
          let rest = ap rest_items done.2 in
          let have = subst HaveBytes (sym rest) (have_parts (reply_header.items (header_of r)) (rest_items r.outcome) sent.1).1 in
          let bytes : drop after src ≡ bytes_of items = same.1 ∙ ap bytes_of (sym rest) in
          let le : after ≤ length src = omega (arith, s.1, ap length s.0, length-append (bytes_of (reply_header.items h)) (drop after src)) in
          (done.0, after + length (bytes_of items), done.1, have, stands_last items src after le bytes)

      pub made_done : (b : Body) → ((c : Body) (end : ℕ) → op_of_body c ≡ op → HaveBytes (body_items c) → StandsAt (body_items c) src after end → b ≡ c)
          → reply_under h (outcome.Done b) ≡ frame.Answered r
      unfolding body_there done
      made_done b only =
          let s = body_there in
          made_of (outcome.Done b) (ap outcome.Done (only s.0 s.1 s.2 s.3 s.4) ∙ done.2)

-- ---- the same, of whatever frame the payload is known to be

abbrev AReply : List ℕ → Op → ServerFrame → Type 0
AReply src op t = IsReplyOf op t × IsBorne t × (src ≡ payload t)

abbrev HeaderStands : List ℕ → ReplyHeader → ℕ → Type 0
HeaderStands src h after = IsValueOf reply_header.layout (reply_header.items h) × StandsAt (reply_header.items h) src 0 after

pub header_stands : (src : List ℕ) (op : Op) (t : ServerFrame) → AReply src op t → OneStands reply_header.items src 0
header_stands src op (frame.Answered r) k = header_there src op r k.0 k.1 k.2
header_stands src op (frame.Connected hello flag) k = absurd k.0
header_stands src op (frame.Event zxid event) k = absurd k.0

module _ (src : List ℕ) (h : ReplyHeader) (after : ℕ) (f : HeaderStands src h after) (op : Op) where
  pub stands_behind : (t : ServerFrame) → AReply src op t → h.err ≡ pos 0 → ABodyStands op src after
  stands_behind (frame.Answered r) k none = body_there src op r k.0 k.1 k.2 h after f.0 f.1 none
  stands_behind (frame.Connected hello flag) k none = absurd k.0
  stands_behind (frame.Event zxid event) k none = absurd k.0

  pub is_failed : (e : ℤ) → e ≢ pos 0 → e ≡ h.err → (t : ServerFrame) → AReply src op t → reply_under h (outcome.Failed op e) ≡ t
  is_failed e n q (frame.Answered r) k = made_failed src op r k.0 k.1 k.2 h after f.0 f.1 e n q
  is_failed e n q (frame.Connected hello flag) k = absurd k.0
  is_failed e n q (frame.Event zxid event) k = absurd k.0

  pub is_done : h.err ≡ pos 0 → (b : Body) → ((c : Body) (end : ℕ) → op_of_body c ≡ op → HaveBytes (body_items c) → StandsAt (body_items c) src after end → b ≡ c)
      → (t : ServerFrame) → AReply src op t → reply_under h (outcome.Done b) ≡ t
  is_done none b only (frame.Answered r) k = made_done src op r k.0 k.1 k.2 h after f.0 f.1 none b only
  is_done none b only (frame.Connected hello flag) k = absurd k.0
  is_done none b only (frame.Event zxid event) k = absurd k.0

-- ---- a body that is known to stand there

pub content_there : (o : Op) (src : List ℕ) (place : ℕ) {op : Op} → op ≡ o → ABodyStands op src place → OneStands (items_in (row_of o)) src place
unfolding IsMade
content_there o src place is b =
    let m : IsMade o b.0 = subst (λ (q : Op). IsMade q b.0) (b.2 ∙ is) (is_made b.0) in
    (m.0, b.1, subst HaveBytes (sym m.2) b.3, subst (λ (i : List Item). StandsAt i src place b.1) (sym m.2) b.4)

-- what an operation's own content makes
module _ (op : Op) (src : List ℕ) (place : ℕ) (x : Content (row_of op) × ℕ) where
  pub content_is : IsThe (items_in (row_of op)) src place x → (b : Body) (end : ℕ) → op_of_body b ≡ op → HaveBytes (body_items b) → StandsAt (body_items b) src place end → remake (row_of op) x.0 ≡ b
  unfolding IsMade
  content_is only b end of have stands =
      let m : IsMade op b = subst (λ (o : Op). IsMade o b) of (is_made b) in
      ap (λ (z : Content (row_of op) × ℕ). remake (row_of op) z.0) (only m.0 end (subst HaveBytes (sym m.2) have) (subst (λ (i : List Item). StandsAt i src place end) (sym m.2) stands)) ∙ m.1

-- ---- an event

module _ (src : List ℕ) (zxid : ℤ) (event : WatcherEvent) (sent : IsSent (frame.Event zxid event)) (is : src ≡ payload (frame.Event zxid event)) where
  abbrev front : List Item
  front = reply_header.items (event_header zxid)

  abbrev fields : List Item
  fields = watcher_event.items event

  both : HaveBytes front × HaveBytes fields
  both = have_parts front fields sent.2

  split : src ≡ bytes_of front ++ bytes_of fields
  split = is ∙ bytes_both front fields

  event_header_there : OneStands reply_header.items src 0
  event_header_there = stands_first reply_header.items (event_header zxid) src (bytes_of fields) both.0 split

  module _ (h : ReplyHeader) (after : ℕ) (f : HeaderStands src h after) where
    header_is : (front ≡ reply_header.items h) × (bytes_of fields ≡ drop after src)
    header_is = bytes_only reply_header.layout front (reply_header.items h) (bytes_of fields) (drop after src) (reply_header.unfolds (event_header zxid), both.0) f.0 (sym split ∙ f.1.0)

    event_there : OneStands watcher_event.items src after
    event_there =
        let le : after ≤ length src = omega (arith, f.1.1, ap length f.1.0, length-append (bytes_of (reply_header.items h)) (drop after src)) in
        (event, after + length (bytes_of fields), both.1, stands_last fields src after le (sym header_is.1))

    event_is : (e : WatcherEvent) (end : ℕ) → IsValueOf watcher_event.layout (watcher_event.items e) → StandsAt (watcher_event.items e) src after end → ◌≡◌ {A = ServerFrame} (frame.Event h.zxid e) (frame.Event zxid event)
    event_is e end v s =
        let same = bytes_only watcher_event.layout (watcher_event.items e) fields (drop end src) [] v (watcher_event.unfolds event, both.1) (sym s.0 ∙ sym header_is.1 ∙ sym (append-nil (bytes_of fields))) in
        let head : event_header zxid ≡ h = reply_header.tells_apart (event_header zxid) h header_is.0 in
        ap {B = ServerFrame} (λ (z : ReplyHeader). frame.Event z.zxid e) (sym head) ∙ ap {B = ServerFrame} (λ (v : WatcherEvent). frame.Event zxid v) (watcher_event.tells_apart e event same.0)

abbrev AnEvent : List ℕ → ServerFrame → Type 0
AnEvent src t = IsEvent t × IsSent t × (src ≡ payload t)

pub event_header_stands : (src : List ℕ) (t : ServerFrame) → AnEvent src t → OneStands reply_header.items src 0
event_header_stands src (frame.Event zxid event) k = event_header_there src zxid event k.1 k.2
event_header_stands src (frame.Answered r) k = absurd k.0
event_header_stands src (frame.Connected hello flag) k = absurd k.0

module _ (src : List ℕ) (h : ReplyHeader) (after : ℕ) (f : HeaderStands src h after) where
  pub event_stands : (t : ServerFrame) → AnEvent src t → OneStands watcher_event.items src after
  event_stands (frame.Event zxid event) k = event_there src zxid event k.1 k.2 h after f
  event_stands (frame.Answered r) k = absurd k.0
  event_stands (frame.Connected hello flag) k = absurd k.0

  pub event_is_it : (e : WatcherEvent) (end : ℕ) → IsValueOf watcher_event.layout (watcher_event.items e) → StandsAt (watcher_event.items e) src after end → (t : ServerFrame) → AnEvent src t → ◌≡◌ {A = ServerFrame} (frame.Event h.zxid e) t
  event_is_it e end v s (frame.Event zxid event) k = event_is src zxid event k.1 k.2 h after f e end v s
  event_is_it e end v s (frame.Answered r) k = absurd k.0
  event_is_it e end v s (frame.Connected hello flag) k = absurd k.0
