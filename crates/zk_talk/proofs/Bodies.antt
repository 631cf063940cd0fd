-- The body behind a payload's header: of a request, of an event, of a reply.
use Rattle.std.proofs.Common.{◌≡◌, ℕ, List, [], ◌∷◌, length, take, drop, ◌-◌, Some, None, Ok, refl, sym, ap, subst, ◌∙◌, arith}
use Rattle.std.specs.Prelude.{ℤ, pos, ◌≢◌, slice_get, filter}
use Rattle.std.proofs.lemmas.List.{length-drop, drop_at, take_rest}
use Rattle.zk_jute.specs.{Item.Int, Item.AnInt, Item.bytes_of, Item.HaveBytes, Layout.Layout, Layout.End, Layout.One, Faults.Opens, Reading.Tells, declared.fault.Reason.Reason}
use Rattle.zk_jute.specs.Reading as reading
use Rattle.zk_jute.proofs.{Steps.IsBytes, Fields.int_gives, Chains.then_read_one, Theorems.found}
use Rattle.zk_records.specs.{declared.header.RequestHeader.RequestHeader, declared.op.Op.Op, Records.request_header, Records.reply_header, Codes.op_number, declared.header.ReplyHeader.ReplyHeader}
use Rattle.zk_answers.specs.{declared.layout.Layout.Layout as Kind, Faults.IsHead, Faults.IsHeadFault}
use Rattle.zk_answers.specs.declared.layout.Layout.TheVariants as layouts
use Rattle.zk_records.specs.declared.op.Op.TheVariants as ops
use Rattle.zk_asks.specs.{Codes.event_xid, Rows.op_of_ask}
use Rattle.zk_answers.proofs.Heads.{head_unique, head_excludes}
use Rattle.zk_waiting.specs.{declared.lane.Lane.Lane, Lane.lane_of, Waiting.Request, Waiting.Lanes, Waiting.queue_on}
use Rattle.zk_frames.specs.Framing.{frame}
use Rattle.zk_frames.proofs.Cuts.{drop-frame}
use Rattle.zk_talk.specs.declared.message.Side.TheVariants.{Client, Server}
use Rattle.zk_talk.specs.{Conversation.Conversation, Conversation.is_ask_on, Conversation.replies_on, Describes.Describes, Fault.IsNext}
use Rattle.zk_talk.specs.Refused.{HasBody, AnswersOp, AnswersNone, request, event, reply}
use Rattle.zk_talk.proofs.{Queues.requests-length, Judging.front_none, Judging.next_waits, FaultOnce.next_once, FaultOnce.next_exists}

abbrev Number : Layout
Number = One Int End

module _ (src : List ℕ) where
  -- the payload begins with this header
  abbrev pub IsHeaded : RequestHeader → List ℕ → Type 0
  IsHeaded header rest = HaveBytes (request_header.items header) × Opens src (request_header.items header) rest

module _ (src : List ℕ) (fits : IsBytes src) where
  module _ (xid : ℤ) (middle : ℕ) (one : Tells (λ x. x) (Ok (xid, middle)) (reading.int_at src 0)) where
    pub headed : (kind : ℤ) (end : ℕ) → Tells (λ x. x) (Ok (kind, end)) (reading.int_at src middle) → IsHeaded src (record { xid = xid; kind = kind }) (drop end src)
    headed kind end two =
        let all = then_read_one Number Number src 0 (AnInt xid) (AnInt kind ∷ []) middle end (int_gives src 0 (Ok (xid, middle)) one) (int_gives src middle (Ok (kind, end)) two) in
        let f = found request_header.layout request_header.items src 0 fits (omega arith) (Ok (record { xid = xid; kind = kind }, end)) all in
        (f.0.1, f.1.0)

-- ---- the request that a reply with this xid answers

module _ (n m : ℕ) (w : Lanes) (v : Conversation) (d : Describes n m w v) (xid : ℤ) where
  abbrev lane : Lane
  lane = lane_of xid

  pub nothing_none : slice_get (queue_on lane w) 0 ≡ None → AnswersNone v xid
  nothing_none none ask next not =
      let empty = sym (requests-length (queue_on lane w) _ (d.queues lane)) ∙ ap length (front_none (queue_on lane w) none) in
      next_exists v lane lane xid ask refl next (omega (arith, empty, length-drop (replies_on lane v.server) (filter (is_ask_on lane) v.client)))

  module _ (r : Request) (some : slice_get (queue_on lane w) 0 ≡ Some r) where
    pub other_none : r.xid ≢ xid → AnswersNone v xid
    other_none other ask next not =
        let t = next_waits n m w v d lane r some in
        other (sym (next_once v lane lane xid r.xid ask t.ask refl next t.next).0)

    pub multi_none : r.op ≡ ops.Multi → AnswersNone v xid
    multi_none multi ask next not =
        let t = next_waits n m w v d lane r some in
        not (ap op_of_ask (next_once v lane lane xid r.xid ask t.ask refl next t.next).1 ∙ sym t.op ∙ multi)

    pub op_found : r.xid ≡ xid → r.op ≢ ops.Multi → AnswersOp v xid r.op
    op_found same not =
        let t = next_waits n m w v d lane r some in
        (t.ask, subst (λ z. IsNext v lane z t.ask) same t.next, t.op, not)

-- ---- the server's payload

module _ (v : Conversation) (p : List ℕ) where
  pub no_head_none : (place : ℕ) (reason : Reason) → IsHeadFault p place reason → (layout : Kind) (body : List ℕ) → HasBody v p Server layout body → ⊥
  no_head_none place reason f layout body (event header b h e) = head_excludes p header b place reason h f
  no_head_none place reason f layout body (reply header b h x e ask next not) = head_excludes p header b place reason h f

  module _ (header : ReplyHeader) (rest : List ℕ) (h : IsHead p header rest) (no_event : header.xid ≢ event_xid) where
    same_head : (other : ReplyHeader) (body : List ℕ) → IsHead p other body → other ≡ header
    same_head other body k = (head_unique p other header body rest k h).0

    pub unanswered_none : AnswersNone v header.xid → (layout : Kind) (body : List ℕ) → HasBody v p Server layout body → ⊥
    unanswered_none none layout body (event other b k e) = no_event (ap (λ (z : ReplyHeader). z.xid) (sym (same_head other b k)) ∙ e)
    unanswered_none none layout body (reply other b k x e ask next not) =
        none ask (subst (λ (z : ReplyHeader). IsNext v (lane_of z.xid) z.xid ask) (same_head other b k) next) not

    pub reply_found : header.err ≡ pos 0 → (op : Op) → AnswersOp v header.xid op → HasBody v p Server (layouts.Answered op) rest
    reply_found err op a =
        let is = a.2 in
        subst (λ (z : Op). HasBody v p Server (layouts.Answered z) rest) (sym is) (reply header rest h no_event err a.0 a.1 (λ e. a.3 (is ∙ e)))

-- ---- the bytes behind a header

pub asked_found : (v : Conversation) (p : List ℕ) → IsBytes p → (xid : ℤ) (middle : ℕ) → Tells {X = ℤ × ℕ} (λ x. x) (Ok (xid, middle)) (reading.int_at p 0) → (kind : ℤ) (end : ℕ) → Tells {X = ℤ × ℕ} (λ x. x) (Ok (kind, end)) (reading.int_at p middle) →
    (op : Op) → kind ≡ op_number op → HasBody v p Client (layouts.Asked op) (take (length p - end) (drop end p))
asked_found v p fits xid middle one kind end two op is =
    let h = headed p fits xid middle one kind end two in
    let g = subst (λ (z : ℤ). IsHeaded p (record { xid = xid; kind = z }) (drop end p)) is h in
    subst (λ z. HasBody v p Client (layouts.Asked op) z) (sym (take_rest p end)) (request xid op (drop end p) g.0 g.1)

head_rest : (p : List ℕ) (header : ReplyHeader) (rest : List ℕ) → IsHead p header rest → take (length p - 16) (drop 16 p) ≡ rest
head_rest p header rest h = take_rest p 16 ∙ ap (drop 16) h.1 ∙ drop_at (bytes_of (reply_header.items header)) rest 16 (omega arith)

module _ (v : Conversation) (p : List ℕ) (header : ReplyHeader) (rest : List ℕ) (h : IsHead p header rest) where
  pub event_behind : header.xid ≡ event_xid → HasBody v p Server layouts.Event (take (length p - 16) (drop 16 p))
  event_behind is = subst (λ z. HasBody v p Server layouts.Event z) (sym (head_rest p header rest h)) (event header rest h is)

  pub reply_behind : header.xid ≢ event_xid → header.err ≡ pos 0 → (op : Op) → AnswersOp v header.xid op → HasBody v p Server (layouts.Answered op) (take (length p - 16) (drop 16 p))
  reply_behind other err op a = subst (λ z. HasBody v p Server (layouts.Answered op) z) (sym (head_rest p header rest h)) (reply_found v p header rest h other err op a)

-- ---- a frame carries one payload

pub frame_once : (p q : List ℕ) → frame p ≡ frame q → p ≡ q
frame_once p q e = sym (drop-frame p) ∙ ap (drop 4) e ∙ drop-frame q
