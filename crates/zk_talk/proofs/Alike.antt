-- A message is known by its kind and the bytes of its payload, where one that may be said has them.
use Rattle.std.proofs.Common.{◌≡◌, ℕ, ℤ, negsuc, List, [], ◌∷◌, ◌++◌, refl, sym, ap, ◌∙◌, subst, append_assoc}
use Rattle.std.proofs.lemmas.List.{append-nil}
use Rattle.zk_jute.specs.Item.{Item, bytes_of, HaveBytes}
use Rattle.zk_jute.proofs.Layouts.{bytes_only, bytes_both, have_parts}
use Rattle.zk_records.specs.{declared.header.MultiHeader.MultiHeader, declared.header.ReplyHeader.ReplyHeader, declared.op.Op.Op, declared.op.PartOp.PartOp, Codes.op_number}
use Rattle.zk_records.specs.Records.{request_header, multi_header, reply_header}
use Rattle.zk_records.proofs.Numbers.{op_number_apart}
use Rattle.zk_asks.specs.{Held.Ask as Asked, Held.ClientFrame, Codes.IsAllowed, Forms.header_items, Parts.end_header, Parts.marked}
use Rattle.zk_asks.specs.declared.frame.ClientFrameOf.TheVariants.{Connect, Ask}
use Rattle.zk_asks.specs.Rows as asked
use Rattle.zk_asks.specs.Frames as asks
use Rattle.zk_asks.proofs.{Later.header_is, Later.header_same, Later.ask_injective, Parted.end_mark, Parted.mark_same, Parts.mark_is, First.first_injective}
use Rattle.zk_answers.specs.{Held.PartDone, Held.Body, Held.Outcome, Held.Reply, Held.ServerFrame, Rows.op_of_body, Rows.body_items}
use Rattle.zk_answers.specs.declared.frame.PartDoneOf.TheVariants as done
use Rattle.zk_answers.specs.declared.frame.BodyOf.TheVariants as body
use Rattle.zk_answers.specs.declared.frame.OutcomeOf.TheVariants as outcome
use Rattle.zk_answers.specs.declared.frame.ServerFrameOf.TheVariants.{Connected, Answered, Event}
use Rattle.zk_answers.specs.Frames.{Fits, OutcomeFits, BodyFits, IsOutcome, err_of, header_of, op_of_outcome, op_of_reply, rest_items, reply_items}
use Rattle.zk_answers.specs.Frames as answers
use Rattle.zk_answers.specs.Results.{Answers, AnswerAll, done_items, multi_items, mark_before, result_of}
use Rattle.zk_answers.proofs.{Dones.multi_more, Dones.split_items, Lying.items_are, Lying.own_of, Lying.own_kind, Lying.own_answers, Lying.not_end, Heads.head_unique, Heads.stands_head, Results.done_only, Connected.connected_injective}
use Rattle.zk_talk.specs.{Payloads.client_payload, Payloads.server_payload, declared.message.Kind.Kind, Written.IsWritten, Written.kind_of}
use Rattle.zk_talk.specs.declared.message.MessageOf.TheVariants.{Client as FromClient, Server as FromServer}
use Rattle.zk_talk.specs.declared.message.Kind.TheVariants as kinds
use Rattle.zk_answers.proofs.{Replies.reply_injective, Events.event_injective}
use Rattle.zk_talk.proofs.Payloads.{asks_alike, answers_alike}

-- ---- the client's

-- a request of the same payload as one that is allowed is allowed
allowed : (xid id : ℤ) (a b : Asked) → asks.IsSent (Ask xid a) → HaveBytes (asks.frame_items (Ask id b)) → client_payload (Ask xid a) ≡ client_payload (Ask id b) → IsAllowed id (asked.op_of_ask b)
unfolding client_payload
allowed xid id a b sent have e =
    let m = op_number (asked.op_of_ask a) in
    let n = op_number (asked.op_of_ask b) in
    let x = header_items xid m in
    let y = header_items id n in
    let h = have_parts x (asked.body_items a) sent.1 in
    let k = have_parts y (asked.body_items b) have in
    let same = bytes_only request_header.layout x y (bytes_of (asked.body_items a)) (bytes_of (asked.body_items b)) (header_is xid m h.0) (header_is id n k.0) (sym (bytes_both x (asked.body_items a)) ∙ e ∙ bytes_both y (asked.body_items b)) in
    let head = header_same xid m id n same.0 in
    let op : asked.op_of_ask a ≡ asked.op_of_ask b = op_number_apart (asked.op_of_ask a) (asked.op_of_ask b) head.1 in
    subst (λ (z : ℤ). IsAllowed z (asked.op_of_ask b)) head.0 (subst (λ (o : Op). IsAllowed xid o) op sent.0)

pub client_known : (kind : Kind) (p : List ℕ) (f g : ClientFrame) → asks.IsSent f → client_payload f ≡ p → kind_of (FromClient f) ≡ kind → IsWritten kind p (FromClient g) → f ≡ g
client_known kind p (Connect t x) (Connect u y) sent is k w = first_injective (Connect t x) (Connect u y) tt tt sent (tt, w.have) (asks_alike (Connect t x) (Connect u y) (is ∙ sym w.is))
client_known kind p (Connect t x) (Ask id b) sent is k w = let e : kinds.Connect ≡ kinds.Ask = k ∙ sym w.kind_is in absurd (cc)
client_known kind p (Ask xid a) (Connect u y) sent is k w = let e : kinds.Ask ≡ kinds.Connect = k ∙ sym w.kind_is in absurd (cc)
client_known kind p (Ask xid a) (Ask id b) sent is k w =
    let same = is ∙ sym w.is in
    ask_injective (Ask xid a) (Ask id b) tt tt sent (allowed xid id a b sent w.have same, w.have) (asks_alike (Ask xid a) (Ask id b) same)

-- ---- results of a multi

kind_before : (d e : PartDone) → mark_before d ≡ mark_before e → (mark_before d).kind ≡ (mark_before e).kind
kind_before d e same = ap (λ (h : MultiHeader). h.kind) same

-- what answers a part, and has the same header as another result, which answers it: so does that
alike : (op : PartOp) (d e : PartDone) → mark_before d ≡ mark_before e → Answers op e → Answers op d
alike op (done.PartFailed x) e same a = tt
alike op d (done.PartFailed y) same a = let k : (mark_before d).kind ≡ negsuc 0 = kind_before d (done.PartFailed y) same in absurd (cc)
alike op d e same a = own_answers op d (own_of d op (kind_before d e same ∙ own_kind op e a))

-- the headers that two lists of items begin with are equal, where their bytes are
marks_alike : (g h : MultiHeader) (a b : List Item) (x y : List ℕ) → HaveBytes (marked g) → HaveBytes (marked h) → bytes_of (marked g ++ a) ++ x ≡ bytes_of (marked h ++ b) ++ y → g ≡ h
marks_alike g h a b x y have has e =
    let one = split_items (marked g) a (bytes_of (marked g ++ a) ++ x) x refl in
    let two = split_items (marked h) b (bytes_of (marked h ++ b) ++ y) y refl in
    mark_same g h (bytes_only multi_header.layout (marked g) (marked h) (bytes_of a ++ x) (bytes_of b ++ y) (mark_is g have) (mark_is h has) (sym one ∙ e ∙ two)).0

-- the header of a result, before whatever follows
front_of : (d : PartDone) (ds : List PartDone) → multi_items (d ∷ ds) ≡ marked (mark_before d) ++ (result_of d ++ multi_items ds)
front_of d ds = multi_more d ds ∙ ap (λ (z : List Item). z ++ multi_items ds) (items_are d) ∙ append_assoc (marked (mark_before d)) (result_of d) (multi_items ds)

mark_of : (d : PartDone) (ds : List PartDone) → HaveBytes (multi_items (d ∷ ds)) → HaveBytes (marked (mark_before d))
mark_of d ds have = (have_parts (marked (mark_before d)) (result_of d ++ multi_items ds) (subst HaveBytes (front_of d ds) have)).0

bytes_front : (d : PartDone) (ds : List PartDone) (x : List ℕ) → bytes_of (multi_items (d ∷ ds)) ++ x ≡ bytes_of (marked (mark_before d) ++ (result_of d ++ multi_items ds)) ++ x
bytes_front d ds x = ap (λ (z : List Item). bytes_of z ++ x) (front_of d ds)

end_front : (x : List ℕ) → bytes_of (multi_items []) ++ x ≡ bytes_of (marked end_header ++ []) ++ x
end_front x = ap (λ (z : List Item). bytes_of z ++ x) (sym (append-nil (marked end_header)))

-- results of the same bytes as results that answer these parts answer them too
all_alike : (ops : List PartOp) (ds es : List PartDone) → AnswerAll ops es → HaveBytes (multi_items ds) → HaveBytes (multi_items es) → (x y : List ℕ) → bytes_of (multi_items ds) ++ x ≡ bytes_of (multi_items es) ++ y → AnswerAll ops ds
all_alike [] [] es q u v x y e = tt
all_alike [] (d ∷ ds) [] q u v x y e = absurd (not_end d (marks_alike (mark_before d) end_header (result_of d ++ multi_items ds) [] x y (mark_of d ds u) end_mark.1 (sym (bytes_front d ds x) ∙ e ∙ end_front y)))
all_alike [] (d ∷ ds) (c ∷ es) q u v x y e = absurd q
all_alike (op ∷ ops) ds [] q u v x y e = absurd q
all_alike (op ∷ ops) [] (c ∷ es) q u v x y e = absurd (not_end c (sym (marks_alike end_header (mark_before c) [] (result_of c ++ multi_items es) x y end_mark.1 (mark_of c es v) (sym (end_front x) ∙ e ∙ bytes_front c es y))))
all_alike (op ∷ ops) (d ∷ ds) (c ∷ es) q u v x y e =
    let mark = marks_alike (mark_before d) (mark_before c) (result_of d ++ multi_items ds) (result_of c ++ multi_items es) x y (mark_of d ds u) (mark_of c es v) (sym (bytes_front d ds x) ∙ e ∙ bytes_front c es y) in
    let answers = alike op d c mark q.0 in
    let a = have_parts (done_items d) (multi_items ds) (subst HaveBytes (multi_more d ds) u) in
    let b = have_parts (done_items c) (multi_items es) (subst HaveBytes (multi_more c es) v) in
    let left = split_items (done_items d) (multi_items ds) (bytes_of (multi_items (d ∷ ds)) ++ x) x (ap (λ (i : List Item). bytes_of i ++ x) (multi_more d ds)) in
    let right = split_items (done_items c) (multi_items es) (bytes_of (multi_items (c ∷ es)) ++ y) y (ap (λ (i : List Item). bytes_of i ++ y) (multi_more c es)) in
    let one = done_only op d c answers q.0 a.0 b.0 (bytes_of (multi_items ds) ++ x) (bytes_of (multi_items es) ++ y) (sym left ∙ e ∙ right) in
    (answers, all_alike ops ds es q.1 a.1 b.1 x y one.1)

-- ---- the server's

body_fits : (ps : List PartOp) (b c : Body) → op_of_body c ≡ op_of_body b → BodyFits ps b → HaveBytes (body_items b) → HaveBytes (body_items c) → bytes_of (body_items c) ≡ bytes_of (body_items b) → BodyFits ps c
body_fits ps (body.Multi es) (body.Multi ds) same fits h k e = all_alike ps ds es fits k h [] [] (append-nil (bytes_of (body_items (body.Multi ds))) ∙ e ∙ sym (append-nil (bytes_of (body_items (body.Multi es)))))
body_fits ps b (body.Multi ds) same fits h k e = absurd (cc)
body_fits ps b c same fits h k e = tt

outcome_fits : (op : Op) (ps : List PartOp) (o n : Outcome) → op_of_outcome n ≡ op_of_outcome o → OutcomeFits op ps o → IsOutcome o → IsOutcome n → err_of n ≡ err_of o → HaveBytes (rest_items o) → HaveBytes (rest_items n) → bytes_of (rest_items n) ≡ bytes_of (rest_items o) → OutcomeFits op ps n
outcome_fits op ps (outcome.Done b) (outcome.Done c) same fits i j err h k e = (same ∙ fits.0, body_fits ps b c same fits.1 h k e)
outcome_fits op ps (outcome.Done b) (outcome.Failed q z) same fits i j err h k e = absurd (j err)
outcome_fits op ps (outcome.Failed q z) (outcome.Done c) same fits i j err h k e = absurd (i (sym err))
outcome_fits op ps (outcome.Failed q z) (outcome.Failed r y) same fits i j err h k e = same ∙ fits

pub reply_known : (op : Op) (ps : List PartOp) (p : List ℕ) (r q : Reply) → Fits op ps r → answers.IsSent (Answered r) → server_payload (Answered r) ≡ p → IsWritten (kinds.Answered (op_of_reply r)) p (FromServer (Answered q)) → ◌≡◌ {A = ServerFrame} (Answered r) (Answered q)
unfolding server_payload
reply_known op ps p r q fits sent is w =
    let e : bytes_of (reply_items q) ≡ bytes_of (reply_items r) = w.is ∙ sym is in
    let a = stands_head (header_of q) (rest_items q.outcome) w.have in
    let b = stands_head (header_of r) (rest_items r.outcome) sent.2 in
    let heads = head_unique (bytes_of (reply_items q)) (header_of q) (header_of r) (bytes_of (rest_items q.outcome)) (bytes_of (rest_items r.outcome)) a (b.0, e ∙ b.1) in
    let xid : q.xid ≡ r.xid = ap (λ (h : ReplyHeader). h.xid) heads.0 in
    let h = have_parts (reply_header.items (header_of r)) (rest_items r.outcome) sent.2 in
    let k = have_parts (reply_header.items (header_of q)) (rest_items q.outcome) w.have in
    let op_is : op_of_reply q ≡ op_of_reply r = of_answered (op_of_reply q) (op_of_reply r) w.kind_is in
    let agrees = outcome_fits op ps r.outcome q.outcome op_is fits sent.1 w.failure (ap (λ (h : ReplyHeader). h.err) heads.0) h.1 k.1 heads.1 in
    reply_injective op ps (Answered r) (Answered q) fits agrees sent ((λ z. sent.0 (sym xid ∙ z)), w.failure, w.have) (answers_alike (Answered r) (Answered q) (sym e))
  where
    of_answered : (x y : Op) → kinds.Answered x ≡ kinds.Answered y → x ≡ y
    of_answered x y e = cc

pub event_known : (p : List ℕ) (s t : ServerFrame) → answers.IsEvent s → answers.IsSent s → server_payload s ≡ p → IsWritten kinds.Event p (FromServer t) → s ≡ t
event_known p s (Connected u y) event sent is w = let e : kinds.Connected ≡ kinds.Event = w.kind_is in absurd (cc)
event_known p s (Answered q) event sent is w = let e : kinds.Answered (op_of_reply q) ≡ kinds.Event = w.kind_is in absurd (cc)
event_known p s (Event z k) event sent is w = event_injective s (Event z k) event tt sent (tt, tt, w.have) (answers_alike s (Event z k) (is ∙ sym w.is))

pub connected_known : (p : List ℕ) (s t : ServerFrame) → answers.IsConnected s → answers.IsSent s → server_payload s ≡ p → IsWritten kinds.Connected p (FromServer t) → s ≡ t
connected_known p s (Connected u y) first sent is w = connected_injective s (Connected u y) first tt sent (tt, tt, w.have) (answers_alike s (Connected u y) (is ∙ sym w.is))
connected_known p s (Answered q) first sent is w = let e : kinds.Answered (op_of_reply q) ≡ kinds.Connected = w.kind_is in absurd (cc)
connected_known p s (Event z k) first sent is w = let e : kinds.Event ≡ kinds.Connected = w.kind_is in absurd (cc)
