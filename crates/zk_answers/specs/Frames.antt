-- The items of server frames, which frames have a payload, and which replies fit a request.
use Rattle.std.specs.Prelude.{◌≡◌, ◌≢◌, ℕ, ℤ, pos, negsuc, List, [], ◌++◌}
use Rattle.zk_jute.specs.{Item.Item, Item.bytes_of, Item.HaveBytes, Flagged.flag_items}
use Rattle.zk_records.specs.{declared.header.ReplyHeader.ReplyHeader, declared.op.Op.Op, declared.op.PartOp.PartOp, Records.connect_response, Records.reply_header, Records.watcher_event}
use Rattle.zk_answers.specs.{declared.frame.BodyOf.BodyOf, declared.frame.OutcomeOf.OutcomeOf, declared.frame.ReplyOf.ReplyOf, Held.Body, Held.Outcome, Held.Reply, Held.ServerFrame, Results.AnswerAll, Rows.op_of_body, Rows.body_items}
use Rattle.zk_answers.specs.declared.frame.BodyOf.TheVariants as body
use Rattle.zk_answers.specs.declared.frame.OutcomeOf.TheVariants as outcome
use Rattle.zk_answers.specs.declared.frame.ServerFrameOf.TheVariants as frame

-- ---- a reply

abbrev pub op_of_outcome : {T B L A M : Type 0} → OutcomeOf (BodyOf T B L A M) → Op
op_of_outcome (outcome.Done b) = op_of_body b
op_of_outcome (outcome.Failed op e) = op

abbrev pub op_of_reply : {T B L A M : Type 0} → ReplyOf (BodyOf T B L A M) → Op
op_of_reply r = op_of_outcome r.outcome

-- 0 where nothing failed
abbrev pub err_of : Outcome → ℤ
err_of (outcome.Done b) = pos 0
err_of (outcome.Failed op e) = e

abbrev pub header_of : Reply → ReplyHeader
header_of r = record { xid = r.xid; zxid = r.zxid; err = err_of r.outcome }

-- what follows the header
abbrev pub rest_items : Outcome → List Item
rest_items (outcome.Done b) = body_items b
rest_items (outcome.Failed op e) = []

abbrev pub reply_items : Reply → List Item
reply_items r = reply_header.items (header_of r) ++ rest_items r.outcome

-- ---- a frame

abbrev pub event_header : ℤ → ReplyHeader
event_header zxid = record { xid = negsuc 0; zxid = zxid; err = pos 0 }

abbrev pub frame_items : ServerFrame → List Item
frame_items (frame.Connected hello flag) = connect_response.items hello ++ flag_items flag
frame_items (frame.Answered r) = reply_items r
frame_items (frame.Event zxid event) = reply_header.items (event_header zxid) ++ watcher_event.items event

abbrev pub payload : ServerFrame → List ℕ
payload s = bytes_of (frame_items s)

-- the number of an error isn't 0
abbrev pub IsOutcome : Outcome → Type 0
IsOutcome (outcome.Done b) = Unit {0}
IsOutcome (outcome.Failed op e) = e ≢ pos 0

-- a reply has another xid than an event
abbrev pub HasItsXid : ServerFrame → Type 0
HasItsXid (frame.Connected hello flag) = Unit {0}
HasItsXid (frame.Answered r) = r.xid ≢ negsuc 0
HasItsXid (frame.Event zxid event) = Unit {0}

abbrev pub IsTrueFailure : ServerFrame → Type 0
IsTrueFailure (frame.Connected hello flag) = Unit {0}
IsTrueFailure (frame.Answered r) = IsOutcome r.outcome
IsTrueFailure (frame.Event zxid event) = Unit {0}

-- the frames that have a payload
abbrev pub IsSent : ServerFrame → Type 0
IsSent s = HasItsXid s × IsTrueFailure s × HaveBytes (frame_items s)

-- the frames that have bytes, also a reply with an event's xid
abbrev pub IsBorne : ServerFrame → Type 0
IsBorne s = IsTrueFailure s × HaveBytes (frame_items s)

-- no two of these that are sent have one payload
abbrev pub HaveApartPayloads : (ServerFrame → Type 0) → Type 0
HaveApartPayloads P = (s t : ServerFrame) → P s → P t → IsSent s → IsSent t → payload s ≡ payload t → s ≡ t

abbrev pub IsConnected : ServerFrame → Type 0
IsConnected (frame.Connected hello flag) = Unit {0}
IsConnected (frame.Answered r) = ⊥
IsConnected (frame.Event zxid event) = ⊥

abbrev pub IsAnswered : ServerFrame → Type 0
IsAnswered (frame.Connected hello flag) = ⊥
IsAnswered (frame.Answered r) = Unit {0}
IsAnswered (frame.Event zxid event) = ⊥

-- a reply to a request of this operation, whatever its parts
abbrev pub IsReplyOf : Op → ServerFrame → Type 0
IsReplyOf op (frame.Connected hello flag) = ⊥
IsReplyOf op (frame.Answered r) = op_of_reply r ≡ op
IsReplyOf op (frame.Event zxid event) = ⊥

abbrev pub IsEvent : ServerFrame → Type 0
IsEvent (frame.Connected hello flag) = ⊥
IsEvent (frame.Answered r) = ⊥
IsEvent (frame.Event zxid event) = Unit {0}

-- ---- what fits a request

-- a multi has its parts' results
abbrev pub BodyFits : List PartOp → Body → Type 0
BodyFits parts (body.Multi dones) = AnswerAll parts dones
BodyFits parts b = Unit {0}

abbrev pub OutcomeFits : Op → List PartOp → Outcome → Type 0
OutcomeFits op parts (outcome.Done b) = (op_of_body b ≡ op) × BodyFits parts b
OutcomeFits op parts (outcome.Failed o e) = o ≡ op

-- the operations are equal, and a multi that is done has as many results as parts, each its part's own or an error
abbrev pub Fits : Op → List PartOp → Reply → Type 0
Fits op parts r = OutcomeFits op parts r.outcome

-- a reply that fits the request
abbrev pub IsReplyTo : Op → List PartOp → ServerFrame → Type 0
IsReplyTo op parts (frame.Connected hello flag) = ⊥
IsReplyTo op parts (frame.Answered r) = Fits op parts r
IsReplyTo op parts (frame.Event zxid event) = ⊥
