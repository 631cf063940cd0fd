-- Where and why a payload has no server form: the first case, from left to right.
use Rattle.std.specs.Prelude.{◌≡◌, ◌≢◌, ℕ, zero, suc, ◌+◌, ℤ, pos, negsuc, List, [], length}
use Rattle.zk_jute.specs.{declared.fault.Reason.Reason, Item.Item, Item.bytes_of, Item.HaveBytes, Layout.Layout, Layout.End, Layout.IsValueOf, Faults.IsFault, Faults.Opens, Flagged.IsFlaggedFault}
use Rattle.zk_jute.specs.declared.fault.Reason.TheVariants.{Trailing, EventErr}
use Rattle.zk_records.specs.{declared.header.ReplyHeader.ReplyHeader, declared.op.Op.Op, declared.op.PartOp.PartOp, Records.connect_response, Records.reply_header, Records.watcher_event}
use Rattle.zk_answers.specs.{Held.PartDone, Results.multi_items, Results.AnswerAll, Results.IsDoneFault, Rows.Row, Rows.holds, Rows.bare, Rows.multi, Rows.row_of}

abbrev pub IsConnectedFault : List ℕ → ℕ → Reason → Type 0
IsConnectedFault bytes place reason = IsFlaggedFault connect_response.layout bytes place reason

-- ---- the header of a reply and of an event

-- the bytes are the header's and then the rest
abbrev pub IsHead : List ℕ → ReplyHeader → List ℕ → Type 0
IsHead bytes header rest = HaveBytes (reply_header.items header) × Opens bytes (reply_header.items header) rest

-- the bytes end within one of the header's three items
abbrev pub IsHeadFault : List ℕ → ℕ → Reason → Type 0
IsHeadFault bytes place reason = IsFault (IsValueOf reply_header.layout) bytes place reason

-- ---- what follows the header

-- fields, or the results of a multi's parts
pub data Shape : Type 0 where
  Fields : Layout → Shape
  Results : List PartOp → Shape

abbrev pub IsOfShape : Shape → List Item → Type 0
IsOfShape (Fields l) items = IsValueOf l items
IsOfShape (Results parts) items = (dones : List PartDone) × AnswerAll parts dones × HaveBytes (multi_items dones) × (items ≡ multi_items dones)

abbrev pub IsShapeFault : Shape → List ℕ → ℕ → Reason → Type 0
IsShapeFault (Fields l) bytes place reason = IsFault (IsValueOf l) bytes place reason
IsShapeFault (Results parts) bytes place reason = IsDoneFault parts bytes place reason

-- where and why bytes are not just those of the shape
pub data IsRestFault (shape : Shape) : List ℕ → ℕ → Reason → Type 0 where
  in_shape : (bytes : List ℕ) (place : ℕ) (reason : Reason) → IsShapeFault shape bytes place reason → IsRestFault shape bytes place reason
  past_shape : (bytes rest : List ℕ) (whole : List Item) → IsOfShape shape whole → Opens bytes whole rest → rest ≢ []
      → IsRestFault shape bytes (length (bytes_of whole)) Trailing

-- ---- a reply

abbrev pub shape_in : Row → List PartOp → Shape
shape_in (holds make w) parts = Fields w.layout
shape_in (bare b) parts = Fields End
shape_in multi parts = Results parts

-- the body of a reply to a request of the operation and of these parts
abbrev pub body_shape : Op → List PartOp → Shape
body_shape op parts = shape_in (row_of op) parts

-- after a header with this err: nothing if the request has failed
abbrev pub rest_shape : Op → List PartOp → ℤ → Shape
rest_shape op parts (pos zero) = body_shape op parts
rest_shape op parts (pos (suc n)) = Fields End
rest_shape op parts (negsuc n) = Fields End

-- the header, and then what its err and the request fix
pub data IsReplyFault (op : Op) (parts : List PartOp) : List ℕ → ℕ → Reason → Type 0 where
  in_head : (bytes : List ℕ) (place : ℕ) (reason : Reason) → IsHeadFault bytes place reason → IsReplyFault op parts bytes place reason
  in_rest : (bytes rest : List ℕ) (header : ReplyHeader) (behind : ℕ) (reason : Reason) → IsHead bytes header rest
      → IsRestFault (rest_shape op parts header.err) rest behind reason → IsReplyFault op parts bytes (16 + behind) reason

-- ---- an event

-- the header, its err, and then the event
pub data IsEventFault : List ℕ → ℕ → Reason → Type 0 where
  in_header : (bytes : List ℕ) (place : ℕ) (reason : Reason) → IsHeadFault bytes place reason → IsEventFault bytes place reason
  bad_err : (bytes rest : List ℕ) (header : ReplyHeader) → IsHead bytes header rest → header.err ≢ pos 0 → IsEventFault bytes 12 EventErr
  in_event : (bytes rest : List ℕ) (header : ReplyHeader) (behind : ℕ) (reason : Reason) → IsHead bytes header rest → header.err ≡ pos 0
      → IsRestFault (Fields watcher_event.layout) rest behind reason → IsEventFault bytes (16 + behind) reason
