-- The forms of server payloads, as lists of items.
use Rattle.std.specs.Prelude.{◌≡◌, ℤ, List, ◌++◌}
use Rattle.zk_jute.specs.{Item.Item, Item.HaveBytes, Flagged.IsFlagged}
use Rattle.zk_records.specs.{declared.header.ReplyHeader.ReplyHeader, declared.op.Op.Op, declared.op.PartOp.PartOp, Records.connect_response, Records.reply_header, Records.watcher_event}
use Rattle.zk_answers.specs.{Faults.Shape, Faults.Fields, Faults.IsOfShape, Faults.rest_shape, Frames.event_header}

-- a connect response, and one boolean that may follow it
abbrev pub IsConnectedForm : List Item → Type 0
IsConnectedForm items = IsFlagged connect_response.layout items

-- the header, and then a shape
pub record IsBehindHeader (header : ReplyHeader) (shape : Shape) (items : List Item) : Type 0 where
  pub rest : List Item
  pub have : HaveBytes (reply_header.items header ++ rest)
  pub of_shape : IsOfShape shape rest
  pub is : items ≡ reply_header.items header ++ rest

-- a reply to a request of the operation and of these parts
abbrev pub IsReplyForm : Op → List PartOp → List Item → Type 0
IsReplyForm op parts items = (header : ReplyHeader) × IsBehindHeader header (rest_shape op parts header.err) items

-- an event
abbrev pub IsEventForm : List Item → Type 0
IsEventForm items = (zxid : ℤ) × IsBehindHeader (event_header zxid) (Fields watcher_event.layout) items
