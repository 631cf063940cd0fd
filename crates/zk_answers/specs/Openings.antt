-- The fault of a reply or an event over its openings: what a person reads, beside the cases of Faults, which go as the readers go.
use Rattle.std.specs.Prelude.{◌≡◌, ◌≢◌, ℕ, ◌+◌, ℤ, pos, List, [], ◌∷◌, ◌++◌, length}
use Rattle.zk_jute.specs.{declared.fault.Reason.Reason, Item.Item, Item.AnInt, Item.bytes_of, Item.HaveBytes, Layout.IsValueOf, Faults.IsFault, Faults.IsTrailing, Faults.Opens}
use Rattle.zk_jute.specs.declared.fault.Reason.TheVariants.{Trailing, BadPart, EventErr}
use Rattle.zk_records.specs.{declared.header.MultiHeader.MultiHeader, declared.header.ReplyHeader.ReplyHeader, declared.op.Op.Op, declared.op.PartOp.PartOp, Records.reply_header, Records.watcher_event}
use Rattle.zk_asks.specs.Parts.{marked}
use Rattle.zk_answers.specs.Results.{result_header, error_header, error_items, result_layout, MayAnswer}
use Rattle.zk_answers.specs.Faults.{Shape, Fields, Results, IsOfShape, rest_shape, IsHead, IsHeadFault}

-- ---- the results of a multi

-- an error's int, as its header has it
abbrev pub number_items : ℤ → List Item
number_items e = AnInt e ∷ []

-- results of just these parts, or errors, each after its header
pub data AreResults : List PartOp → List Item → Type 0 where
  no_result : AreResults [] []
  a_result : (op : PartOp) (ops : List PartOp) (result others : List Item) → IsValueOf (result_layout op) result → AreResults ops others
      → AreResults (op ∷ ops) (marked (result_header op) ++ (result ++ others))
  an_error : (op : PartOp) (ops : List PartOp) (e : ℤ) (others : List Item) → HaveBytes (error_items e e) → AreResults ops others
      → AreResults (op ∷ ops) (marked (error_header e) ++ (number_items e ++ others))

-- after the header comes no result of the next part, and no error
abbrev pub Ends : List PartOp → MultiHeader → Type 0
Ends [] header = Unit {0}
Ends (op ∷ ops) header = (header ≢ result_header op) × ((e : ℤ) → header ≢ error_header e)

-- Results of the first of these parts, and then a header after which no result comes: the end marker, or one that can't come next.
-- So an opening may end within a header, whatever its first numbers are.
pub data AreMarked : List PartOp → List Item → Type 0 where
  last : (ops : List PartOp) (header : MultiHeader) → HaveBytes (marked header) → Ends ops header → AreMarked ops (marked header)
  result_before : (op : PartOp) (ops : List PartOp) (result others : List Item) → IsValueOf (result_layout op) result → AreMarked ops others
      → AreMarked (op ∷ ops) (marked (result_header op) ++ (result ++ others))
  error_before : (op : PartOp) (ops : List PartOp) (e : ℤ) (others : List Item) → HaveBytes (error_items e e) → AreMarked ops others
      → AreMarked (op ∷ ops) (marked (error_header e) ++ (number_items e ++ others))

-- a whole header that can't come next, or an error whose int differs from its header's
pub data IsBadMark : List PartOp → List ℕ → Type 0 where
  no_mark : (ops : List PartOp) (bytes rest : List ℕ) (header : MultiHeader) → HaveBytes (marked header) → (MayAnswer ops header → ⊥)
      → Opens bytes (marked header) rest → IsBadMark ops bytes
  no_number : (op : PartOp) (ops : List PartOp) (bytes rest : List ℕ) (e d : ℤ) → HaveBytes (error_items e d) → d ≢ e → Opens bytes (error_items e d) rest
      → IsBadMark (op ∷ ops) bytes

-- such a header or error comes after the results of the parts before
pub data IsBadPart (ops : List PartOp) (bytes : List ℕ) : ℕ → Type 0 where
  bad_part : (before after : List PartOp) (results : List Item) (rest : List ℕ) → ops ≡ before ++ after → AreResults before results → Opens bytes results rest
      → IsBadMark after rest → IsBadPart ops bytes (length (bytes_of results))

-- ---- what follows a header

-- the items of a shape, from which openings are taken
abbrev pub IsOpened : Shape → List Item → Type 0
IsOpened (Fields l) items = IsValueOf l items
IsOpened (Results parts) items = AreMarked parts items

abbrev pub IsBadIn : Shape → List ℕ → ℕ → Type 0
IsBadIn (Fields l) bytes place = ⊥
IsBadIn (Results parts) bytes place = IsBadPart parts bytes place

-- a header, and then items of the shape
abbrev pub IsBehind : ReplyHeader → (List Item → Type 0) → List Item → Type 0
IsBehind header Values items = (body : List Item) × Values body × (items ≡ reply_header.items header ++ body)

-- bytes that begin with the header, and then with what can't come next in the items from its first on, or with a part's header
-- or error that can't come next, or that are left over
pub data IsOpeningBehind (header : ReplyHeader) (shape : Shape) (bytes rest : List ℕ) : ℕ → Reason → Type 0 where
  of_item : (place : ℕ) (reason : Reason) → IsFault (IsBehind header (IsOpened shape)) bytes place reason → IsOpeningBehind header shape bytes rest place reason
  of_part : (place : ℕ) → IsBadIn shape rest place → IsOpeningBehind header shape bytes rest (16 + place) BadPart
  of_rest : (place : ℕ) → IsTrailing (IsBehind header (IsOfShape shape)) bytes place → IsOpeningBehind header shape bytes rest place Trailing

-- ---- replies and events

pub data IsReplyOpening (op : Op) (parts : List PartOp) (bytes : List ℕ) : ℕ → Reason → Type 0 where
  reply_header_of : (place : ℕ) (reason : Reason) → IsHeadFault bytes place reason → IsReplyOpening op parts bytes place reason
  reply_rest_of : (header : ReplyHeader) (rest : List ℕ) (place : ℕ) (reason : Reason) → IsHead bytes header rest
      → IsOpeningBehind header (rest_shape op parts header.err) bytes rest place reason → IsReplyOpening op parts bytes place reason

pub data IsEventOpening (bytes : List ℕ) : ℕ → Reason → Type 0 where
  event_header_of : (place : ℕ) (reason : Reason) → IsHeadFault bytes place reason → IsEventOpening bytes place reason
  event_err_of : (header : ReplyHeader) (rest : List ℕ) → IsHead bytes header rest → header.err ≢ pos 0 → IsEventOpening bytes 12 EventErr
  event_rest_of : (header : ReplyHeader) (rest : List ℕ) (place : ℕ) (reason : Reason) → IsHead bytes header rest → header.err ≡ pos 0
      → IsOpeningBehind header (Fields watcher_event.layout) bytes rest place reason → IsEventOpening bytes place reason
