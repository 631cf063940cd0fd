-- The results of a multi (ZooKeeper 3.4, MultiResponse): what each one spells, and for which parts they are.
use Rattle.std.specs.Prelude.{◌≡◌, ◌≢◌, ℕ, ◌+◌, ℤ, pos, negsuc, false, List, [], ◌∷◌, ◌++◌, length, ◌⊎◌}
use Rattle.zk_jute.specs.{declared.fault.Reason.Reason, declared.fault.Reason.TheVariants.BadPart, Item.Int, Item.Ustring, Item.Item, Item.AnInt, Item.bytes_of, Item.HaveBytes, Layout.Layout, Layout.End, Layout.One, Layout.IsValueOf}
use Rattle.zk_jute.specs.{Faults.IsFault, Faults.Opens, Values.text_items}
use Rattle.zk_records.specs.{declared.header.MultiHeader.MultiHeader, declared.op.PartOp.PartOp, Codes.part_number, Records.multi_header, Records.stat}
use Rattle.zk_records.specs.declared.op.PartOp.TheVariants as parts
use Rattle.zk_asks.specs.Parts.{end_header, marked, ended}
use Rattle.zk_answers.specs.{Held.PartDone, declared.multi.ResultMark.ResultMark}
use Rattle.zk_answers.specs.declared.frame.PartDoneOf.TheVariants as done
use Rattle.zk_answers.specs.declared.multi.ResultMark.TheVariants as mark

-- the header before a part's result, and the one before an error
abbrev pub result_header : PartOp → MultiHeader
result_header op = record { kind = part_number op; done = false; err = pos 0 }

abbrev pub error_header : ℤ → MultiHeader
error_header e = record { kind = negsuc 0; done = false; err = e }

-- their items, and those of an error: its header, and an int after it
abbrev pub before_result : PartOp → List Item
before_result op = marked (result_header op)

abbrev pub before_error : ℤ → List Item
before_error e = marked (error_header e)

abbrev pub error_items : ℤ → ℤ → List Item
error_items e d = before_error e ++ (AnInt d ∷ [])

abbrev pub done_items : PartDone → List Item
done_items (done.Created path) = marked (result_header parts.Create) ++ text_items path
done_items done.Deleted = marked (result_header parts.Delete)
done_items (done.DataSet s) = marked (result_header parts.SetData) ++ stat.items s
done_items done.Checked = marked (result_header parts.Check)
done_items (done.PartFailed e) = marked (error_header e) ++ (AnInt e ∷ [])

abbrev pub multi_items : List PartDone → List Item
multi_items = ended done_items

-- a part's own result, or an error
abbrev pub Answers : PartOp → PartDone → Type 0
Answers op (done.Created path) = op ≡ parts.Create
Answers op done.Deleted = op ≡ parts.Delete
Answers op (done.DataSet s) = op ≡ parts.SetData
Answers op done.Checked = op ≡ parts.Check
Answers op (done.PartFailed e) = Unit {0}

-- a part's own result
abbrev pub Own : PartOp → PartDone → Type 0
Own op (done.Created path) = op ≡ parts.Create
Own op done.Deleted = op ≡ parts.Delete
Own op (done.DataSet s) = op ≡ parts.SetData
Own op done.Checked = op ≡ parts.Check
Own op (done.PartFailed e) = ⊥

-- the header before it, and the items after that
abbrev pub mark_before : PartDone → MultiHeader
mark_before (done.Created path) = result_header parts.Create
mark_before done.Deleted = result_header parts.Delete
mark_before (done.DataSet s) = result_header parts.SetData
mark_before done.Checked = result_header parts.Check
mark_before (done.PartFailed e) = error_header e

abbrev pub result_of : PartDone → List Item
result_of (done.Created path) = text_items path
result_of done.Deleted = []
result_of (done.DataSet s) = stat.items s
result_of done.Checked = []
result_of (done.PartFailed e) = AnInt e ∷ []

-- results for these parts, as many as parts
abbrev pub AnswerAll : List PartOp → List PartDone → Type 0
AnswerAll [] [] = Unit {0}
AnswerAll [] (d ∷ ds) = ⊥
AnswerAll (op ∷ ops) [] = ⊥
AnswerAll (op ∷ ops) (d ∷ ds) = Answers op d × AnswerAll ops ds

-- the headers that can come while these parts are left
abbrev pub MayAnswer : List PartOp → MultiHeader → Type 0
MayAnswer [] header = header ≡ end_header
MayAnswer (op ∷ ops) header = (header ≡ result_header op) ⊎ ((e : ℤ) × (header ≡ error_header e))

abbrev pub result_layout : PartOp → Layout
result_layout parts.Create = One Ustring End
result_layout parts.Delete = End
result_layout parts.SetData = stat.layout
result_layout parts.Check = End

-- where and why bytes are not the results of these parts and the end marker: the first case, from left to right
pub data IsDoneFault : List PartOp → List ℕ → ℕ → Reason → Type 0 where
  -- whatever the header's first numbers are, its next item follows
  in_mark : (ops : List PartOp) (bytes : List ℕ) (place : ℕ) (reason : Reason) → IsFault (IsValueOf multi_header.layout) bytes place reason
      → IsDoneFault ops bytes place reason
  bad_mark : (ops : List PartOp) (bytes rest : List ℕ) (header : MultiHeader) → HaveBytes (marked header) → Opens bytes (marked header) rest
      → (MayAnswer ops header → ⊥) → IsDoneFault ops bytes 0 BadPart
  in_result : (op : PartOp) (ops : List PartOp) (bytes rest : List ℕ) (behind : ℕ) (reason : Reason) → Opens bytes (before_result op) rest
      → IsFault (IsValueOf (result_layout op)) rest behind reason → IsDoneFault (op ∷ ops) bytes (length (bytes_of (before_result op)) + behind) reason
  in_error : (op : PartOp) (ops : List PartOp) (e : ℤ) (bytes rest : List ℕ) (behind : ℕ) (reason : Reason) → HaveBytes (before_error e)
      → Opens bytes (before_error e) rest → IsFault (IsValueOf (One Int End)) rest behind reason
      → IsDoneFault (op ∷ ops) bytes (length (bytes_of (before_error e)) + behind) reason
  -- an error result whose int differs from its header's
  other_error : (op : PartOp) (ops : List PartOp) (e d : ℤ) (bytes rest : List ℕ) → HaveBytes (error_items e d) → Opens bytes (error_items e d) rest
      → d ≢ e → IsDoneFault (op ∷ ops) bytes 0 BadPart
  behind_result : (op : PartOp) (ops : List PartOp) (result : List Item) (bytes rest : List ℕ) (behind : ℕ) (reason : Reason)
      → IsValueOf (result_layout op) result → Opens bytes (before_result op ++ result) rest → IsDoneFault ops rest behind reason
      → IsDoneFault (op ∷ ops) bytes (length (bytes_of (before_result op ++ result)) + behind) reason
  behind_error : (op : PartOp) (ops : List PartOp) (e : ℤ) (bytes rest : List ℕ) (behind : ℕ) (reason : Reason) → HaveBytes (error_items e e)
      → Opens bytes (error_items e e) rest → IsDoneFault ops rest behind reason
      → IsDoneFault (op ∷ ops) bytes (length (bytes_of (error_items e e)) + behind) reason

-- what comes after a header, while a part is left
abbrev pub ItsPlace : PartOp → MultiHeader → ResultMark → Type 0
ItsPlace op header mark.Result = header ≡ result_header op
ItsPlace op header mark.Error = header ≡ error_header header.err
ItsPlace op header mark.Bad = (header ≢ result_header op) × ((e : ℤ) → header ≢ error_header e)
