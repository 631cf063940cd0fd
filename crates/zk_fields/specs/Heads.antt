-- What comes after the headers of a multi.
use Rattle.std.specs.Prelude.{ℤ, negsuc, false, if◌then◌else◌, List, ◌∷◌, Option, Some, None}
use Rattle.std.specs.{List.find, Ordering.int_eq, Option.option_map}
use Rattle.zk_records.specs.{declared.header.MultiHeader.MultiHeader, declared.op.PartOp.PartOp, Codes.part_number, Codes.all_parts}
use Rattle.zk_records.specs.declared.op.PartOp.TheVariants as parts
use Rattle.zk_asks.specs.declared.frame.PartOf.TheVariants as part
use Rattle.zk_asks.specs.{Held.Part, Parts.op_of_part, Parts.part_header}
use Rattle.zk_answers.specs.declared.frame.PartDoneOf.TheVariants as done
use Rattle.zk_answers.specs.{Held.PartDone, Results.mark_before}
use Rattle.zk_fields.specs.{declared.payload_fields.Headed.Headed, Fields.Entry, Fields.Head, Named.Shape, Named.Named, Named.nothing}
use Rattle.zk_fields.specs.declared.payload_fields.Headed.TheVariants as heads
use Rattle.zk_fields.specs.Records.{create_ask, delete_ask, set_data_ask, check_ask, path, stat, err}

-- a header that isn't the end marker
abbrev pub plain_head : ℤ → ℤ → MultiHeader
plain_head n e = record { kind = n; done = false; err = e }

-- the part that has the number, if one has
abbrev pub part_of : ℤ → Option PartOp
part_of n = find (λ op. int_eq n (part_number op)) all_parts

-- what follows a header, if anything does
abbrev pub OfHead : Type 0
OfHead = MultiHeader → Option Headed

-- in a request, and in a reply: nothing follows the end marker
unfoldable pub headed_part : OfHead
headed_part header = if header.done then None else option_map heads.Part (part_of header.kind)

unfoldable pub headed_result : OfHead
headed_result header = if header.done then None
    else if int_eq header.kind (negsuc 0) then Some heads.Error else option_map heads.Own (part_of header.kind)

-- ---- the one table

-- what a value is of, and its fields
pub record HeadedRow : Type 1 where
  pub Content : Type 0
  pub named : Named Content

abbrev row : {X : Type 0} → Named X → HeadedRow
row {X} k = record { Content = X; named = k }

abbrev pub headed_row : Headed → HeadedRow
headed_row (heads.Part parts.Create) = row create_ask
headed_row (heads.Part parts.Delete) = row delete_ask
headed_row (heads.Part parts.SetData) = row set_data_ask
headed_row (heads.Part parts.Check) = row check_ask
headed_row (heads.Own parts.Create) = row path
headed_row (heads.Own parts.Delete) = row nothing
headed_row (heads.Own parts.SetData) = row stat
headed_row (heads.Own parts.Check) = row nothing
headed_row heads.Error = row err

-- ---- what follows from a row

abbrev pub headed_shape : Headed → Shape
headed_shape m = (headed_row m).named.shape 0

abbrev value_entries : (m : Headed) → (headed_row m).Content → List Entry
value_entries m x = (headed_row m).named.entries 0 x

-- a part is a header and a value of a row: what is given for each value is given for each part
abbrev pub by_part : {Y : Type 0} → ((m : Headed) → (headed_row m).Content → Y) → Part → Y
by_part f (part.Create r) = f (heads.Part parts.Create) r
by_part f (part.Delete r) = f (heads.Part parts.Delete) r
by_part f (part.SetData r) = f (heads.Part parts.SetData) r
by_part f (part.Check r) = f (heads.Part parts.Check) r

abbrev pub record_entries : Part → List Entry
record_entries = by_part value_entries

abbrev pub part_entries : Part → List Entry
part_entries p = Head (part_header (op_of_part p)) ∷ record_entries p

-- and so is a result
abbrev pub by_done : {Y : Type 0} → ((m : Headed) → (headed_row m).Content → Y) → PartDone → Y
by_done f (done.Created p) = f (heads.Own parts.Create) p
by_done f done.Deleted = f (heads.Own parts.Delete) tt
by_done f (done.DataSet s) = f (heads.Own parts.SetData) s
by_done f done.Checked = f (heads.Own parts.Check) tt
by_done f (done.PartFailed e) = f heads.Error e

abbrev pub result_entries : PartDone → List Entry
result_entries = by_done value_entries

abbrev pub done_entries : PartDone → List Entry
done_entries d = Head (mark_before d) ∷ result_entries d
