-- The parts of a multi (MultiTransactionRecord).
use Rattle.std.specs.Prelude.{◌≡◌, negsuc, true, false, List, ◌++◌, ◌⊎◌}
use Rattle.std.specs.List.{flat_map}
use Rattle.zk_jute.specs.{Item.Item, Layout.Layout, Layout.IsValueOf, Wired.Wired}
use Rattle.zk_records.specs.Records.{multi_header, create_ask, delete_ask, set_data_ask, check_ask}
use Rattle.zk_records.specs.{declared.header.MultiHeader.MultiHeader, declared.op.PartOp.PartOp, Codes.part_number}
use Rattle.zk_records.specs.declared.op.PartOp.TheVariants as parts
use Rattle.zk_asks.specs.{declared.frame.PartOf.PartOf, Held.Part}
use Rattle.zk_asks.specs.declared.frame.PartOf.TheVariants as part

-- what a part's record is, and the part that it makes
pub record PartRow : Type 1 where
  pub Content : Type 0
  pub make : Content → Part
  pub wired : Wired Content

abbrev row : {X : Type 0} → (X → Part) → Wired X → PartRow
row {X} make w = record { Content = X; make = make; wired = w }

abbrev pub part_row : PartOp → PartRow
part_row parts.Create = row part.Create create_ask
part_row parts.Delete = row part.Delete delete_ask
part_row parts.SetData = row part.SetData set_data_ask
part_row parts.Check = row part.Check check_ask

-- a part's operation
abbrev pub op_of_part : {T B A : Type 0} → PartOf T B A → PartOp
op_of_part (part.Create body) = parts.Create
op_of_part (part.Delete body) = parts.Delete
op_of_part (part.SetData body) = parts.SetData
op_of_part (part.Check body) = parts.Check

-- the items of a part's record
abbrev pub record_of : Part → List Item
record_of (part.Create body) = create_ask.items body
record_of (part.Delete body) = delete_ask.items body
record_of (part.SetData body) = set_data_ask.items body
record_of (part.Check body) = check_ask.items body

abbrev pub part_layout : PartOp → Layout
part_layout op = (part_row op).wired.layout

-- the header before a part, and the one after the last part
abbrev pub part_header : PartOp → MultiHeader
part_header op = record { kind = part_number op; done = false; err = negsuc 0 }

abbrev pub end_header : MultiHeader
end_header = record { kind = negsuc 0; done = true; err = negsuc 0 }

-- the headers that a request may have
abbrev pub MayStand : MultiHeader → Type 0
MayStand header = ((op : PartOp) × (header ≡ part_header op)) ⊎ (header ≡ end_header)

abbrev pub marked : MultiHeader → List Item
marked header = multi_header.items header

-- the items of the header before a part
abbrev pub before_part : PartOp → List Item
before_part op = marked (part_header op)

pub data IsMulti : List Item → Type 0 where
  no_more : IsMulti (marked end_header)
  a_part : (op : PartOp) (part others : List Item) → IsValueOf (part_layout op) part → IsMulti others → IsMulti (marked (part_header op) ++ (part ++ others))

abbrev pub part_items : Part → List Item
part_items p = marked (part_header (op_of_part p)) ++ record_of p

-- values, and the end marker after them
abbrev pub ended : {X : Type 0} → (X → List Item) → List X → List Item
ended items xs = flat_map items xs ++ marked end_header

abbrev pub multi_items : List Part → List Item
multi_items = ended part_items
