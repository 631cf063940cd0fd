-- Borrowed parts, as values of their payload's bytes.
use Rattle.std.specs.Prelude.{ℕ, ◌+◌, ℤ, List, [], ◌∷◌, Option, Some, None}
use Rattle.std.specs.{Map.lookup, Ordering.int_eq}
use Rattle.zk_jute.specs.{declared.fault.Reason.TheVariants.BadPart, Shown.text_value, Shown.blob_value, Shown.list_value, Shown.both_at}
use Rattle.zk_jute.specs.Reading.{Read, fault, ◌>>=◌, read_map, int_at}
use Rattle.zk_records.specs.{Held.CreateAsk, Held.DeleteAsk, Held.SetDataAsk, Held.CheckAsk, Shown.acl_value, Codes.part_number, declared.op.PartOp.PartOp}
use Rattle.zk_records.specs.Made as made
use Rattle.zk_records.specs.declared.op.PartOp.TheVariants as parts
use Rattle.zk_asks.specs.Held.{Part}
use Rattle.zk_asks.specs.declared.frame.PartOf.TheVariants as part

-- ---- the records

abbrev pub create_value : List ℕ → ℕ → Read CreateAsk
create_value src place = read_map made.create_ask (both_at (text_value src) (both_at (blob_value src) (both_at (list_value acl_value src) (int_at src))) place)

abbrev pub delete_value : List ℕ → ℕ → Read DeleteAsk
delete_value src place = read_map made.delete_ask (both_at (text_value src) (int_at src) place)

abbrev pub set_data_value : List ℕ → ℕ → Read SetDataAsk
set_data_value src place = read_map made.set_data_ask (both_at (text_value src) (both_at (blob_value src) (int_at src)) place)

abbrev pub check_value : List ℕ → ℕ → Read CheckAsk
check_value src place = read_map made.check_ask (both_at (text_value src) (int_at src) place)

-- ---- the parts

-- the operation whose number it is
abbrev pub part_numbered : ℤ → Option PartOp
part_numbered number = lookup (int_eq number) (
    (part_number parts.Create, parts.Create) ∷
    (part_number parts.Delete, parts.Delete) ∷
    (part_number parts.SetData, parts.SetData) ∷
    (part_number parts.Check, parts.Check) ∷
    [])

abbrev pub record_value : Option PartOp → List ℕ → ℕ → Read Part
record_value None src place = fault place BadPart
record_value (Some parts.Create) src place = read_map part.Create (create_value src place)
record_value (Some parts.Delete) src place = read_map part.Delete (delete_value src place)
record_value (Some parts.SetData) src place = read_map part.SetData (set_data_value src place)
record_value (Some parts.Check) src place = read_map part.Check (check_value src place)

-- the part at a place, after the nine bytes of its header
abbrev pub part_value : List ℕ → ℕ → Read Part
part_value src place = int_at src place >>= λ kind. record_value (part_numbered kind.0) src (place + 9)
