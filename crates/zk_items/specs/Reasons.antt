-- The names of the reasons why a line is refused.
use Rattle.std.specs.Prelude.{List, ℕ, codes}
use Rattle.zk_items.specs.declared.fault.LineReason.{LineReason}
use Rattle.zk_items.specs.declared.fault.LineReason.TheVariants as reasons

abbrev pub reason_name : LineReason → List ℕ
reason_name reasons.Word = codes "Word"
reason_name reasons.Number = codes "Number"
reason_name reasons.Text = codes "Text"
reason_name reasons.Blob = codes "Blob"
reason_name reasons.Name = codes "Name"
reason_name reasons.Rest = codes "Rest"
reason_name reasons.NoMemory = codes "NoMemory"
reason_name reasons.Ending = codes "Ending"
