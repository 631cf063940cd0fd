-- The names of reasons.
use Rattle.std.specs.Prelude.{ℕ, List, codes}
use Rattle.zk_jute.specs.declared.fault.Reason.{Reason}
use Rattle.zk_jute.specs.declared.fault.Reason.TheVariants as reasons

abbrev pub reason_name : Reason → List ℕ
reason_name reasons.Short = codes "Short"
reason_name reasons.BadBool = codes "BadBool"
reason_name reasons.BadLength = codes "BadLength"
reason_name reasons.BadText = codes "BadText"
reason_name reasons.NoMemory = codes "NoMemory"
reason_name reasons.Trailing = codes "Trailing"
reason_name reasons.UnknownOp = codes "UnknownOp"
reason_name reasons.XidOp = codes "XidOp"
reason_name reasons.BadPart = codes "BadPart"
reason_name reasons.EventErr = codes "EventErr"
reason_name reasons.LengthRange = codes "LengthRange"
reason_name reasons.QueueFull = codes "QueueFull"
reason_name reasons.Unasked = codes "Unasked"
reason_name (reasons.XidOrder expected got) = codes "XidOrder"
reason_name reasons.StreamEnd = codes "StreamEnd"
