-- The names of what a message is refused for.
use Rattle.std.specs.Prelude.{ℕ, List, codes}
use Rattle.zk_talk.specs.declared.say.SayFault.{SayFault}
use Rattle.zk_talk.specs.declared.say.SayFault.TheVariants as faults

abbrev pub say_name : SayFault → List ℕ
say_name faults.NotFirst = codes "NotFirst"
say_name faults.Unasked = codes "Unasked"
say_name (faults.XidOrder expected got) = codes "XidOrder"
say_name faults.Misfit = codes "Misfit"
say_name faults.TooLong = codes "TooLong"
say_name faults.QueueFull = codes "QueueFull"
say_name faults.NoMemory = codes "NoMemory"
