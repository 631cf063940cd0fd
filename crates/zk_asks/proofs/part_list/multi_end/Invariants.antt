use Rattle.std.proofs.Common.{◌≤◌, length, ◌-◌}
use Rattle.zk_jute.specs.Shown.{Stretch}
use Rattle.zk_asks.specs.Parts.{part_items}
use Rattle.zk_asks.proofs.part_list.multi_end.Given as goal

abbrev pub invariant-loop-header : goal.invariant-loop-header
invariant-loop-header g l = record { within : l.at ≤ length l.payload; few : l.count ≤ l.at; passed : Stretch part_items l.payload l.place l.at l.count }

abbrev pub decreases-loop-header : goal.decreases-loop-header
decreases-loop-header g l = length l.payload - l.at
