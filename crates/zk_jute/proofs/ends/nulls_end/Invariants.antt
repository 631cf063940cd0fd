use Rattle.std.proofs.Common.{◌≤◌, length}
use Rattle.zk_jute.specs.{Shown.Stretch, Values.text_items}
use Rattle.zk_jute.proofs.ends.nulls_end.Given as goal

abbrev pub invariant-loop-passed : goal.invariant-loop-passed
invariant-loop-passed l = record { within : l.at ≤ length l.payload; so_far : Stretch text_items l.payload l.place l.at l.passed }
