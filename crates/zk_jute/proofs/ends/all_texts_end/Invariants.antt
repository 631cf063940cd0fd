use Rattle.std.proofs.Common.{◌≤◌, ◌-◌, length}
use Rattle.zk_jute.specs.{Shown.Stretch, Values.text_items}
use Rattle.zk_jute.proofs.ends.all_texts_end.Given as goal

abbrev pub invariant-loop-left : goal.invariant-loop-left
invariant-loop-left l = record { within : l.at ≤ length l.payload; less : l.left ≤ l.count; so_far : Stretch text_items l.payload l.place l.at (l.count - l.left) }

abbrev pub decreases-loop-left : goal.decreases-loop-left
decreases-loop-left l = l.left
