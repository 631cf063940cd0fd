use Rattle.zk_asks.specs.Parts.{ended}
use Rattle.std.proofs.Common.{◌≤◌, length, ◌-◌}
use Rattle.zk_jute.specs.{Shown.Stretch, Standing.OneStands}
use Rattle.zk_asks.proofs.multi.known_multi.Given as goal

abbrev pub invariant-loop-place : goal.invariant-loop-place
invariant-loop-place g l = record {
  within : l.at ≤ length l.payload;
  left : OneStands (ended g.M.Member.items) l.payload l.at;
  few : l.count ≤ l.at;
  passed : Stretch g.M.Member.items l.payload l.place l.at l.count;
}

abbrev pub decreases-loop-place : goal.decreases-loop-place
decreases-loop-place g l = length l.payload - l.at
