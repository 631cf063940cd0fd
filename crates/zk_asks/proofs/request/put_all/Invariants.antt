use Rattle.std.proofs.Common.{◌≡◌, ◌++◌, map, length}
use Rattle.zk_asks.specs.Parts.{op_of_part}
use Rattle.zk_asks.proofs.request.put_all.Given as goal

abbrev pub invariant-loop-op : goal.invariant-loop-op
invariant-loop-op g l = record {
  ops : g.R.Room.ops l.room ++ map op_of_part l.items ≡ g.R.Room.ops l.initial.room ++ map op_of_part l.initial.items;
  room : g.R.Room.room l.room ≡ g.R.Room.room l.initial.room;
  kept : g.R.Room.kept l.room ≡ g.R.Room.kept l.initial.room;
}

abbrev pub decreases-loop-op : goal.decreases-loop-op
decreases-loop-op g l = length l.items
