use Rattle.std.proofs.Common.{◌≡◌, ◌++◌, take}
use Rattle.zk_asks.proofs.asked.Asked.put_ops.Given as goal

abbrev pub invariant-loop-j : goal.invariant-loop-j
invariant-loop-j g l = record {
  put : g.R.Room.ops l.room ≡ g.R.Room.ops l.initial.room ++ take l.j (g.Self.Asked.part_ops l.self);
  room : g.R.Room.room l.room ≡ g.R.Room.room l.initial.room;
  kept : g.R.Room.kept l.room ≡ g.R.Room.kept l.initial.room;
}
