use Rattle.std.proofs.Common.{◌≤◌, length}
use Rattle.zk_jute.specs.Ends.{TextsIfUtf8}
use Rattle.zk_jute.proofs.ends.texts_end.Given as goal

abbrev pub invariant-loop : goal.invariant-loop
invariant-loop l = record { before : l.from ≤ l.at; within : l.at ≤ length l.payload; so_far : TextsIfUtf8 l.payload l.from l.place l.at l.counter }
