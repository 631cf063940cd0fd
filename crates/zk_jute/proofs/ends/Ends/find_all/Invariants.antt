use Rattle.std.proofs.Common.{◌≤◌, length}
use Rattle.zk_jute.specs.Reading.{items_at, times_at}
use Rattle.zk_jute.proofs.Loops.{IsScanning}
use Rattle.zk_jute.proofs.ends.Ends.find_all.Given as goal

abbrev pub invariant-loop : goal.invariant-loop
invariant-loop g l =
    let at = items_at g.Self.Ends.wired.layout l.payload in
    record { within : l.at ≤ length l.payload; so_far : IsScanning at l.count l.counter l.at (times_at at l.count l.place) }
