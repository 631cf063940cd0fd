use Rattle.std.proofs.Common.{◌≤◌, length}
use Rattle.zk_jute.specs.Reading.{items_at, times_at}
use Rattle.zk_jute.proofs.Loops.{IsScanning}
use Rattle.zk_jute.proofs.series.elements_end.Given as goal

abbrev pub invariant-loop : goal.invariant-loop
invariant-loop g l =
    let at = items_at g.R.Ends.wired.layout l.src in
    record { within : l.after ≤ length l.src; so_far : IsScanning at l.count l.counter l.after (times_at at l.count l.place) }
