use Rattle.std.proofs.Common.{◌≡◌, ◌≤◌, length}
use Rattle.std.specs.List.{flat_map}
use Rattle.zk_jute.specs.Reading.{items_at, times_at}
use Rattle.zk_jute.proofs.Loops.{IsReading}
use Rattle.zk_jute.proofs.list.copied_elements.Given as goal

abbrev pub invariant-loop : goal.invariant-loop
invariant-loop g l =
    let at = items_at g.T.Ends.wired.layout l.src in
    record {
      within : l.after ≤ length l.src;
      count : length l.items.items ≡ l.counter;
      so_far : IsReading at l.count l.counter l.after (flat_map g.T.Ends.wired.items l.items.items) (times_at at l.count l.place);
    }
