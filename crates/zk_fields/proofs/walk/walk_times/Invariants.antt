use Rattle.std.proofs.Common.{◌-◌, ◌≤◌, List, length}
use Rattle.zk_fields.specs.{declared.field.Field.Field, declared.walk.Walked.Walked, Walks.times_met, Walks.Walks}
use Rattle.zk_fields.proofs.walk.walk_times.Given as goal

abbrev pub invariant-loop : goal.invariant-loop
invariant-loop g l =
    let f = g.T.Walk.met l.payload in
    record {
      within : l.place ≤ length l.payload;
      onwards : (next : Walked) (new : List Field) → Walks l.at l.room (times_met f (l.count - l.counter) l.place) next new → Walks l.fn.at l.fn.room (times_met f l.count l.fn.place) next new;
    }
