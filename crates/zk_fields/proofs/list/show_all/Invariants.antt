use Rattle.std.proofs.Common.{List, length}
use Rattle.std.specs.List.{flat_map}
use Rattle.zk_fields.specs.{declared.field.Field.Field, declared.field.At.At, Room.Takes}
use Rattle.zk_fields.proofs.list.show_all.Given as goal

abbrev pub invariant-loop-item : goal.invariant-loop-item
invariant-loop-item g l =
    let f = g.I.One.Show.entries l.name in
    record {
      onwards : (c : At) (t : List Field) → Takes l.at l.room (flat_map f (g.I.Left.left l.items)) c t → Takes l.fn.at l.fn.room (flat_map f (g.I.Left.left l.fn.items)) c t;
    }

abbrev pub decreases-loop-item : goal.decreases-loop-item
decreases-loop-item g l = length (g.I.Left.left l.items)
