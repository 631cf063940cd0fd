use Rattle.zk_fields.proofs.Rooms.{goes_on, takes_nothing}
use Rattle.zk_fields.proofs.list.show_all.Goals as goal

pub loop-item-preserved : goal.loop-item-preserved
loop-item-preserved g c =
    let left = g.I.Left.left in
    record {
      onwards = λ next new p. c.loop-item.invariant.onwards next new
          (goes_on (g.I.One.Show.entries c.args.name) c.loop-item.at c.show-at.result next c.loop-item.room c.show-at.new.room new (left c.loop-item.items) (left c.take.new.self) c.in-Some.item c.in-Some.ensures c.show-at.ensures p);
    }

pub returns : goal.returns
returns g c = c.loop-item.invariant.onwards c.loop-item.at c.loop-item.room (rw c.in_default.ensures.0 (takes_nothing c.loop-item.at c.loop-item.room))
