use Rattle.zk_jute.specs.Reading.{items_at}
use Rattle.zk_fields.proofs.Walking.{item_there, item_fails}
use Rattle.zk_fields.proofs.walk.ColumnWalk.walk.Goals as goal

pub returns-in-Ok-clause-walks : goal.returns-in-Ok-clause-walks
returns-in-Ok-clause-walks g c =
    let w = g.T.Ends.wired in
    let item = c.view-item in
    item_there _ c.args.at c.show.result c.args.room.now c.show.new.room (items_at w.layout c.args.payload.now c.args.place) (w.items item.result.0) _ item.result.1 item.ensures.exact (g.met.T.Item.alone _ item.result.0) c.show.ensures

pub returns-in-Err-clause-walks : goal.returns-in-Err-clause-walks
returns-in-Err-clause-walks g c = item_fails _ c.args.at c.args.room.now c.in-Err._fault (items_at g.T.Ends.wired.layout c.args.payload.now c.args.place) c.in-Err.ensures.exact
