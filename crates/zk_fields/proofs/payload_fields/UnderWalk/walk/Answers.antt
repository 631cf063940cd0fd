use Rattle.zk_fields.specs.Walks.{header_at}
use Rattle.zk_fields.proofs.Walking.{head_there, head_fails, none_under, walks_under}
use Rattle.zk_fields.proofs.payload_fields.UnderWalk.walk.Goals as goal

pub returns-in-Some-clause-walks : goal.returns-in-Some-clause-walks
returns-in-Some-clause-walks g c =
    head_there g.M.Multi.headed c.args.payload.now _ _ _ (header_at c.args.payload.now c.args.place) c.in-Ok.header c.in-Ok.place c.headed.result _ c.in-Ok.ensures.exact c.headed.ensures
    (walks_under c.args.at c.show_head-at.result c.args.room.now c.show_head-at.new.room c.walk_as.new.room c.in-Ok.header c.headed.result c.in-Some.headed c.args.payload.now c.in-Ok.place c.walk_as.result c.in-Some.is c.show_head-at.ensures c.walk_as.ensures.walks)

pub returns-in-None-clause-walks : goal.returns-in-None-clause-walks
returns-in-None-clause-walks g c =
    head_there g.M.Multi.headed c.args.payload.now _ _ _ (header_at c.args.payload.now c.args.place) c.in-Ok.header c.in-Ok.place c.headed.result _ c.in-Ok.ensures.exact c.headed.ensures
    (none_under c.args.at c.args.room.now c.in-Ok.header c.headed.result c.args.payload.now c.in-Ok.place c.in-None.is)

pub returns-in-Err-clause-walks : goal.returns-in-Err-clause-walks
returns-in-Err-clause-walks g c = head_fails g.M.Multi.headed c.args.payload.now c.args.at c.args.room.now c.in-Err._fault (header_at c.args.payload.now c.args.place) c.in-Err.ensures.exact
