use Rattle.std.proofs.Common.{refl}
use Rattle.zk_jute.proofs.Known.{then_known, then_known_later}
use Rattle.zk_jute.proofs.view.Tuple2View.view.Goals as goal

pub view-first-requires : goal.view-first-requires
view-first-requires g c κs = ((refl, tt), (c.requires.place, then_known g.A.Ends.wired.layout g.B.Ends.wired.layout c.args.src.now c.args.place c.requires.known))

pub view-second-requires : goal.view-second-requires
view-second-requires g c κs =
    let first = c.view-first in
    ((refl, tt), (first.ensures.within, then_known_later g.A.Ends.wired.layout g.B.Ends.wired.layout c.args.src.now c.args.place c.requires.known (g.A.Ends.wired.items first.result.0) first.result.1 first.ensures.exact))
