use Rattle.std.proofs.Common.{Ok, refl, arith}
use Rattle.zk_jute.proofs.{Known.stands_read, Theorems.read_as}
use Rattle.zk_jute.proofs.read_at.known_at.Goals as goal

pub view-requires : goal.view-requires
view-requires g c κs = ((refl, tt), (c.requires.place, stands_read g.T.Ends.wired c.args.src.now c.args.place c.requires.place c.requires.stands))

pub returns : goal.returns
returns g c =
    let w = g.T.Ends.wired in
    read_as w.layout w.items c.args.src.now c.args.place (λ i. omega (arith, c.type_inv.src i)) c.requires.place w.unfolds w.tells_apart (Ok c.view.result) c.view.ensures.exact
