use Rattle.std.proofs.Common.{Ok, refl, arith}
use Rattle.zk_jute.proofs.{Known.value_known, Theorems.found}
use Rattle.zk_jute.proofs.read_at.read_ref.Goals as goal

pub view-requires : goal.view-requires
view-requires g c κs = ((refl, tt), (c.requires, value_known g.T.Ends.wired.layout c.args.src.now c.args.place c.in_ok-end.field-0 c.requires c.in_ok-end.ensures.found))

pub returns-clause-found : goal.returns-clause-found
returns-clause-found g c =
    let w = g.T.Ends.wired in
    found w.layout w.items c.args.src.now c.args.place (λ i. omega (arith, c.type_inv.src i)) c.requires (Ok c.view.result) c.view.ensures.exact
