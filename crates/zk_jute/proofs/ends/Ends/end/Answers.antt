use Rattle.std.proofs.Common.{arith}
use Rattle.zk_jute.proofs.Judged.{judged_found, judged_fault}
use Rattle.zk_jute.proofs.ends.Ends.end.Goals as goal

pub returns-clause-found : goal.returns-clause-found
returns-clause-found g c =
    judged_found g.V.Verdict.tells g.Self.Ends.wired.layout c.args.payload.now c.args.place (λ i. omega (arith, c.type_inv.payload i)) c.requires c.find.result c.find.ensures.exact

pub returns-clause-fault : goal.returns-clause-fault
returns-clause-fault g c =
    judged_fault g.V.Verdict.tells g.Self.Ends.wired.layout c.args.payload.now c.args.place (λ i. omega (arith, c.type_inv.payload i)) c.requires c.find.result c.find.ensures.exact
