use Rattle.std.proofs.Common.{arith}
use Rattle.zk_asks.proofs.Ends.{body_there, body_refused}
use Rattle.zk_asks.proofs.judge.record_end.Goals as goal

pub returns-in-Ok-clause-found : goal.returns-in-Ok-clause-found
returns-in-Ok-clause-found g c = body_there c.args.payload.now c.args.place c.args.op _ c.requires.record (λ i. omega (arith, c.type_inv.payload i)) c.in-Ok.end c.in-Ok.ensures.found

pub returns-in-Err-clause-fault : goal.returns-in-Err-clause-fault
returns-in-Err-clause-fault g c = body_refused c.args.payload.now c.args.place c.args.op _ c.requires.record g.V.Verdict.tells c.in-Err.verdict c.in-Err.ensures.fault
