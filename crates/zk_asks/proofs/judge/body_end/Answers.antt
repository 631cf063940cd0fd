use Rattle.std.proofs.Common.{inl, inr, ap, arith}
use Rattle.zk_jute.specs.Layout.{End}
use Rattle.zk_asks.specs.Rows.{body_of}
use Rattle.zk_asks.proofs.Ends.{body_there, nothing_there, multi_there, multi_refused}
use Rattle.zk_asks.proofs.judge.body_end.Goals as goal

pub returns-in-Ping-clause-found : goal.returns-in-Ping-clause-found
returns-in-Ping-clause-found g c =
    body_there c.args.payload.now c.args.place c.args.op End (elim c.in-Ping.is [ inl e ↦ ap body_of e | inr e ↦ ap body_of e ]) (λ i. omega (arith, c.type_inv.payload i)) c.args.place (nothing_there c.args.payload.now c.args.place)

pub returns-in-Multi-clause-found : goal.returns-in-Multi-clause-found
returns-in-Multi-clause-found g c = multi_there c.args.payload.now c.args.place c.args.op c.in-Multi.is c.multi_end.result c.multi_end.ensures.found

pub returns-in-Multi-clause-fault : goal.returns-in-Multi-clause-fault
returns-in-Multi-clause-fault g c = multi_refused g.V.Verdict.tells c.args.payload.now c.args.place c.args.op c.in-Multi.is c.multi_end.result c.multi_end.ensures.fault
