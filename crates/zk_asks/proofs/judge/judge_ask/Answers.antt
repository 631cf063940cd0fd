use Rattle.std.proofs.Common.{arith}
use Rattle.std.specs.Int.{w32}
use Rattle.std.proofs.{lemmas.Int.to_z-of_z, lemmas.Result.err_from_is_err_and}
use Rattle.zk_jute.proofs.Judged.{says_more, says_one}
use Rattle.zk_asks.proofs.Ends.{fault_behind, rest_behind, all_there}
use Rattle.zk_asks.proofs.judge.judge_ask.Goals as goal

pub returns-in_err-parts-clause-fault : goal.returns-in_err-parts-clause-fault
returns-in_err-parts-clause-fault g c =
    let p = err_from_is_err_and c.from_residual-in_err-parts.result c.from_residual-in_err-parts.ensures.1 in
    let h = c.in_ok-xid in
    rw (p.1, p.2) (says_more g.V.Verdict.tells _ _ (fault_behind c.args.profile h.xid h.op c.args.payload.now h.place h.ensures.found) c.in_err-parts.field-0.0 c.in_err-parts.ensures.fault)

pub returns-then-end-payload-clause-fault : goal.returns-then-end-payload-clause-fault
returns-then-end-payload-clause-fault g c =
    let h = c.in_ok-xid in
    let b = c.in_ok-parts in
    says_one g.V.Verdict.tells _ _ (rest_behind c.args.profile h.xid h.op c.args.payload.now h.place h.ensures.found b.parts b.end b.ensures.found c.if-end-payload.true) c.at.result c.at.ensures

pub returns-clause-found : goal.returns-clause-found
returns-clause-found g c =
    let h = c.in_ok-xid in
    let b = c.in_ok-parts in
    rw (to_z-of_z w32 h.xid h.ensures.found.2.0) (all_there c.args.profile h.xid h.op c.args.payload.now h.place h.ensures.found b.parts b.end b.ensures.found (omega (arith, c.if-end-payload.false)))
