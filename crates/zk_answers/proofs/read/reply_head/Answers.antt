use Rattle.std.proofs.Common.{arith}
use Rattle.std.specs.Int.{w32, w64}
use Rattle.std.proofs.{lemmas.Int.to_z-of_z, lemmas.Result.err_from_is_err_and}
use Rattle.zk_answers.proofs.Shorts.{no_xid, no_zxid, no_err, whole_head}
use Rattle.zk_answers.proofs.read.reply_head.Goals as goal

pub returns-in_err-xid-clause-fault : goal.returns-in_err-xid-clause-fault
returns-in_err-xid-clause-fault c =
    let p = err_from_is_err_and c.from_residual.result c.from_residual.ensures.1 in
    rw (p.1, p.2) (no_xid c.args.payload.now (λ i. omega (arith, c.type_inv.payload i)) c.in_err-xid.field-0.0 c.in_err-xid.ensures.exact)

pub returns-in_err-zxid-clause-fault : goal.returns-in_err-zxid-clause-fault
returns-in_err-zxid-clause-fault c =
    let p = err_from_is_err_and c.from_residual-in_err-zxid.result c.from_residual-in_err-zxid.ensures.1 in
    let x = c.in_ok-xid in
    rw (p.1, p.2) (no_zxid c.args.payload.now (λ i. omega (arith, c.type_inv.payload i)) x.xid x.place x.ensures.exact c.in_err-zxid.field-0.0 c.in_err-zxid.ensures.exact)

pub returns-in_err-err-clause-fault : goal.returns-in_err-err-clause-fault
returns-in_err-err-clause-fault c =
    let p = err_from_is_err_and c.from_residual-in_err-err.result c.from_residual-in_err-err.ensures.1 in
    let x = c.in_ok-xid in
    let z = c.in_ok-zxid in
    rw (p.1, p.2) (no_err c.args.payload.now (λ i. omega (arith, c.type_inv.payload i)) x.xid x.place x.ensures.exact z.zxid z.place z.ensures.exact c.in_err-err.field-0.0 c.in_err-err.ensures.exact)

pub returns-clause-found : goal.returns-clause-found
returns-clause-found c =
    let x = c.in_ok-xid in
    let z = c.in_ok-zxid in
    let e = c.in_ok-err in
    let h = whole_head c.args.payload.now (λ i. omega (arith, c.type_inv.payload i)) x.xid x.place x.ensures.exact z.zxid z.place z.ensures.exact e.err e.field-0-1 e.ensures.exact in
    let f = h.1.0 in
    simp (to_z-of_z w32 x.xid f.0, to_z-of_z w64 z.zxid f.1.0, to_z-of_z w32 e.err f.1.1.0) h
