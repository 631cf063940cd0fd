use Rattle.std.proofs.lemmas.Result.{err_from_is_err_and}
use Rattle.zk_asks.proofs.borrow.first_in.Goals as goal

pub returns-in_err-hello-clause-fault : goal.returns-in_err-hello-clause-fault
returns-in_err-hello-clause-fault c =
    let p = err_from_is_err_and c.from_residual.result c.from_residual.ensures.1 in
    rw (p.1, p.2) c.in_err-hello.ensures.fault
