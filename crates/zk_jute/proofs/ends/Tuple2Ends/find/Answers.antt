use Rattle.std.proofs.lemmas.Result.{err_from_is_err_and}
use Rattle.zk_jute.proofs.Judged.{first_refused, both_judged}
use Rattle.zk_jute.proofs.ends.Tuple2Ends.find.Goals as goal

pub returns-in_err-middle-clause-exact : goal.returns-in_err-middle-clause-exact
returns-in_err-middle-clause-exact g c =
    let p = err_from_is_err_and c.from_residual.result c.from_residual.ensures.1 in
    rw (p.1, p.2) (first_refused g.V.Verdict.tells g.A.Ends.wired.layout g.B.Ends.wired.layout c.args.payload.now c.args.place c.in_err-middle.field-0.0 c.in_err-middle.ensures.exact)

pub returns-clause-exact : goal.returns-clause-exact
returns-clause-exact g c =
    both_judged g.V.Verdict.tells g.A.Ends.wired.layout g.B.Ends.wired.layout c.args.payload.now c.args.place c.in_ok-middle.middle c.in_ok-middle.ensures.exact c.find-2.result c.find-2.ensures.exact
