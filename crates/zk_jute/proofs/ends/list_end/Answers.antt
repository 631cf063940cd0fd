use Rattle.std.proofs.Common.{ℕ, Ok, ap, ◌∙◌}
use Rattle.std.specs.Prelude.{Option}
use Rattle.std.proofs.lemmas.Result.{err_from_is_err_and}
use Rattle.zk_jute.proofs.Judged.{count_refused, null_judged, list_judged}
use Rattle.zk_jute.proofs.ends.list_end.Goals as goal

pub returns-in_err-count-clause-exact : goal.returns-in_err-count-clause-exact
returns-in_err-count-clause-exact g c =
    let p = err_from_is_err_and c.from_residual.result c.from_residual.ensures.1 in
    rw (p.1, p.2) (count_refused g.V.Verdict.tells g.T.Ends.wired.layout c.args.payload.now c.args.place 0 c.size_at.result c.size_at.ensures.exact c.in_err-count.field-0.0 c.in_err-count.ensures)

pub returns-in-None-clause-exact : goal.returns-in-None-clause-exact
returns-in-None-clause-exact g c =
    let start = c.in_ok-count.start in
    let told = rw (c.in_ok-count.ensures) at c.size_at.ensures.exact in
    null_judged g.V.Verdict.tells g.T.Ends.wired.layout c.args.payload.now c.args.place start (told ∙ ap (λ (n : Option ℕ). Ok (n, start)) c.in-None.is)

pub returns-in-Some-clause-exact : goal.returns-in-Some-clause-exact
returns-in-Some-clause-exact g c =
    let start = c.in_ok-count.start in
    let told = rw (c.in_ok-count.ensures) at c.size_at.ensures.exact in
    list_judged g.V.Verdict.tells g.T.Ends.wired.layout c.args.payload.now c.args.place start c.in-Some.count (told ∙ ap (λ (n : Option ℕ). Ok (n, start)) c.in-Some.is) c.find_all.result c.find_all.ensures.exact
