use Rattle.std.proofs.lemmas.Result.{err_from_is_err_and}
use Rattle.zk_jute.specs.Reading.{items_at, times_at}
use Rattle.zk_jute.proofs.{Loops.scanning_goes_on, Judged.elements_refused}
use Rattle.zk_jute.proofs.ends.Ends.find_all.Goals as goal

pub loop-preserved : goal.loop-preserved
loop-preserved g c =
    let at = items_at g.Self.Ends.wired.layout c.args.payload.now in
    let end = c.in_ok-end in
    record {
      within = end.ensures.within;
      so_far = scanning_goes_on at c.args.count c.loop.counter c.loop.at (times_at at c.args.count c.args.place) end.end c.loop-test.true end.ensures.exact c.loop.invariant.so_far;
    }

pub returns-in_err-end-clause-exact : goal.returns-in_err-end-clause-exact
returns-in_err-end-clause-exact g c =
    let at = items_at g.Self.Ends.wired.layout c.args.payload.now in
    let p = err_from_is_err_and c.from_residual.result c.from_residual.ensures.1 in
    rw (p.1, p.2) (elements_refused g.V.Verdict.tells at c.args.count c.loop.counter c.loop.at (times_at at c.args.count c.args.place) c.in_err-end.field-0.0 c.loop-test.true c.in_err-end.ensures.exact c.loop.invariant.so_far)
