use Rattle.std.proofs.Common.{◌≡◌, ℕ, ◌+◌, ◌-◌, ◌≤◌, length, sym, subst, arith}
use Rattle.std.specs.Prelude.{Option, Some, IfSome}
use Rattle.zk_fields.specs.Walks.{Met, times_met, Walks}
use Rattle.zk_fields.proofs.Walking.{next_times, walks_both, walks_stop, walks_nothing}
use Rattle.zk_fields.proofs.walk.walk_times.Goals as goal

pub loop-preserved : goal.loop-preserved
loop-preserved g c =
    let f = g.T.Walk.met c.args.payload.now in
    record {
      within = subst (λ (o : Option ℕ). IfSome o (λ end. end ≤ length c.args.payload.now)) c.in-Some.is c.walk-walked.ensures.within;
      onwards = λ next new w. c.loop.invariant.onwards next new
          (subst (λ (m : Met). Walks c.loop.at c.loop.room m next new) (sym (next_times f c.args.count c.loop.counter c.loop.place c.loop-test.true))
          (walks_both c.loop.at c.loop.room c.walk-walked.new.room new (f c.loop.place) (times_met f (c.args.count - (c.loop.counter + 1))) c.walk-walked.result next c.in-Some.end c.walk-walked.ensures.walks c.in-Some.is w));
    }

pub returns-in_default-clause-walks : goal.returns-in_default-clause-walks
returns-in_default-clause-walks g c =
    let f = g.T.Walk.met c.args.payload.now in
    c.loop.invariant.onwards c.walk-walked.result c.walk-walked.new.room
    (subst (λ (m : Met). Walks c.loop.at c.loop.room m c.walk-walked.result c.walk-walked.new.room) (sym (next_times f c.args.count c.loop.counter c.loop.place c.loop-test.true))
    (walks_stop c.loop.at c.loop.room c.walk-walked.new.room (f c.loop.place) (times_met f (c.args.count - (c.loop.counter + 1))) c.walk-walked.result c.walk-walked.ensures.walks (cc)))

pub returns-clause-walks : goal.returns-clause-walks
returns-clause-walks g c =
    let f = g.T.Walk.met c.args.payload.now in
    let done : c.args.count - c.loop.counter ≡ 0 = omega arith in
    c.loop.invariant.onwards (record { at = c.loop.at; end = Some c.loop.place }) c.loop.room (rw done (walks_nothing c.loop.at c.loop.room c.loop.place))
