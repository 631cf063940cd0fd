use Rattle.std.proofs.Common.{arith, [], false, true, refl, length-take}
use Rattle.std.proofs.lemmas.Result.{IfOk-weaker, on_err_weaker}
use Rattle.zk_listings.proofs.{Exits.on-err, Bytes.Appends-none, Bytes.Consumes-none, Bytes.Consumes-then, Bytes.Consumes-kept}
use Rattle.zk_runs.proofs.Answered.{begun-head, built-so_far, begun-so_far, built-at_end, begun-at_end, built-answer, begun-answer}
use Rattle.zk_runs.proofs.Turns.{left-in-turn, left-after-turns, next-turn, read-none}
use Rattle.zk_runs.proofs.build_lines.build_run.Goals as goal

pub returns-in_err-builder-clause-begun : goal.returns-in_err-builder-clause-begun
returns-in_err-builder-clause-begun g c =
    on-err c.from_residual.result (begun-head c.args.limits _ _ _ (0, Appends-none _))

pub returns-in_err-write_whole-clause-begun : goal.returns-in_err-write_whole-clause-begun
returns-in_err-write_whole-clause-begun g c =
    on-err c.from_residual-in_err-write_whole.result (begun-head c.args.limits _ _ _ c.in_err-write_whole.ensures.err)

pub loop-turn-init : goal.loop-turn-init
loop-turn-init g c = record {
  turn = record { block = refl; live = c.requires.reader; writer_live = c.in_ok-write_whole.ensures.failed; count = omega arith };
  lines = omega (arith, c.in_ok-builder.ensures.count);
  taken = ([], Consumes-none _, λ before written. c.in_ok-builder.ensures.start before _ written);
}

pub returns-in_default : goal.returns-in_default
returns-in_default g c =
    let i = c.loop-turn.invariant.taken in
    record {
      ok = tt;
      read = λ _. built-so_far c.args.limits _ _ i.0 _ _ (Consumes-kept _ _ _ i.0 i.1 c.in_default.ensures.bytes) _ _ _ _ (i.2 _ c.in_ok-write_whole.ensures.ok);
      begun = begun-so_far c.args.limits _ _ i.0 _ _ (Consumes-kept _ _ _ i.0 i.1 c.in_default.ensures.bytes) _ _ _ _ (i.2 _ c.in_ok-write_whole.ensures.ok);
      devices = left-in-turn _ _ _ _ _ _ c.loop-turn.invariant.turn _ _ (omega (arith, c.loop-turn-test.true)) c.in_default.ensures.failed c.in_default.ensures.counted;
    }

pub returns-then-count-eq0-clause-ok : goal.returns-then-count-eq0-clause-ok
returns-then-count-eq0-clause-ok g c =
    let i = c.loop-turn.invariant.taken in
    let r = c.in-Ok.ensures.bytes in
    IfOk-weaker c.finish.result _ _ (λ built all. built-at_end c.args.limits _ _ i.0 _ _ (read-none _ _ _ i.0 _ i.1 r.0 (rw c.if-count-eq0.true refl))
    (r.1 c.if-count-eq0.true (omega (arith, c.read.auto.buf, c.loop-turn.invariant.turn.block))) built (all c.args.limits i.0 _ (i.2 _ c.in_ok-write_whole.ensures.ok))) c.finish.ensures.built

pub returns-then-count-eq0-clause-begun : goal.returns-then-count-eq0-clause-begun
returns-then-count-eq0-clause-begun g c =
    let i = c.loop-turn.invariant.taken in
    let r = c.in-Ok.ensures.bytes in
    on_err_weaker c.finish.result (λ all. begun-at_end c.args.limits _ _ i.0 _ _ (read-none _ _ _ i.0 _ i.1 r.0 (rw c.if-count-eq0.true refl))
    (r.1 c.if-count-eq0.true (omega (arith, c.read.auto.buf, c.loop-turn.invariant.turn.block))) (all c.args.limits i.0 _ (i.2 _ c.in_ok-write_whole.ensures.ok))) c.finish.ensures.begun

pub returns-in-Err-clause-ok : goal.returns-in-Err-clause-ok
returns-in-Err-clause-ok g c =
    let i = c.loop-turn.invariant.taken in
    rw c.answer.ensures (built-answer c.args.limits _ _ i.0 _ _ i.1 _ _ c.in-Ok.ensures.bytes.0 c.in-Err.halt _ (c.in-Err.ensures.halts c.args.limits i.0 _ (i.2 _ c.in_ok-write_whole.ensures.ok)))

pub returns-in-Err-clause-begun : goal.returns-in-Err-clause-begun
returns-in-Err-clause-begun g c =
    let i = c.loop-turn.invariant.taken in
    rw c.answer.ensures (begun-answer c.args.limits _ _ i.0 _ _ i.1 _ _ c.in-Ok.ensures.bytes.0 c.in-Err.halt _ (c.in-Err.ensures.halts c.args.limits i.0 _ (i.2 _ c.in_ok-write_whole.ensures.ok)))

pub loop-turn-preserved : goal.loop-turn-preserved
loop-turn-preserved g c =
    let i = c.loop-turn.invariant.taken in
    record {
      turn = next-turn _ _ _ _ _ _ c.loop-turn.invariant.turn _ _ _ _ (omega (arith, c.loop-turn-test.true)) c.requires.few c.in-Ok.ensures.failed c.in-Ok.ensures.counted c.read.auto.buf c.in_default-feed.ensures.live;
      lines = omega (arith, c.in_default-feed.ensures.count, c.loop-turn.invariant.lines, c.read.auto.buf, c.loop-turn.invariant.turn.block, length-take c.in-Ok.count c.read.new.buf);
      taken = (_, Consumes-then _ _ _ i.0 _ i.1 c.in-Ok.ensures.bytes.0, λ before written. c.in_default-feed.ensures.goes_on c.args.limits i.0 before (i.2 before written));
    }

pub returns : goal.returns
returns g c =
    let i = c.loop-turn.invariant.taken in
    record {
      ok = tt;
      read = λ _. built-so_far c.args.limits _ _ i.0 _ _ i.1 _ _ _ _ (i.2 _ c.in_ok-write_whole.ensures.ok);
      begun = begun-so_far c.args.limits _ _ i.0 _ _ i.1 _ _ _ _ (i.2 _ c.in_ok-write_whole.ensures.ok);
      devices = left-after-turns _ _ _ _ _ _ c.loop-turn.invariant.turn (omega (arith, c.loop-turn-test.false)) (omega (arith, c.loop-turn.auto._turn-end));
    }
