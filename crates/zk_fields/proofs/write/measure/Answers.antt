use Rattle.std.proofs.Common.{arith, length, ◌<◌}
use Rattle.zk_fields.specs.Written.{pairs}
use Rattle.zk_fields.proofs.Saying.{no_field, pairs_length, wrong, long, next, measured}
use Rattle.zk_fields.proofs.write.measure.Goals as goal

pub returns-in_default : goal.returns-in_default
returns-in_default c =
    let l = c.loop-index in
    let fields = c.args.fields.now in
    let within : l.index < length (pairs fields) = omega (arith, c.loop-index-test.true, pairs_length fields) in
    wrong c.args.heads c.args.content.now (pairs fields) l.index c.args.start l.size within l.invariant.so_far (c.in_default.ensures no_field)

pub returns-then-more : goal.returns-then-more
returns-then-more c =
    let l = c.loop-index in
    let fields = c.args.fields.now in
    let within : l.index < length (pairs fields) = omega (arith, c.loop-index-test.true, pairs_length fields) in
    long c.args.heads c.args.content.now (pairs fields) l.index c.args.start l.size within l.invariant.so_far c.in-Some.value (c.in-Some.ensures no_field) (omega (arith, c.if-more.true, c.saturating_add-more.ensures, c.size.ensures))

pub loop-index-preserved : goal.loop-index-preserved
loop-index-preserved c =
    let l = c.loop-index in
    let fields = c.args.fields.now in
    let within : l.index < length (pairs fields) = omega (arith, c.loop-index-test.true, pairs_length fields) in
    record {
      so_far = next c.args.heads c.args.content.now (pairs fields) l.index c.args.start l.size within l.invariant.so_far c.in-Some.value c.saturating_add-more.result (c.in-Some.ensures no_field)
          (omega (arith, c.if-more.false, c.saturating_add-more.ensures, c.size.ensures)) (omega (arith, c.if-more.false));
    }

pub returns : goal.returns
returns c =
    let l = c.loop-index in
    let fields = c.args.fields.now in
    measured c.args.heads c.args.content.now (pairs fields) l.index c.args.start l.size (omega (arith, c.loop-index-test.false, pairs_length fields)) l.invariant.so_far
