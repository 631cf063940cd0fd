use Rattle.std.proofs.Common.{sym, subst, arith, take-add}
use Rattle.std.specs.Str.{IsAscii}
use Rattle.simdutf8.proofs.StepsLemmas.{IsAscii-append}
use Rattle.zk_jute.proofs.Low.{low_ends}
use Rattle.zk_jute.proofs.ascii.is_plain.Goals as goal

pub loop-at-preserved : goal.loop-at-preserved
loop-at-preserved c = (omega arith, subst IsAscii (sym (take-add c.loop-at.at 16 c.args.bytes.now)) (IsAscii-append _ _ c.loop-at.invariant.1 (c.is_low.ensures c.if-not-is_low.false)))

pub returns : goal.returns
returns c = λ t. low_ends c.args.bytes.now c.loop-at.at 16 c.loop-at.invariant.1 (c.is_low-2.ensures t) (omega arith) (omega arith)
