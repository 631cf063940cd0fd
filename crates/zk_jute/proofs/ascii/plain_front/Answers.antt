use Rattle.std.proofs.Common.{length, sym, subst, arith, take-add}
use Rattle.std.specs.Str.{IsAscii}
use Rattle.std.proofs.lemmas.List.{take_all}
use Rattle.simdutf8.proofs.StepsLemmas.{IsAscii-append}
use Rattle.zk_jute.proofs.Low.{low_ends}
use Rattle.zk_jute.proofs.ascii.plain_front.Goals as goal

pub loop-at-preserved : goal.loop-at-preserved
loop-at-preserved c = (omega arith, subst IsAscii (sym (take-add c.loop-at.at 64 c.args.bytes.now)) (IsAscii-append _ _ c.loop-at.invariant.1 (c.is_low_64.ensures c.if-not-is_low_64.false)))

pub returns-then-is_low_64 : goal.returns-then-is_low_64
returns-then-is_low_64 c =
    let bytes = c.args.bytes.now in
    let low = low_ends bytes c.loop-at.at 64 c.loop-at.invariant.1 (c.is_low_64-then-bytes-ge64.ensures c.if-is_low_64.true) (omega arith) (omega arith) in
    (omega arith, subst IsAscii (sym (take_all (length bytes) bytes (omega arith))) low)
