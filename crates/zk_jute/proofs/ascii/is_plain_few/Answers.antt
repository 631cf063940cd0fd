use Rattle.std.proofs.Common.{arith}
use Rattle.zk_jute.proofs.Low.{low_ends}
use Rattle.zk_jute.proofs.ascii.is_plain_few.Goals as goal

pub returns-then-is_low_8 : goal.returns-then-is_low_8
returns-then-is_low_8 c = λ t. low_ends c.args.bytes.now 8 8 (c.is_low_8.ensures c.if-is_low_8.true) (c.is_low_8-then-is_low_8.ensures t) (omega arith) (omega arith)

pub returns-then-is_low_4 : goal.returns-then-is_low_4
returns-then-is_low_4 c = λ t. low_ends c.args.bytes.now 4 4 (c.is_low_4.ensures c.if-is_low_4.true) (c.is_low_4-then-is_low_4.ensures t) (omega arith) (omega arith)
