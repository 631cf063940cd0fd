use Rattle.std.proofs.Common.{arith}
use Rattle.zk_jute.proofs.Followed.{shifted}
use Rattle.zk_jute.proofs.utf8.three_back.Goals as goal

pub returns : goal.returns
returns c i h = shifted c.args.block 13 i i c.fits-block.0 (omega arith) h (omega arith)
