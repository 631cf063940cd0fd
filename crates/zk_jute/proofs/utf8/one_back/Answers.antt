use Rattle.std.proofs.Common.{suc, arith}
use Rattle.zk_jute.proofs.Followed.{shifted}
use Rattle.zk_jute.proofs.utf8.one_back.Goals as goal

pub returns : goal.returns
returns c i h = shifted c.args.block 15 (suc (suc i)) i c.fits-block.0 (omega arith) h (omega arith)
