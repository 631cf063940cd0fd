use Rattle.std.proofs.Common.{arith}
use Rattle.zk_jute.proofs.Low.{low_of_mask}
use Rattle.zk_jute.proofs.ascii.is_low_64.Goals as goal

pub returns : goal.returns
returns c = low_of_mask 64 c.args.block c.fits-block.0 (omega arith)
