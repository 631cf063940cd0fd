use Rattle.zk_jute.proofs.Lookups.{zero_of_mask}
use Rattle.zk_jute.proofs.utf8.is_zero.Goals as goal

pub returns : goal.returns
returns c = zero_of_mask c.args.block c.fits-block.0
