use Rattle.zk_jute.proofs.Lookups.{looked_up_lanes}
use Rattle.zk_jute.proofs.utf8.classes.Goals as goal

pub returns-clause-len : goal.returns-clause-len
returns-clause-len c = (looked_up_lanes c.args.first c.args.second _ _ _ c.fits-first c.fits-second c.by_first_high.ensures c.by_first_low.ensures c.by_second_high.ensures).0

pub returns-clause-lanes : goal.returns-clause-lanes
returns-clause-lanes c = (looked_up_lanes c.args.first c.args.second _ _ _ c.fits-first c.fits-second c.by_first_high.ensures c.by_first_low.ensures c.by_second_high.ensures).1
