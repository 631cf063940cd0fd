use Rattle.std.proofs.Common.{arith}
use Rattle.zk_records.specs.Ordered.{stat_in_order}
use Rattle.zk_records.proofs.Sized.{stat_ends}
use Rattle.zk_records.proofs.stat.StatEnds.find.Goals as goal

pub returns-then-payload-place-ge-SIZE-clause-exact : goal.returns-then-payload-place-ge-SIZE-clause-exact
returns-then-payload-place-ge-SIZE-clause-exact g c = stat_ends c.args.payload.now c.args.place (omega (arith, c.if-payload-place-ge-SIZE.true, c.requires))

pub returns-in-None-clause-exact : goal.returns-in-None-clause-exact
returns-in-None-clause-exact g c = rw stat_in_order c.find.ensures.exact
