use Rattle.zk_jute.specs.Wired.{ustring}
use Rattle.zk_jute.proofs.Judged.{stretch_read}
use Rattle.zk_jute.proofs.ends.TextRefEnds.find_all.Goals as goal

pub returns-in-Some-clause-exact : goal.returns-in-Some-clause-exact
returns-in-Some-clause-exact g c =
    stretch_read ustring c.args.payload.now c.args.place c.in-Some.end c.args.count c.requires c.in-Some.ensures.some
