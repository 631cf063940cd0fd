use Rattle.zk_jute.proofs.Flagged.{flagged_only}
use Rattle.zk_jute.proofs.payload.read_flagged.Goals as goal

pub returns-clause-only : goal.returns-clause-only
returns-clause-only g c = flagged_only g.T.Ends.wired.layout g.T.Ends.wired.items g.T.Ends.wired.unfolds g.T.Ends.wired.tells_apart c.args.payload.now c.with_flag.result c.with_flag.ensures.found c.with_flag.ensures.fault
