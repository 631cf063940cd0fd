use Rattle.zk_jute.specs.Layout.{IsValueOf}
use Rattle.zk_earliest.specs.Earliest.{Spells}
use Rattle.zk_earliest.proofs.Spelled.{earliest_stops}
use Rattle.zk_earliest.proofs.first_impossible.longest.Goals as goal

pub returns-in-Err : goal.returns-in-Err
returns-in-Err g c = earliest_stops (Spells (IsValueOf g.T.Ends.wired.layout)) c.args.bytes.now c.in-Err.stuck c.in-Err.ensures
