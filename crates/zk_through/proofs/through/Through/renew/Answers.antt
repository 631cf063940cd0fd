use Rattle.zk_through.proofs.Steps.{runs_start}
use Rattle.zk_through.proofs.through.Through.renew.Goals as goal

pub returns-clause-runs : goal.returns-clause-runs
returns-clause-runs c = rw c.renew-4.ensures (runs_start c.renew.new.self c.renew-2.new.self c.renew-3.new.self c.renew.ensures.stands _ _ _ c.renew-2.ensures c.renew-3.ensures)
