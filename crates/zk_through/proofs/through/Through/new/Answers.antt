use Rattle.zk_through.proofs.Steps.{runs_start}
use Rattle.zk_through.proofs.through.Through.new.Goals as goal

pub returns-clause-runs : goal.returns-clause-runs
returns-clause-runs c = rw c.in_ok-turns.ensures (runs_start c.in_ok-talk.talk c.in_ok-client.client c.in_ok-server.server c.in_ok-talk.ensures.stands _ _ _ c.in_ok-client.ensures c.in_ok-server.ensures)
