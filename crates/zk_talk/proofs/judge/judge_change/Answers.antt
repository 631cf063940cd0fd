use Rattle.zk_talk.proofs.Settling.{on_ok}
use Rattle.zk_talk.proofs.judge.judge_change.Goals as goal

pub returns-clause-found : goal.returns-clause-found
returns-clause-found g c = on_ok c.judge_event.result c.judge_event.ensures.found
