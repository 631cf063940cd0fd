use Rattle.zk_answers.proofs.Events.{event_head}
use Rattle.zk_answers.proofs.laws.event_laws.Goals as goal

pub returns-clause-head : goal.returns-clause-head
returns-clause-head c = λ zxid e sent. (_, event_head zxid e sent)
