use Rattle.zk_talk.proofs.Spoken.{said_again, good_said}
use Rattle.zk_talk.proofs.saying_laws.read_is_said.Goals as goal

pub returns-clause-again : goal.returns-clause-again
returns-clause-again c = λ limits h v M frames are. (said_again limits h v M frames are.0 are.1).1

pub returns-clause-messages : goal.returns-clause-messages
returns-clause-messages c = good_said
