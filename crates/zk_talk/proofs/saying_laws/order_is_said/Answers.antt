use Rattle.zk_talk.proofs.Replays.{order_said}
use Rattle.zk_talk.proofs.saying_laws.order_is_said.Goals as goal

pub returns-clause-said : goal.returns-clause-said
returns-clause-said c = λ limits h v M are. (order_said limits h v M are.0 are.1).0

pub returns-clause-bytes : goal.returns-clause-bytes
returns-clause-bytes c = λ limits h v M are. let o = order_said limits h v M are.0 are.1 in (o.1, o.2)

pub returns-clause-conversation : goal.returns-clause-conversation
returns-clause-conversation c = λ limits h v M are. (order_said limits h v M are.0 are.1).3
