use Rattle.std.proofs.Common.{[]}
use Rattle.zk_talk.specs.Conversation.{number_waiting}
use Rattle.zk_through.specs.{Came.told, contracts.through.Through.the_view}
use Rattle.zk_through.proofs.Waits.{waited}
use Rattle.zk_through.proofs.through.Through.requests.Goals as goal

pub returns-clause-value : goal.returns-clause-value
returns-clause-value c = rw (← c.self.view_is) (λ h k g M r v good. c.requests_waiting.ensures.stands (told g) M v [] [] r.stands good)

pub returns-clause-refused : goal.returns-clause-refused
returns-clause-refused c = rw (← c.self.view_is) (λ old keeps. waited number_waiting old (the_view c.self.inside) c.requests_waiting.result keeps c.requests_waiting.ensures.after)
