use Rattle.std.proofs.Common.{[], arith}
use Rattle.zk_talk.specs.Conversation.{load}
use Rattle.zk_through.specs.{Came.told, contracts.through.Through.the_view}
use Rattle.zk_through.proofs.Waits.{waited}
use Rattle.zk_through.proofs.through.Through.waiting.Goals as goal

pub returns-clause-value : goal.returns-clause-value
returns-clause-value c = rw (← c.self.view_is) (λ h k g M r v good. c.weight_waiting.ensures.stands (told g) M v [] [] r.stands good)

pub returns-clause-most : goal.returns-clause-most
returns-clause-most c = rw (← c.self.view_is) (λ h k g M r v good. omega (arith, r.room v good, c.weight_waiting.ensures.stands (told g) M v [] [] r.stands good))

pub returns-clause-refused : goal.returns-clause-refused
returns-clause-refused c = rw (← c.self.view_is) (λ old keeps. waited load old (the_view c.self.inside) c.weight_waiting.result keeps c.weight_waiting.ensures.after)
