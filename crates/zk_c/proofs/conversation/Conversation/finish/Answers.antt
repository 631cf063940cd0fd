use Rattle.std.proofs.Common.{subst}
use Rattle.zk_talk.specs.Stands.{TalkState}
use Rattle.zk_c.specs.Handle.{IsFinish}
use Rattle.zk_c.proofs.conversation.Conversation.finish.Goals as goal

pub returns : goal.returns
returns c = subst (λ (t : TalkState). IsFinish t c.finish.result) c.self.view_is (record { stands = c.finish.ensures.stands; refuses = c.finish.ensures.refuses })
