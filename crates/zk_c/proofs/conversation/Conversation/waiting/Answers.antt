use Rattle.std.proofs.Common.{refl, subst}
use Rattle.zk_talk.specs.Stands.{TalkState}
use Rattle.zk_c.specs.Handle.{IsWaiting}
use Rattle.zk_c.proofs.conversation.Conversation.waiting.Goals as goal

pub returns : goal.returns
returns c = subst (λ (u : TalkState). IsWaiting u (record { status = 0; requests = c.requests.result; weight = c.waiting.result })) c.self.view_is (record {
  well = refl;
  stands = λ h M v cr sr st g. record { requests = c.requests.ensures.stands h M v cr sr st g; weight = c.waiting.ensures.stands h M v cr sr st g };
  refuses = λ h M f r. record { requests = c.requests.ensures.refuses h M f r; weight = c.waiting.ensures.refuses h M f r };
})
