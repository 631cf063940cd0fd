use Rattle.std.proofs.Common.{refl, subst}
use Rattle.zk_talk.specs.Stands.{TalkState}
use Rattle.zk_c.specs.Handle.{IsHeld}
use Rattle.zk_c.proofs.conversation.Conversation.held.Goals as goal

pub returns : goal.returns
returns c = subst (λ (u : TalkState). IsHeld u c.args.side (record { status = 0; bytes = c.begun.result })) c.self.view_is (record {
  well = refl;
  bytes = c.begun.ensures.value;
  stands = c.begun.ensures.stands;
})
