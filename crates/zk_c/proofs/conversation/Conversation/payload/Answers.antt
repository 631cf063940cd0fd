use Rattle.std.proofs.Common.{subst}
use Rattle.zk_talk.specs.Stands.{TalkState}
use Rattle.zk_c.specs.Handle.{IsPayload}
use Rattle.zk_c.proofs.Keeping.{payload_told}
use Rattle.zk_c.proofs.conversation.Conversation.payload.Goals as goal

pub returns : goal.returns
returns c = subst (λ (u : TalkState). IsPayload u c.args.side c.args.out.now c.of.new.out c.of.result) c.self.view_is
    (payload_told c.self.inside.talk c.args.side c.args.out.now c.of.new.out c.of.result c.payload.result c.payload.ensures c.of.ensures)
