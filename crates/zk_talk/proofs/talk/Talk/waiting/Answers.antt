use Rattle.std.proofs.Common.{ap, ◌∙◌}
use Rattle.zk_talk.specs.{Conversation.Conversation, Conversation.load, contracts.talk.Talk.the_view}
use Rattle.zk_talk.proofs.{Queues.weight_is_load, Headline.stands_alone}
use Rattle.zk_talk.proofs.talk.Talk.waiting.Goals as goal

pub returns-clause-stands : goal.returns-clause-stands
returns-clause-stands c =
    let T = the_view c.self.inside in
    rw (← c.self.view_is) (λ h M v cr sr st g. c.weight.ensures.value ∙ weight_is_load st.conversation T.waiting st.queues ∙ ap (λ (u : Conversation). load u.client u.server) (stands_alone T h M st v cr sr g).0)
