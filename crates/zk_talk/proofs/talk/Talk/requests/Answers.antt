use Rattle.std.proofs.Common.{ap, ◌∙◌}
use Rattle.zk_talk.specs.{Conversation.Conversation, Conversation.number_waiting, contracts.talk.Talk.the_view}
use Rattle.zk_talk.proofs.{Queues.count_is_waiting, Headline.stands_alone}
use Rattle.zk_talk.proofs.talk.Talk.requests.Goals as goal

pub returns-clause-stands : goal.returns-clause-stands
returns-clause-stands c =
    let T = the_view c.self.inside in
    rw (← c.self.view_is) (λ h M v cr sr st g. c.count.ensures.value ∙ count_is_waiting st.conversation T.waiting st.queues ∙ ap (λ (u : Conversation). number_waiting u.client u.server) (stands_alone T h M st v cr sr g).0)

pub returns-clause-refuses : goal.returns-clause-refuses
returns-clause-refuses c =
    let T = the_view c.self.inside in
    rw (← c.self.view_is) (λ h M f r. c.count.ensures.value ∙ count_is_waiting r.is.conversation T.waiting r.queues)
