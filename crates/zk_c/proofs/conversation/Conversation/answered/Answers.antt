use Rattle.zk_c.proofs.conversation.Conversation.answered.Goals as goal

pub returns-in-Server : goal.returns-in-Server
returns-in-Server c =
    rw (c.in-Server.is, ← c.self.view_is) (λ kept. ((λ h M v cr sr st g. c.answered.ensures.stands h M v cr sr st g kept), (λ h M f r. c.answered.ensures.refuses h M f r kept)))
