use Rattle.std.proofs.Common.{length, ap, ◌∙◌}
use Rattle.zk_talk.specs.contracts.talk.Talk.{the_view}
use Rattle.zk_talk.proofs.Headline.{stands_alone}
use Rattle.zk_talk.proofs.talk.Talk.begun.Goals as goal

pub returns-in-Client-clause-stands : goal.returns-in-Client-clause-stands
returns-in-Client-clause-stands c =
    let T = the_view c.self.inside in
    rw (c.in-Client.is, ← c.self.view_is) (λ h M v cr sr st g. c.held.ensures.count ∙ ap (λ z. length z) (stands_alone T h M st v cr sr g).1)

pub returns-in-Server-clause-stands : goal.returns-in-Server-clause-stands
returns-in-Server-clause-stands c =
    let T = the_view c.self.inside in
    rw (c.in-Server.is, ← c.self.view_is) (λ h M v cr sr st g. c.held-in-Server.ensures.count ∙ ap (λ z. length z) (stands_alone T h M st v cr sr g).2)
