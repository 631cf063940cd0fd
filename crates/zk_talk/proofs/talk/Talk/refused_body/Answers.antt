use Rattle.std.proofs.Common.{length}
use Rattle.zk_talk.specs.contracts.talk.Talk.{the_view}
use Rattle.zk_talk.specs.declared.message.Side.TheVariants.{Client, Server}
use Rattle.zk_talk.proofs.Refusing.{known, body_there}
use Rattle.zk_talk.proofs.talk.Talk.refused_body.Goals as goal

pub returns-in_ok-refused_payload-in-Client-clause-refuses : goal.returns-in_ok-refused_payload-in-Client-clause-refuses
returns-in_ok-refused_payload-in-Client-clause-refuses c =
    let p = c.in_ok-refused_payload-in-Client in
    rw (← c.self.view_is) (λ h M f r. body_there (the_view c.self.inside) h M f r c.in_ok-fault.fault c.in_ok-fault.was Client c.in-Client.is (c.is_in_body.ensures.0 c.if-not-is_in_body.false) p.field-0.now p.ensures.0 c.asked_body.result (c.asked_body.ensures.found r.is.conversation))

pub returns-in_ok-refused_payload-in-Server-clause-refuses : goal.returns-in_ok-refused_payload-in-Server-clause-refuses
returns-in_ok-refused_payload-in-Server-clause-refuses c =
    let p = c.in_ok-refused_payload-in-Server in
    rw (← c.self.view_is) (λ h M f r.
    let v = r.is.conversation in
    body_there (the_view c.self.inside) h M f r c.in_ok-fault.fault c.in_ok-fault.was Server c.in-Server.is (c.is_in_body.ensures.0 c.if-not-is_in_body.false) p.field-0.now p.ensures.0 c.answered_body.result (c.answered_body.ensures.found (length v.client) (length v.server) v (known (the_view c.self.inside) h M f r)))
