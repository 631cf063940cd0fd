use Rattle.std.proofs.Common.{inl, inr, refl, subst}
use Rattle.std.proofs.lemmas.Bool.{false≢true}
use Rattle.zk_talk.specs.declared.message.MessageOf.TheVariants.{Server}
use Rattle.zk_c.specs.Read.{HasPlaces}
use Rattle.zk_c.proofs.{Opening.events_head, Reading.only_one, Reading.refused_as}
use Rattle.zk_c.proofs.read.zk_read_event.Goals as goal

pub borrow_event-requires : goal.borrow_event-requires
borrow_event-requires c = events_head c.args.payload.now (λ head. false≢true (c.if-is_of_reply.ensures.1 head))

pub returns-in-Ok-clause-only : goal.returns-in-Ok-clause-only
returns-in-Ok-clause-only c = λ s small is. let found = c.in-Ok.ensures.found in
    only_one Server c.in-Ok.frame s is c.in-Ok.ensures.only (c.read_server.ensures (found.1, subst HasPlaces found.2 small))

pub returns-in-Ok-clause-found : goal.returns-in-Ok-clause-found
returns-in-Ok-clause-found c = λ small not. let found = c.in-Ok.ensures.found in inl (c.in-Ok.frame, record { form = found.0; sent = found.1; is = found.2 })

pub returns-in-Err-clause-found : goal.returns-in-Err-clause-found
returns-in-Err-clause-found c = λ small not. inr (refused_as c.in-Err.ensures.fault refl (c.read_fault.ensures small))
