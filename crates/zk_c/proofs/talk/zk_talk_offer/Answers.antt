use Rattle.std.proofs.Common.{length}
use Rattle.zk_c.specs.{Answer.offer_answer, Handle.IsOffer}
use Rattle.zk_c.proofs.Handles.{on_side, held_now, answers}
use Rattle.zk_c.proofs.talk.zk_talk_offer.Goals as goal

pub returns-clause-offer : goal.returns-clause-offer
returns-clause-offer c = on_side c.in-Some.ensures c.in-Some-take.ensures.talk c.deref_mut.ensures.value (held_now _ c.put.ensures (answers (offer_answer (length c.args.frame.now)) _ _ _ _ c.of_offer-answer.ensures c.offer.ensures))
