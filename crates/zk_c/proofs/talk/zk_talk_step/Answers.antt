use Rattle.zk_c.proofs.Handles.{on_side, held_now, answers}
use Rattle.zk_c.proofs.talk.zk_talk_step.Goals as goal

pub returns-clause-step : goal.returns-clause-step
returns-clause-step c = on_side c.in-Some.ensures c.in-Some-take.ensures.talk c.deref_mut.ensures.value (held_now _ c.put.ensures (answers _ _ _ _ _ c.of-answer.ensures c.step.ensures))
