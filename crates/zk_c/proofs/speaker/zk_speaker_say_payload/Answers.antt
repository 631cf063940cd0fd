use Rattle.zk_c.proofs.Handles.{on_side, held_now}
use Rattle.zk_c.proofs.speaker.zk_speaker_say_payload.Goals as goal

pub returns-clause-say : goal.returns-clause-say
returns-clause-say c = on_side c.in-Some.ensures c.in-Some-take.ensures.speaker c.deref_mut.ensures.value (held_now _ c.put.ensures c.say_payload-answer.ensures)
