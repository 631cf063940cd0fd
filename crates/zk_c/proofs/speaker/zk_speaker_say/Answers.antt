use Rattle.zk_c.proofs.Handles.{on_held, held_now}
use Rattle.zk_c.proofs.speaker.zk_speaker_say.Goals as goal

pub returns : goal.returns
returns c = record { say = on_held c.in-Some.ensures.speaker c.deref_mut.ensures.value (held_now _ c.put.ensures c.say-answer.ensures) }
