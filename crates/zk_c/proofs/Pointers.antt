-- The pointers of handles: to a talk, a passage and a speaker.
use Rattle.std.proofs.Common.{refl}
use Rattle.zk_c.proofs.Boxed.{Kind}
use Rattle.zk_c.specs.contracts.conversation.Conversation as talk_held
use Rattle.zk_c.specs.contracts.boxes.TalkBox as talk_box
use Rattle.zk_c.specs.contracts.passage.Passage as passage_held
use Rattle.zk_c.specs.contracts.boxes.PassageBox as passage_box
use Rattle.zk_c.specs.contracts.held_speaker.HeldSpeaker as speaker_held
use Rattle.zk_c.specs.contracts.boxes.SpeakerBox as speaker_box

abbrev pub talk : Kind
talk = record { name = talk_box.struct.name; held = talk_held.the_row; row = talk_box.the_row; at = λ b. b.at; value = λ b. b.value; make = λ p v. record { at = p; value = v }; made = λ p v. refl }

abbrev pub passage : Kind
passage = record { name = passage_box.struct.name; held = passage_held.the_row; row = passage_box.the_row; at = λ b. b.at; value = λ b. b.value; make = λ p v. record { at = p; value = v }; made = λ p v. refl }

abbrev pub speaker : Kind
speaker = record { name = speaker_box.struct.name; held = speaker_held.the_row; row = speaker_box.the_row; at = λ b. b.at; value = λ b. b.value; make = λ p v. record { at = p; value = v }; made = λ p v. refl }
