-- A speaker, and the frame that it said last.
use Rattle.std.specs.Prelude.{ℕ, List}
use Rattle.zk_talk.specs.Said.{SpeakerState}

pub record HeldSpeakerState : Type 0 where
  pub speaker : SpeakerState
  pub frame : List ℕ
