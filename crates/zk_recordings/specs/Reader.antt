-- What a reader of recordings knows of what it has read.
use Rattle.std.specs.Prelude.{ℕ, List, Option}
use Rattle.zk_talk.specs.{declared.limits.Limits.Limits, declared.message.Side.Side}
use Rattle.zk_recordings.specs.{declared.parts.DamageAt.DamageAt, declared.parts.Format.Format, declared.parts.Part.Part, declared.recording.Stage.Stage, declared.recording.State.State}
use Rattle.zk_recordings.specs.declared.recording.Stage.TheVariants.{Fixed as fixed, Content as content, Damaged as damaged}

-- in a part, of which it has the first of these eight bytes, by their number; in a content, of which it has read this many bytes; or after a damage
pub data ReaderStage : Type 0 where
  Fixed : Part → List ℕ → ℕ → ReaderStage
  Content : ℕ → ReaderStage
  Damaged : DamageAt → ReaderStage

-- `at` is the place of what it is in; the numbers, and the side and size, are those of the head and of the piece as far as these were read;
-- `limits` are those of a head that is whole and has them
pub record ReaderState : Type 0 where
  pub at : ℕ
  pub stage : ReaderStage
  pub format : Format
  pub client : ℕ
  pub server : ℕ
  pub waiting : ℕ
  pub limits : Option Limits
  pub side : Side
  pub size : ℕ

abbrev pub stage_of : Stage → ReaderStage
stage_of (fixed part bytes got) = Fixed part bytes got
stage_of (content got) = Content got
stage_of (damaged d) = Damaged d

abbrev pub state_of : State → ReaderState
state_of s = record {
  at = s.at;
  stage = stage_of s.stage;
  format = s.format;
  client = s.client;
  server = s.server;
  waiting = s.waiting;
  limits = s.limits;
  side = s.side;
  size = s.size;
}
