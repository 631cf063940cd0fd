-- What is returned of a frame that is written from fields.
use Rattle.std.specs.Prelude.{ℕ, List, Result, Ok, Err}
use Rattle.zk_jute.specs.Item.{Item}
use Rattle.zk_asks.specs.Held.{ClientFrame}
use Rattle.zk_answers.specs.Held.{ServerFrame}
use Rattle.zk_fields.specs.{declared.field.Field.Field, declared.value.Heads.Heads, declared.write.Unwritten.Unwritten, Written.Writes, Written.WritesAgain, Written.AnswersAgain}
use Rattle.zk_fields.specs.declared.write.Unwritten.TheVariants as unwritten
use Rattle.zk_c.specs.{declared.write.WriteAnswer.WriteAnswer, Handle.IsAnswerOf}

abbrev pub written : Result ℕ Unwritten → WriteAnswer
written (Ok size) = record { status = 0; length = size; index = 0 }
written (Err (unwritten.Wrong i)) = record { status = 67; length = 0; index = i }
written (Err (unwritten.Long i)) = record { status = 83; length = 0; index = i }
written (Err (unwritten.Room size)) = record { status = 68; length = size; index = 0 }

-- the answer is that of writing what the fields say between these items
abbrev pub TellsWritten : Heads → List Item → List Item → List ℕ → List Field → List ℕ → List ℕ → WriteAnswer → Type 0
TellsWritten heads front behind content fields before after answer = IsAnswerOf written (Writes heads front behind content fields before) answer after

-- the answer is that of writing a message's own fields
abbrev pub TellsAgain : ClientFrame → List ℕ → List Field → List ℕ → List ℕ → WriteAnswer → Type 0
TellsAgain f content fields before after answer = IsAnswerOf written (WritesAgain f content fields before) answer after

abbrev pub TellsAnswer : ServerFrame → List ℕ → List Field → List ℕ → List ℕ → WriteAnswer → Type 0
TellsAnswer s content fields before after answer = IsAnswerOf written (AnswersAgain s content fields before) answer after
