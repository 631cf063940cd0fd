-- What a handle's passage does.
use Rattle.std.specs.Prelude.{◌≡◌, ℕ, pos, Bool, true, false, List, [], Option, Some, Result, Ok, Err, IfOk, IfErr, OnErr, IsSomeAnd}
use Rattle.zk_talk.specs.{declared.message.Side.Side, declared.message.Fault.Fault, declared.message.Ending.Ending, declared.message.Ending.TheVariants.Refused, History.History, Held.Message, Stands.kept_on, Viewed.Shows, Viewed.other_side}
use Rattle.zk_through.specs.{declared.through.Passed.Passed, declared.through.StepOutcome.StepOutcome, Came.Came, Resumed.IsLate}
use Rattle.zk_through.specs.declared.through.StepOutcome.TheVariants as outcome
use Rattle.zk_through.specs.Runs.{Runs, HasOutcome, IsRefused, IsNeverFull, LeavesSide, KeepsWaiting, KeepsNone, IsEndOf, KeepsNothing, dropped, silenced, stream_on}
use Rattle.zk_fields.specs.declared.field.Field.{Field}
use Rattle.zk_c.specs.{declared.answer.MessageAnswer.MessageAnswer, declared.answer.LineAnswer.LineAnswer, declared.passed.PassedAnswer.PassedAnswer, declared.read_answer.ReadAnswer.ReadAnswer, Numbers.reason_number}
use Rattle.zk_c.specs.Answer.{no_fault, fault_numbers, no_message, message_answer, no_line}
use Rattle.zk_c.specs.{Read.no_read, Read.TellsMessage, Passage.PassageState, Passage.newest_on, Passage.answered_on}
use Rattle.zk_lines.specs.Lines.{line}
use Rattle.zk_c.specs.Handle.{TellsText, TellsShown, IsAnswerOf, IsMadeOf, BeginsAnew, size_held}

-- a step that wasn't made, with this status
abbrev pub no_passed : ℕ → PassedAnswer
no_passed status = record { used = 0; status = status; went = 0; xid = pos 0; operation = pos 0; fault = no_fault; frame = 0; zxid = pos 0; err = pos 0 }

-- a step that used these many bytes, by the number of what became of them
abbrev pub step_of : ℕ → ℕ → PassedAnswer
step_of used number = record (no_passed 0) { used = used; went = number }

abbrev pub outcome_answer : ℕ → StepOutcome → PassedAnswer
outcome_answer used outcome.Within = step_of used 0
outcome_answer used outcome.Message = step_of used 1
outcome_answer used (outcome.Asked turn) = record (step_of used 2) { xid = turn.xid; operation = turn.number; frame = turn.frame }
outcome_answer used (outcome.Answered turn) = record (step_of used 3) { xid = turn.xid; operation = turn.number; frame = turn.frame }
outcome_answer used (outcome.Unseen xid zxid err) = record (step_of used 5) { xid = xid; zxid = zxid; err = err }
outcome_answer used outcome.Full = step_of used 4

abbrev pub passed_answer : Result Passed Fault → PassedAnswer
passed_answer (Ok s) = outcome_answer s.used s.outcome
passed_answer (Err f) = record (no_passed (reason_number f.reason)) { fault = fault_numbers f }

-- whether the side's newest whole frame is a message, after this
abbrev pub newest : StepOutcome → Bool → Bool
newest outcome.Within was = was
newest outcome.Message was = true
newest (outcome.Asked turn) was = false
newest (outcome.Answered turn) was = false
newest (outcome.Unseen xid zxid err) was = false
newest outcome.Full was = was

abbrev pub newest_after : Result Passed Fault → Bool → Bool
newest_after (Ok s) was = newest s.outcome was
newest_after (Err f) was = was

-- what `Through::step` promises, and which frame is the side's newest
pub record IsPassing (old : PassageState) (side : Side) (piece : List ℕ) (result : Result Passed Fault) (new : PassageState) : Type 0 where
  pub limits : new.through.talk.limits ≡ old.through.talk.limits
  pub late : new.through.late ≡ old.through.late
  pub ok : IfOk result (λ s. HasOutcome old.through side piece s.used s.outcome new.through)
  pub err : IfErr result (λ e. IsRefused old.through side piece e new.through)
  pub room : IfErr result (λ e. IsNeverFull old.through e)
  pub waits : OnErr result (KeepsWaiting old.through new.through)
  pub other : LeavesSide (other_side side) old.through new.through
  pub none : OnErr result (KeepsNone side old.through new.through)
  pub kept : (f : Fault) → old.through.fault ≡ Some f → (result ≡ Err f) × (new.through ≡ silenced side (dropped side old.through))
  pub newest : newest_on side new ≡ newest_after result (newest_on side old)
  pub others : newest_on (other_side side) new ≡ newest_on (other_side side) old

-- the answer is that of such a step of the passage, which the handle goes on with
abbrev pub TellsStep : PassageState → Side → List ℕ → PassedAnswer → Option PassageState → Type 0
TellsStep old side piece answer after = IsSomeAnd after (IsAnswerOf passed_answer (IsPassing old side piece) answer)

-- nothing has come, and no side shows a message
pub record HasBegun (p : PassageState) : Type 0 where
  pub late : p.through.late ≡ false
  pub runs : Runs p.through [] [] [] []
  pub keeps : KeepsNothing p.through
  pub none : (p.client ≡ false) × (p.server ≡ false)

-- the connection is seen late: only the connect pair has come that nobody sent, and no side shows a message
pub record HasJoined (p : PassageState) : Type 0 where
  pub late : IsLate p.through
  pub none : (p.client ≡ false) × (p.server ≡ false)

abbrev pub Begins : Bool → PassageState → Type 0
Begins false p = HasBegun p
Begins true p = HasJoined p

-- the handle has a passage of these limits, which has begun so
abbrev pub IsMade : Bool → ℕ → ℕ → ℕ → ℕ → Option PassageState → Type 0
IsMade late = IsMadeOf (λ (p : PassageState). p.through.talk.limits) (Begins late)

abbrev pub IsNew : ℕ → ℕ → ℕ → ℕ → Option PassageState → Type 0
IsNew = IsMade false

abbrev pub IsJoined : ℕ → ℕ → ℕ → ℕ → Option PassageState → Type 0
IsJoined = IsMade true

-- the passage has begun anew, with the same limits
abbrev pub IsRenewed : PassageState → PassageState → Type 0
IsRenewed = BeginsAnew (λ (p : PassageState). p.through.talk.limits) HasBegun

-- the side's newest whole frame is no message, or the message isn't kept any more
abbrev pub ShowsNone : PassageState → Side → Type 0
ShowsNone p side = (newest_on side p ≡ true) → kept_on side p.through.talk ≡ []

-- it is this message
abbrev pub ShowsNewest : PassageState → Side → Message → Type 0
ShowsNewest p side m = (newest_on side p ≡ true) × Shows p.through.talk side m

-- the answer is the side's newest message, with the number of its frame among all that came, and of the client's frame that
-- it answers
pub record IsView (p : PassageState) (side : Side) (answer : MessageAnswer) : Type 0 where
  pub none : ShowsNone p side → answer ≡ no_message 69
  pub some : newest_on side p ≡ true → (m : Message) → Shows p.through.talk side m →
      answer ≡ message_answer (size_held side p.through.talk) (stream_on side p.through).count (answered_on side p) m

-- the answer is that message's line, or its fields
abbrev pub IsLine : PassageState → Side → List ℕ → List ℕ → LineAnswer → Type 0
IsLine p side = TellsShown (ShowsNone p side) (ShowsNewest p side) (no_line 69) (λ m. TellsText (line m))

abbrev pub IsFields : PassageState → Side → List Field → List Field → ReadAnswer → Type 0
IsFields p side = TellsShown (ShowsNone p side) (ShowsNewest p side) (no_read 69) TellsMessage

-- what `Through::finish` promises
pub record IsFinish (p : PassageState) (ending : Ending) : Type 0 where
  pub runs : (h : History) (c k : Came) (M : List Message) (r : Runs p.through h c k M) → IsEndOf p.through r.all k ending
  pub refused : (f : Fault) → p.through.fault ≡ Some f → ending ≡ Refused f
