-- What else a handle's passage does: it takes bytes and shows nothing, judges a frame that is offered, goes on after a
-- refusal, and says what waits.
use Rattle.std.specs.Prelude.{◌≡◌, ℕ, ◌+◌, Bool, List, [], length, Option, Some, None, Result, Ok, Err, IfErr, IsSomeAnd}
use Rattle.zk_frames.specs.Framing.{frame}
use Rattle.zk_lines.specs.Endings.{ending_text}
use Rattle.zk_talk.specs.{declared.message.Side.Side, declared.message.Fault.Fault, declared.message.Ending.Ending, Said.payload_of, Viewed.other_side}
use Rattle.zk_talk.specs.Conversation.{Conversation, number_waiting, load}
use Rattle.zk_through.specs.{declared.through.Passed.Passed, Turns.left_out, Resumed.HasNoEnd, Resumed.EndsFrame, Resumed.IsLate, Offered.Offers, Offered.IsNotOneFrame}
use Rattle.zk_through.specs.Runs.{ThroughState, WhereItRuns, IsNeverFull, LeavesSide, KeepsWaiting, dropped, silenced, stream_on, left_on}
use Rattle.zk_c.specs.{declared.answer.StepAnswer.StepAnswer, declared.answer.LineAnswer.LineAnswer, declared.answer.WaitingAnswer.WaitingAnswer, declared.answer.HeldAnswer.HeldAnswer, declared.passed.PassedAnswer.PassedAnswer}
use Rattle.zk_c.specs.{Answer.no_step, Answer.fault_numbers, Answer.no_line, Numbers.reason_number, Passage.PassageState, Passage.newest_on}
use Rattle.zk_c.specs.{Handle.IsAnswerOf, Handle.TellsText, Handle.TellsShown, Passing.IsPassing, Passing.newest, Passing.no_passed, Passing.outcome_answer, Passing.passed_answer, Passing.ShowsNone, Passing.ShowsNewest, Passing.IsFinish}

-- ---- A step after which the side shows nothing
-- the side shows no message, and keeps no frame
abbrev pub let_go : Side → PassageState → PassageState
let_go side p = record p { through = silenced side (dropped side p.through) }

-- a step of the passage, of which the side keeps nothing
pub record IsPass (old : PassageState) (side : Side) (piece : List ℕ) (result : Result Passed Fault) (new : PassageState) : Type 0 where
  pub stepped : PassageState
  pub steps : IsPassing old side piece result stepped
  pub keeps : new ≡ let_go side stepped

-- the answer is that of such a step
abbrev pub TellsPass : PassageState → Side → List ℕ → PassedAnswer → Option PassageState → Type 0
TellsPass old side piece answer after = IsSomeAnd after (IsAnswerOf passed_answer (IsPass old side piece) answer)

-- ---- An offer
-- the offer of a frame; 67 where the bytes are not one frame
abbrev pub offered_answer : Result (Option Passed) Fault → PassedAnswer
offered_answer (Ok None) = no_passed 67
offered_answer (Ok (Some s)) = outcome_answer s.used s.outcome
offered_answer (Err f) = record (no_passed (reason_number f.reason)) { fault = fault_numbers f }

-- whether the side's newest whole frame is a message after the offer
abbrev pub newest_offered : Result (Option Passed) Fault → Bool → Bool
newest_offered (Ok None) was = was
newest_offered (Ok (Some s)) was = newest s.outcome was
newest_offered (Err f) was = was

-- what `Through::offer` promises, and which frame is the side's newest
pub record IsOffer (old : PassageState) (side : Side) (frame : List ℕ) (result : Result (Option Passed) Fault) (new : PassageState) : Type 0 where
  pub limits : new.through.talk.limits ≡ old.through.talk.limits
  pub late : new.through.late ≡ old.through.late
  pub offered : Offers old.through side frame result new.through
  pub only : IsNotOneFrame old.through side frame → old.through.fault ≡ None → result ≡ Ok None
  pub room : IfErr result (λ e. IsNeverFull old.through e)
  pub other : LeavesSide (other_side side) old.through new.through
  pub kept : (f : Fault) → old.through.fault ≡ Some f → result ≡ Err f
  pub newest : newest_on side new ≡ newest_offered result (newest_on side old)
  pub others : newest_on (other_side side) new ≡ newest_on (other_side side) old

-- the answer is that of an offer to the passage, which the handle goes on with
abbrev pub TellsOffer : PassageState → Side → List ℕ → PassedAnswer → Option PassageState → Type 0
TellsOffer old side frame answer after = IsSomeAnd after (IsAnswerOf offered_answer (IsOffer old side frame) answer)

-- ---- After a refusal
-- the number of bytes that were used, or the fault that stays
abbrev pub resumed_answer : Result ℕ Fault → StepAnswer
resumed_answer (Ok n) = record (no_step 0) { used = n }
resumed_answer (Err f) = record (no_step (reason_number f.reason)) { fault = fault_numbers f }

-- this is the fault of the passage
abbrev pub HasFault : PassageState → Fault → Type 0
HasFault p f = p.through.fault ≡ Some f

-- what `Through::resume` promises
pub record IsResuming (old : PassageState) (result : Result ℕ Fault) (new : PassageState) : Type 0 where
  pub limits : new.through.talk.limits ≡ old.through.talk.limits
  pub none : old.through.fault ≡ None → (result ≡ Ok 0) × (new ≡ old)
  pub stays : (f : Fault) → HasFault old f → HasNoEnd f → (result ≡ Err f) × (new ≡ old)
  pub late : (f : Fault) → HasFault old f → (HasNoEnd f → ⊥) → IsLate new.through
  pub used : (f : Fault) → HasFault old f → (HasNoEnd f → ⊥) → (n : ℕ) × (result ≡ Ok n) × EndsFrame n old.through

-- the answer is that of such a call, which leaves the handle this passage
abbrev pub TellsResumed : PassageState → StepAnswer → Option PassageState → Type 0
TellsResumed old answer after = IsSomeAnd after (IsAnswerOf resumed_answer (IsResuming old) answer)

-- ---- What a passage holds
-- The text is the payload of the frame that the side's last step left out or passed over. Else it is that of the message that
-- the side shows.
pub record IsPayload (p : PassageState) (side : Side) (before after : List ℕ) (answer : LineAnswer) : Type 0 where
  pub left : (left_on side p.through ≡ [] → ⊥) → (q : List ℕ) × (left_on side p.through ≡ frame q) × TellsText q before after answer
  pub shown : left_on side p.through ≡ [] → TellsShown (ShowsNone p side) (ShowsNewest p side) (no_line 69) (λ m. TellsText (payload_of m)) before after answer

-- so many requests wait in this conversation and so many that are left out, and this is what they weigh
pub record AreWaiting (v : Conversation) (left : ℕ) (answer : WaitingAnswer) : Type 0 where
  pub requests : answer.requests ≡ number_waiting v.client v.server + left
  pub weight : answer.weight ≡ load v.client v.server + left

-- the answer is what waits, or what waited at the refusal
pub record IsWaiting (p : PassageState) (answer : WaitingAnswer) : Type 0 where
  pub well : answer.status ≡ 0
  pub runs : WhereItRuns p.through (λ v. AreWaiting v (left_out p.through.turns) answer)
  pub refused : (old : ThroughState) → KeepsWaiting old p.through → WhereItRuns old (λ v. AreWaiting v (left_out old.turns) answer)

-- the answer is how many bytes the side holds of a frame
pub record IsHeld (p : PassageState) (side : Side) (answer : HeldAnswer) : Type 0 where
  pub well : answer.status ≡ 0
  pub bytes : answer.bytes ≡ length (stream_on side p.through).held

-- the answer is the line of the ending
pub record IsEndingLine (p : PassageState) (before after : List ℕ) (answer : LineAnswer) : Type 0 where
  pub ending : Ending
  pub is : IsFinish p ending
  pub text : TellsText (ending_text ending) before after answer
