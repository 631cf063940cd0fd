-- What a handle's talk does.
use Rattle.std.specs.Prelude.{◌≡◌, ◌≢◌, ℕ, ◌<◌, ◌+◌, Bool, true, false, List, [], ◌++◌, length, drop, Option, Some, None, Result, Ok, Err, IfOk, IfErr, OnErr, IsSomeAnd, MatchBool}
use Rattle.zk_jute.specs.declared.fault.Reason.TheVariants.{NoMemory}
use Rattle.zk_talk.specs.{declared.message.Side.Side, declared.message.Fault.Fault, declared.talk.Stepped.Stepped, declared.message.Ending.Ending, declared.message.Ending.TheVariants.Refused, declared.limits.Limits.Limits, Held.Message}
use Rattle.zk_talk.specs.declared.message.Side.TheVariants.{Client, Server}
use Rattle.zk_talk.specs.{History.History, Conversation.Conversation, Conversation.number_waiting, Conversation.load, Fault.rest_on, Ending.IsEnding, Numbers.NewestAnswers, Said.payload_of}
use Rattle.zk_talk.specs.Stands.{TalkState, Stands, Refuses, WhereItStands, WhereItRefuses, held_on, kept_on, frames_on}
use Rattle.zk_talk.specs.{Taking.StepsOn, Taking.PassesOn, Taking.IsRefused, Taking.dropped, Offered.IsOneFrame, Offered.IsNotOneFrame, Offered.WouldRefuse, Viewed.Shows, Viewed.Leaves, Viewed.other_side, Ranges.AreLimits}
use Rattle.zk_c.specs.{declared.answer.StepAnswer.StepAnswer, Answer.step_answer, Answer.offer_answer, Answer.no_message, Answer.message_answer, Answer.no_line, declared.answer.MessageAnswer.MessageAnswer, declared.answer.LineAnswer.LineAnswer}
use Rattle.zk_records.specs.{declared.profile.Profile.Profile, Codes.profile_number}
use Rattle.zk_c.specs.{declared.answer.WaitingAnswer.WaitingAnswer, declared.answer.HeldAnswer.HeldAnswer, declared.read_answer.ReadAnswer.ReadAnswer, Read.no_read, Read.TellsMessage}
use Rattle.zk_fields.specs.declared.field.Field.{Field}
use Rattle.zk_lines.specs.{Lines.line, Endings.ending_text}

-- what both `Talk::step` and `Talk::pass` promise; the bytes that were used did what `Goes` says
pub record IsAdvanced (Goes : ℕ → Bool → Type 0) (old : TalkState) (side : Side) (piece : List ℕ)
    (result : Result Stepped Fault) (new : TalkState) : Type 0 where
  pub limits : new.limits ≡ old.limits
  pub ok : IfOk result (λ s. Goes s.used s.whole)
  pub exact : IfOk result (λ s. s.whole ≡ false → s.used ≡ length piece)
  pub other : Leaves (other_side side) old new
  pub err : IfErr result (λ e. (e.reason ≢ NoMemory) × IsRefused old side piece e new)
  pub kept : (f : Fault) → old.fault ≡ Some f → (result ≡ Err f) × (new ≡ dropped side old)

-- what `Talk::step` promises
pub record IsStep (old : TalkState) (side : Side) (piece : List ℕ) (result : Result Stepped Fault) (new : TalkState) : Type 0 where
  pub advanced : IsAdvanced (λ used whole. StepsOn old side piece used whole new) old side piece result new
  pub none : OnErr result (kept_on side new ≡ [])

-- what `Talk::pass` promises
pub record IsPass (old : TalkState) (side : Side) (piece : List ℕ) (result : Result Stepped Fault) (new : TalkState) : Type 0 where
  pub advanced : IsAdvanced (λ used whole. PassesOn old side piece used whole new) old side piece result new
  pub dropped : kept_on side new ≡ []

-- what `Talk::offer` promises
pub record IsOffer (old : TalkState) (side : Side) (frame : List ℕ) (result : Result Bool Fault) (new : TalkState) : Type 0 where
  pub limits : new.limits ≡ old.limits
  pub taken : IfOk result (λ took. took ≡ true → StepsOn old side frame (length frame) true new)
  pub one : IfOk result (λ took. MatchBool took (IsOneFrame old side frame) (IsNotOneFrame old side frame))
  pub only : IsNotOneFrame old side frame → old.fault ≡ None → result ≡ Ok false
  pub same : result ≢ Ok true → new ≡ old
  pub other : Leaves (other_side side) old new
  pub err : IfErr result (λ e. (e.reason ≢ NoMemory) × WouldRefuse old side frame e)
  pub kept : (f : Fault) → old.fault ≡ Some f → result ≡ Err f

-- a call that takes a piece of a side
abbrev pub Call : Type 1
Call = TalkState → Side → List ℕ → Result Stepped Fault → TalkState → Type 0

-- the answer is that of a result, of which this holds with the value that is left
pub record IsAnswerOf {A R X : Type 0} (answer_of : R → X) (Is : R → A → Type 0) (answer : X) (new : A) : Type 0 where
  pub result : R
  pub told : answer ≡ answer_of result
  pub is : Is result new

-- the answer is that of such a call of the talk, which the handle goes on with
abbrev pub Tells : Call → TalkState → Side → List ℕ → StepAnswer → Option TalkState → Type 0
Tells Is old side piece answer after = IsSomeAnd after (IsAnswerOf step_answer (Is old side piece) answer)

-- the answer is that of an offer to the talk, which the handle goes on with
abbrev pub TellsOffer : TalkState → Side → List ℕ → StepAnswer → Option TalkState → Type 0
TellsOffer old side frame answer after = IsSomeAnd after (IsAnswerOf (offer_answer (length frame)) (IsOffer old side frame) answer)

-- the limits are these numbers
pub record AreNumbers (c s w p : ℕ) (limits : Limits) : Type 0 where
  pub client : limits.client ≡ c
  pub server : limits.server ≡ s
  pub waiting : limits.waiting ≡ w
  pub profile : p ≡ profile_number limits.profile

-- the numbers are no limits'
abbrev pub AreNoLimits : ℕ → ℕ → ℕ → ℕ → Type 0
AreNoLimits client server waiting profile = (p : Profile) → profile ≡ profile_number p → AreLimits client server waiting → ⊥

-- the handle has a value whose limits are these numbers, and which has begun
abbrev pub IsMadeOf : {A : Type 0} → (A → Limits) → (A → Type 0) → ℕ → ℕ → ℕ → ℕ → Option A → Type 0
IsMadeOf limits_of Begun client server waiting profile after =
    IsSomeAnd after (λ value. AreNumbers client server waiting profile (limits_of value) × Begun value)

-- the new value has the limits of the old one, and has begun
pub record BeginsAnew {A : Type 0} (limits_of : A → Limits) (Begun : A → Type 0) (old new : A) : Type 0 where
  pub limits : limits_of new ≡ limits_of old
  pub begun : Begun new

-- nothing has come, and no side keeps a frame
pub record HasBegun (talk : TalkState) : Type 0 where
  pub stands : Stands talk [] []
  pub none : (talk.client_kept ≡ []) × (talk.server_kept ≡ [])

-- the handle has a talk of these limits, and nothing has come
abbrev pub IsNew : ℕ → ℕ → ℕ → ℕ → Option TalkState → Type 0
IsNew = IsMadeOf (λ (t : TalkState). t.limits) HasBegun

-- what `Talk::renew` promises
abbrev pub IsRenewed : TalkState → TalkState → Type 0
IsRenewed = BeginsAnew (λ (t : TalkState). t.limits) HasBegun

-- what `Talk::finish` promises
pub record IsFinish (talk : TalkState) (ending : Ending) : Type 0 where
  pub stands : (h : History) (M : List Message) → Stands talk h M → IsEnding talk.limits h ending
  pub refuses : (h : History) (M : List Message) (f : Fault) → Refuses talk h M f → ending ≡ Refused f

-- the number of the side's bytes that are held
abbrev pub size_held : Side → TalkState → ℕ
size_held side talk = length (held_on side talk) + length (kept_on side talk)

-- the frame that the side keeps answers the client's frame of this number, or none; the client's answer none
abbrev pub AnswersOn : Side → TalkState → Option ℕ → Type 0
AnswersOn Client talk number = number ≡ None
AnswersOn Server talk number =
    WhereItStands talk (λ v client_rest server_rest. NewestAnswers v number) × WhereItRefuses talk (λ v. NewestAnswers v number)

-- the answer is the message of the frame that the side keeps, which is one
pub record IsView (talk : TalkState) (side : Side) (answer : MessageAnswer) : Type 0 where
  pub none : kept_on side talk ≡ [] → answer ≡ no_message 69
  pub some : (m : Message) → Shows talk side m →
      (number : Option ℕ) × AnswersOn side talk number × (answer ≡ message_answer (size_held side talk) (frames_on side talk) number m)
  pub there : (kept_on side talk ≡ [] → ⊥) → (m : Message) × Shows talk side m

-- how many requests wait for their replies after these frames, and what they weigh
pub record AreWaiting (v : Conversation) (answer : WaitingAnswer) : Type 0 where
  pub requests : answer.requests ≡ number_waiting v.client v.server
  pub weight : answer.weight ≡ load v.client v.server

-- the answer is what waits after the talk's history, or before the byte that decided its fault
pub record IsWaiting (talk : TalkState) (answer : WaitingAnswer) : Type 0 where
  pub well : answer.status ≡ 0
  pub stands : WhereItStands talk (λ v client_rest server_rest. AreWaiting v answer)
  pub refuses : WhereItRefuses talk (λ v. AreWaiting v answer)

-- the answer is the length of the frame that the side has begun, as far as it came
pub record IsHeld (talk : TalkState) (side : Side) (answer : HeldAnswer) : Type 0 where
  pub well : answer.status ≡ 0
  pub bytes : answer.bytes ≡ length (held_on side talk)
  pub stands : WhereItStands talk (λ v client_rest server_rest. answer.bytes ≡ length (rest_on side client_rest server_rest))

-- the text is at the front of the room; or it doesn't fit, or memory is refused, and the room is as it was
pub data TellsText (text before after : List ℕ) (answer : LineAnswer) : Type 0 where
  written : answer ≡ record { status = 0; length = length text } → after ≡ text ++ drop (length text) before → TellsText text before after answer
  no_room : answer ≡ record { status = 68; length = length text } → length before < length text → after ≡ before → TellsText text before after answer
  no_memory : answer ≡ no_line 5 → after ≡ before → TellsText text before after answer

-- the message that is shown is written so; if none is shown, nothing is
pub record TellsShown {E X : Type 0} (NoneShown : Type 0) (Shown : Message → Type 0) (nothing : X) (Says : Message → List E → List E → X → Type 0)
    (before after : List E) (answer : X) : Type 0 where
  pub none : NoneShown → (answer ≡ nothing) × (after ≡ before)
  pub some : (m : Message) → Shown m → Says m before after answer

-- so is the message whose frame the side keeps
abbrev pub TellsKept : {E X : Type 0} → X → (Message → List E → List E → X → Type 0) → TalkState → Side → List E → List E → X → Type 0
TellsKept nothing Says talk side = TellsShown (kept_on side talk ≡ []) (Shows talk side) nothing Says

-- the answer is that message's line, its fields, or its payload
abbrev pub IsLine : TalkState → Side → List ℕ → List ℕ → LineAnswer → Type 0
IsLine = TellsKept (no_line 69) (λ m. TellsText (line m))

abbrev pub IsFields : TalkState → Side → List Field → List Field → ReadAnswer → Type 0
IsFields = TellsKept (no_read 69) TellsMessage

abbrev pub IsPayload : TalkState → Side → List ℕ → List ℕ → LineAnswer → Type 0
IsPayload = TellsKept (no_line 69) (λ m. TellsText (payload_of m))

-- the answer is the line of the ending of the talk's history
pub record IsEndingLine (talk : TalkState) (before after : List ℕ) (answer : LineAnswer) : Type 0 where
  pub ending : Ending
  pub is : IsFinish talk ending
  pub text : TellsText (ending_text ending) before after answer
