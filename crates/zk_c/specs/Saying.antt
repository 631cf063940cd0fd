-- What a handle's speaker does.
use Rattle.std.specs.Prelude.{◌≡◌, ◌≢◌, ℕ, ◌⊎◌, List, [], ◌∷◌, ◌++◌, length, Option, IsSomeAnd}
use Rattle.zk_frames.specs.Framing.{frame}
use Rattle.zk_items.specs.{declared.fault.LineFault.LineFault, declared.fault.LineReason.LineReason}
use Rattle.zk_items.specs.declared.fault.LineReason.TheVariants as lines
use Rattle.zk_talk.specs.{Held.Message, declared.say.SayFault.SayFault, declared.message.Side.Side, declared.payload.PayloadFault.PayloadFault, Said.SpeakerState, Said.Says, Said.MaySay, Said.IsSayFault, Said.payload_of}
use Rattle.zk_talk.specs.declared.say.SayFault.TheVariants.{NotFirst, Unasked, XidOrder, Misfit, TooLong, QueueFull, NoMemory}
use Rattle.zk_talk.specs.declared.payload.PayloadFault.TheVariants.{Item, Say}
use Rattle.zk_talk.specs.SaidPayload.{SaysPayload, RefusesPayload, StandsPayload, CannotSay}
use Rattle.zk_lines.specs.Lines.{line, Fits}
use Rattle.zk_c.specs.{declared.say_result.SayAnswer.SayAnswer, declared.payload.PayloadAnswer.PayloadAnswer, Numbers.reason_number, Judged.payload_answer, HeldSpeaker.HeldSpeakerState, Handle.IsMadeOf, Handle.BeginsAnew}

abbrev pub say_number : SayFault → ℕ
say_number NotFirst = 81
say_number Unasked = 13
say_number (XidOrder expected got) = 14
say_number Misfit = 82
say_number TooLong = 83
say_number QueueFull = 12
say_number NoMemory = 5

abbrev pub line_number : LineReason → ℕ
line_number lines.Word = 91
line_number lines.Number = 92
line_number lines.Text = 93
line_number lines.Blob = 94
line_number lines.Name = 95
line_number lines.Rest = 96
line_number lines.NoMemory = 5
line_number lines.Ending = 97

abbrev pub say_answer : ℕ → ℕ → ℕ → SayAnswer
say_answer status length column = record { status = status; length = length; column = column }

-- the frame is dropped
abbrev pub silent : HeldSpeakerState → HeldSpeakerState
silent v = record v { frame = [] }

-- why the message isn't said: memory was refused, for one that may be said; or the case that refuses what may not be said
pub record IsRefusal (s : SpeakerState) (m : Message) (e : SayFault) : Type 0 where
  pub err : (e ≡ NoMemory) ⊎ ((before : List Message) → Says s before → IsSayFault s.limits before m e)
  pub lacks : e ≡ NoMemory → (before : List Message) → Says s before → MaySay s.limits before m
  pub exact : e ≢ NoMemory → (before : List Message) → Says s before → MaySay s.limits before m → ⊥

-- what a call does with the text of a line
pub data TellsSay (old : HeldSpeakerState) (text : List ℕ) (new : HeldSpeakerState) (answer : SayAnswer) : Type 0 where
  -- the line is this message's, which may be said after those that were said, and was said
  said : (m : Message) → Fits m → text ≡ line m → new.speaker.limits ≡ old.speaker.limits →
      new.frame ≡ frame (payload_of m) → answer ≡ say_answer 0 (length new.frame) 0 →
      ((before : List Message) → Says old.speaker before →
      MaySay old.speaker.limits before m × Says new.speaker (before ++ m ∷ [])) → TellsSay old text new answer
  -- the line is this message's, which is refused
  refused : (m : Message) → Fits m → text ≡ line m → (e : SayFault) → new ≡ silent old →
      answer ≡ say_answer (say_number e) 0 0 → IsRefusal old.speaker m e → TellsSay old text new answer
  -- the line is no message's, or memory was refused
  no_line : (e : LineFault) → new ≡ silent old → answer ≡ say_answer (line_number e.reason) 0 e.column →
      ((m : Message) → Fits m → text ≡ line m → e.reason ≡ lines.NoMemory) → TellsSay old text new answer

-- what is answered where a payload is refused
abbrev pub refused_payload : PayloadFault → PayloadAnswer
refused_payload (Item e) = payload_answer (reason_number e.reason) e.place
refused_payload (Say e) = payload_answer (say_number e) 0

-- why the payload isn't said: memory was refused, for one that may be said; or the case that refuses what may not be said
pub record IsPayloadRefused (s : SpeakerState) (side : Side) (p : List ℕ) (e : PayloadFault) : Type 0 where
  pub err : (e ≡ Say NoMemory) ⊎ RefusesPayload s side p e
  pub lacks : e ≡ Say NoMemory → StandsPayload s side p
  pub exact : e ≢ Say NoMemory → CannotSay s side p

-- what a call does with a payload of the side
pub data TellsPayload (old : HeldSpeakerState) (side : Side) (p : List ℕ) (new : HeldSpeakerState) (answer : PayloadAnswer) : Type 0 where
  -- it is a message's, which may be said after those that were said, and was said
  payload_said : new.speaker.limits ≡ old.speaker.limits → new.frame ≡ frame p → answer ≡ payload_answer 0 0 →
      SaysPayload old.speaker side p new.speaker → TellsPayload old side p new answer
  -- it is refused
  payload_refused : (e : PayloadFault) → new ≡ silent old → answer ≡ refused_payload e →
      IsPayloadRefused old.speaker side p e → TellsPayload old side p new answer

-- the handle's speaker says the payload
abbrev pub SaysBytes : HeldSpeakerState → Side → List ℕ → PayloadAnswer → Option HeldSpeakerState → Type 0
SaysBytes old side p answer after = IsSomeAnd after (λ speaker. TellsPayload old side p speaker answer)

-- the handle's speaker says the line
abbrev pub SaysLine : HeldSpeakerState → List ℕ → SayAnswer → Option HeldSpeakerState → Type 0
SaysLine old text answer after = IsSomeAnd after (λ speaker. TellsSay old text speaker answer)

-- nothing was said, and there is no frame
pub record HasBegun (v : HeldSpeakerState) : Type 0 where
  pub says : Says v.speaker []
  pub frame : v.frame ≡ []

-- the speaker has begun anew, with the same limits
abbrev pub IsRenewed : HeldSpeakerState → HeldSpeakerState → Type 0
IsRenewed = BeginsAnew (λ (v : HeldSpeakerState). v.speaker.limits) HasBegun

-- the handle has a speaker of these limits, and nothing was said
abbrev pub IsSilent : ℕ → ℕ → ℕ → ℕ → Option HeldSpeakerState → Type 0
IsSilent = IsMadeOf (λ (v : HeldSpeakerState). v.speaker.limits) HasBegun
