-- What a talk does with a piece.
use Rattle.std.specs.Prelude.{◌≡◌, ℕ, ◌≤◌, ◌<◌, ◌⊎◌, Bool, true, false, List, [], ◌∷◌, ◌++◌, length, take}
use Rattle.zk_jute.specs.declared.fault.Reason.TheVariants.{NoMemory}
use Rattle.zk_talk.specs.{declared.message.Side.Side, Held.Message, declared.message.Fault.Fault, History.History, History.on, Fault.fault_of, Viewed.Shows}
use Rattle.zk_talk.specs.declared.message.Side.TheVariants.{Client, Server}
use Rattle.zk_talk.specs.Stands.{TalkState, Stands, Refuses, held_on, kept_on, frames_on, size_on}

-- these bytes of the piece were used, and these messages came
abbrev pub GoesOn : TalkState → Side → List ℕ → List Message → TalkState → Type 0
GoesOn old side used messages new = (h : History) (M : List Message) → Stands old h M → Stands new (h ++ on side used) (M ++ messages)

-- the fault that memory was refused: the frame is the one being read, and nothing of the piece counts
abbrev pub lacks_memory : TalkState → Side → Fault
lacks_memory t side = fault_of side (frames_on side t) (size_on side t) 0 NoMemory

-- the frame that was kept on the side is dropped
abbrev pub dropped : Side → TalkState → TalkState
dropped Client t = record t { client_kept = [] }
dropped Server t = record t { server_kept = [] }

-- these bytes of the piece were used; if they made a frame whole it is kept, and is one message's
abbrev pub Steps : TalkState → Side → List ℕ → Bool → TalkState → Type 0
Steps old side used false new = GoesOn old side used [] new × (kept_on side new ≡ [])
Steps old side used true new = (m : Message) × GoesOn old side used (m ∷ []) new × Shows new side m × (held_on side new ≡ [])

-- the first `used` bytes of the piece were used, at least one if it has any, and these messages came
abbrev pub TakesOn : TalkState → Side → List ℕ → ℕ → List Message → TalkState → Type 0
TakesOn old side piece used messages new = (used ≤ length piece) × (0 < length piece → 0 < used) × GoesOn old side (take used piece) messages new

-- the first `used` bytes of the piece were used, at least one if it has any, and if they made a frame whole it is kept
abbrev pub StepsOn : TalkState → Side → List ℕ → ℕ → Bool → TalkState → Type 0
StepsOn old side piece used whole new = (used ≤ length piece) × (0 < length piece → 0 < used) × Steps old side (take used piece) whole new

-- these bytes of the piece were used; if they made a frame whole it is one message's, and isn't kept
abbrev pub Passes : TalkState → Side → List ℕ → Bool → TalkState → Type 0
Passes old side used false new = GoesOn old side used [] new
Passes old side used true new = (m : Message) × GoesOn old side used (m ∷ []) new × (held_on side new ≡ [])

-- the first `used` bytes of the piece were used, at least one if it has any, and nothing is kept of them but a beginning
abbrev pub PassesOn : TalkState → Side → List ℕ → ℕ → Bool → TalkState → Type 0
PassesOn old side piece used whole new = (used ≤ length piece) × (0 < length piece → 0 < used) × Passes old side (take used piece) whole new

-- Memory was refused for a message that bytes of the piece make whole, and nothing is changed.
pub record Lacks (old : TalkState) (side : Side) (piece : List ℕ) (fault : Fault) (new : TalkState) : Type 0 where
  pub told : fault ≡ lacks_memory old side
  pub same : new ≡ dropped side old
  pub used : ℕ
  pub part : used ≤ length piece
  pub message : Message
  pub after : TalkState
  pub goes : GoesOn old side (take used piece) (message ∷ []) after

-- the history with the piece has the fault
abbrev pub IsRefused : TalkState → Side → List ℕ → Fault → TalkState → Type 0
IsRefused old side piece fault new = (h : History) (M : List Message) → Stands old h M → Refuses new (h ++ on side piece) M fault

-- memory was refused for a message, or the history with the piece has the fault
abbrev pub Fails : TalkState → Side → List ℕ → Fault → TalkState → Type 0
Fails old side piece fault new = Lacks old side piece fault new ⊎ IsRefused old side piece fault new
