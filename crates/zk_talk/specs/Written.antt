-- A message that is given as its kind and the bytes of its payload.
use Rattle.std.specs.Prelude.{◌≡◌, ℕ, Bool, List, [], ◌∷◌, ◌++◌}
use Rattle.zk_jute.specs.Item.{Item, HaveBytes}
use Rattle.zk_asks.specs.Held.{ClientFrame}
use Rattle.zk_asks.specs.declared.frame.ClientFrameOf.TheVariants as client
use Rattle.zk_asks.specs.Frames as asks
use Rattle.zk_answers.specs.Held.{ServerFrame}
use Rattle.zk_answers.specs.declared.frame.ServerFrameOf.TheVariants as server
use Rattle.zk_answers.specs.Frames as answers
use Rattle.zk_waiting.specs.Waiting.{Lanes}
use Rattle.zk_talk.specs.{Held.Message, declared.limits.Limits.Limits, declared.message.Kind.Kind, declared.say.SayFault.SayFault, Payloads.client_payload, Payloads.server_payload, Said.SpeakerState, Said.Says, Said.MaySay, Said.IsSayFault, Said.SaysClient, Said.SaysServer, Said.payload_of}
use Rattle.zk_talk.specs.declared.message.MessageOf.TheVariants as message
use Rattle.zk_talk.specs.declared.message.Kind.TheVariants.{Connect, Ask, Connected, Answered, Event}

abbrev pub kind_of : Message → Kind
kind_of (message.Client (client.Connect hello read_only)) = Connect
kind_of (message.Client (client.Ask xid ask)) = Ask
kind_of (message.Server (server.Connected hello read_only)) = Connected
kind_of (message.Server (server.Answered r)) = Answered (answers.op_of_reply r)
kind_of (message.Server (server.Event zxid event)) = Event

abbrev pub items_of : Message → List Item
items_of (message.Client f) = asks.frame_items f
items_of (message.Server s) = answers.frame_items s

-- the number of an error isn't 0
abbrev pub IsTrueFailure : Message → Type 0
IsTrueFailure (message.Client f) = Unit {0}
IsTrueFailure (message.Server s) = answers.IsTrueFailure s

-- the message is of this kind, and these are the bytes of its payload
pub record IsWritten (kind : Kind) (p : List ℕ) (m : Message) : Type 0 where
  pub kind_is : kind_of m ≡ kind
  pub failure : IsTrueFailure m
  pub have : HaveBytes (items_of m)
  pub is : payload_of m ≡ p

-- the message of this kind and payload may be said after those that the speaker has said, and was said
abbrev pub SaysWritten : SpeakerState → Kind → List ℕ → SpeakerState → Type 0
SaysWritten old kind p new = (m : Message) → IsWritten kind p m →
    (before : List Message) → Says old before → MaySay old.limits before m × Says new (before ++ m ∷ [])

-- a message of this kind has the payload, which may be said after those that the speaker has said, and was said
abbrev pub SaysKind : SpeakerState → Kind → List ℕ → SpeakerState → Type 0
SaysKind old kind p new = (m : Message) × (kind_of m ≡ kind) × (payload_of m ≡ p) ×
    ((before : List Message) → Says old before → MaySay old.limits before m × Says new (before ++ m ∷ []))

-- a message of this kind and payload is refused after those that the speaker has said, and this is why
abbrev pub RefusesWritten : SpeakerState → Kind → List ℕ → SayFault → Type 0
RefusesWritten old kind p e = (m : Message) → IsWritten kind p m → (before : List Message) → Says old before → IsSayFault old.limits before m e

-- no message of this kind and payload may be said after them
abbrev pub CannotSayWritten : SpeakerState → Kind → List ℕ → Type 0
CannotSayWritten old kind p = (m : Message) → IsWritten kind p m → (before : List Message) → Says old before → MaySay old.limits before m → ⊥

-- whatever was heard, the client may say its message of this kind and payload, and has said it
abbrev pub SaysClientWritten : Limits → Bool → Kind → Lanes → List ℕ → Lanes → Type 0
SaysClientWritten limits asked kind old p new = (f : ClientFrame) → IsWritten kind p (message.Client f) → SaysClient limits asked old f new

-- and the server
abbrev pub SaysServerWritten : Limits → Bool → Bool → Kind → Lanes → List ℕ → Lanes → Type 0
SaysServerWritten limits asked welcomed kind old p new = (s : ServerFrame) → IsWritten kind p (message.Server s) → SaysServer limits asked welcomed old s new

-- a frame of this kind has the payload, which the client may say whatever was heard, and has said
abbrev pub SaysClientKind : Limits → Bool → Kind → Lanes → List ℕ → Lanes → Type 0
SaysClientKind limits asked kind old p new = (f : ClientFrame) × (kind_of (message.Client f) ≡ kind) × (client_payload f ≡ p) × SaysClient limits asked old f new

-- and the server
abbrev pub SaysServerKind : Limits → Bool → Bool → Kind → Lanes → List ℕ → Lanes → Type 0
SaysServerKind limits asked welcomed kind old p new =
    (s : ServerFrame) × (kind_of (message.Server s) ≡ kind) × (server_payload s ≡ p) × SaysServer limits asked welcomed old s new
