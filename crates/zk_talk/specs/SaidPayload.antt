-- What may be said of a payload that is given as bytes.
use Rattle.std.specs.Prelude.{◌≡◌, ℕ, Bool, List, [], ◌∷◌, ◌++◌}
use Rattle.zk_jute.specs.declared.fault.ItemFault.{ItemFault}
use Rattle.zk_asks.specs.Held.{ClientFrame}
use Rattle.zk_answers.specs.Held.{ServerFrame}
use Rattle.zk_waiting.specs.Waiting.{Lanes}
use Rattle.zk_talk.specs.{declared.message.Side.Side, Held.Message, declared.limits.Limits.Limits, declared.payload.PayloadFault.PayloadFault, Payloads.client_payload, Payloads.server_payload}
use Rattle.zk_talk.specs.declared.message.Side.TheVariants.{Client, Server}
use Rattle.zk_talk.specs.declared.payload.PayloadFault.TheVariants.{Item, Say}
use Rattle.zk_talk.specs.{Conversation.Conversation, Conversation.ClientMay, Conversation.ServerMay, Fault.IsClientFault, Fault.IsServerFault, Judged.Tells}
use Rattle.zk_talk.specs.Said.{SpeakerState, Says, MaySay, Heard, SaysClient, StandsClient, IsClientRefusal, SaysServer, StandsServer, IsServerRefusal, side_of, payload_of, conversation_of}

-- the message is of this side, and has this payload
abbrev pub HasPayload : Side → List ℕ → Message → Type 0
HasPayload side p m = (side_of m ≡ side) × (payload_of m ≡ p)

-- Why the client's payload is refused after the frames of v: no frame that may come has it, and this is its fault, however
-- long it is; or such a frame has it, and is refused for this.
abbrev pub IsClientPayloadRefusal : Limits → Conversation → List ℕ → PayloadFault → Type 0
IsClientPayloadRefusal limits v p (Item e) = Tells (IsClientFault limits v p) e ×
    ((f : ClientFrame) → client_payload f ≡ p → ClientMay limits.profile v.client f → ⊥)
IsClientPayloadRefusal limits v p (Say e) = (f : ClientFrame) × (client_payload f ≡ p) ×
    ClientMay limits.profile v.client f × IsClientRefusal limits v f e

-- and the server's
abbrev pub IsServerPayloadRefusal : Limits → Conversation → List ℕ → PayloadFault → Type 0
IsServerPayloadRefusal limits v p (Item e) = Tells (IsServerFault v p) e ×
    ((s : ServerFrame) → server_payload s ≡ p → ServerMay v.client v.server s → ⊥)
IsServerPayloadRefusal limits v p (Say e) = (s : ServerFrame) × (server_payload s ≡ p) ×
    ServerMay v.client v.server s × IsServerRefusal limits v s e

-- why the side's payload is refused after these messages
abbrev pub IsPayloadRefusal : Limits → List Message → Side → List ℕ → PayloadFault → Type 0
IsPayloadRefusal limits before Client p e = IsClientPayloadRefusal limits (conversation_of before) p e
IsPayloadRefusal limits before Server p e = IsServerPayloadRefusal limits (conversation_of before) p e

-- a message has the payload, which may be said after those that the speaker has said, and was said
abbrev pub SaysPayload : SpeakerState → Side → List ℕ → SpeakerState → Type 0
SaysPayload old side p new = (m : Message) × HasPayload side p m ×
    ((before : List Message) → Says old before → MaySay old.limits before m × Says new (before ++ m ∷ []))

-- the payload is refused after the messages that the speaker has said, by this case
abbrev pub RefusesPayload : SpeakerState → Side → List ℕ → PayloadFault → Type 0
RefusesPayload s side p e = (before : List Message) → Says s before → IsPayloadRefusal s.limits before side p e

-- a message has the payload, which may be said after those that the speaker has said
abbrev pub StandsPayload : SpeakerState → Side → List ℕ → Type 0
StandsPayload s side p = (m : Message) × HasPayload side p m × ((before : List Message) → Says s before → MaySay s.limits before m)

-- no message that has the payload may be said after those that the speaker has said
abbrev pub CannotSay : SpeakerState → Side → List ℕ → Type 0
CannotSay s side p = (before : List Message) → Says s before → (m : Message) → HasPayload side p m → MaySay s.limits before m → ⊥

-- ---- what a speaker knows

-- whatever was heard, this is the fault that a talk finds in the server's payload
abbrev pub HearsFault : Bool → Bool → Lanes → List ℕ → ItemFault → Type 0
HearsFault asked welcomed w p e = (v : Conversation) → Heard asked welcomed w v → Tells (IsServerFault v p) e

-- a frame has the payload, which the client may say whatever was heard, and has said
abbrev pub SaysClientPayload : Limits → Bool → Lanes → List ℕ → Lanes → Type 0
SaysClientPayload limits asked old p new = (f : ClientFrame) × (client_payload f ≡ p) × SaysClient limits asked old f new

-- whatever was heard, this is why the client may not say the payload
abbrev pub RefusesClientPayload : Limits → Bool → Lanes → List ℕ → PayloadFault → Type 0
RefusesClientPayload limits asked old p e = (welcomed : Bool) (v : Conversation) → Heard asked welcomed old v → IsClientPayloadRefusal limits v p e

-- a frame has the payload, which the client may say whatever was heard
abbrev pub StandsClientPayload : Limits → Bool → Lanes → List ℕ → Type 0
StandsClientPayload limits asked old p = (f : ClientFrame) × (client_payload f ≡ p) × StandsClient limits asked old f

-- and the server
abbrev pub SaysServerPayload : Limits → Bool → Bool → Lanes → List ℕ → Lanes → Type 0
SaysServerPayload limits asked welcomed old p new = (s : ServerFrame) × (server_payload s ≡ p) × SaysServer limits asked welcomed old s new

abbrev pub RefusesServerPayload : Limits → Bool → Bool → Lanes → List ℕ → PayloadFault → Type 0
RefusesServerPayload limits asked welcomed old p e = (v : Conversation) → Heard asked welcomed old v → IsServerPayloadRefusal limits v p e

abbrev pub StandsServerPayload : Limits → Bool → Bool → Lanes → List ℕ → Type 0
StandsServerPayload limits asked welcomed old p = (s : ServerFrame) × (server_payload s ≡ p) × StandsServer limits asked welcomed old s
