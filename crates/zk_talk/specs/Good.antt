-- Histories that spell conversations.
use Rattle.std.specs.Prelude.{◌≡◌, ℕ, ◌≤◌, ◌<◌, ◌^◌, List, [], ◌∷◌, ◌++◌, length, map}
use Rattle.zk_asks.specs.Held.{ClientFrame}
use Rattle.zk_answers.specs.Held.{ServerFrame}
use Rattle.zk_talk.specs.{Payloads.client_payload, Payloads.server_payload, Held.Message, declared.limits.Limits.Limits, History.History, History.side_bytes}
use Rattle.zk_talk.specs.declared.message.Side.TheVariants.{Client, Server}
use Rattle.zk_talk.specs.declared.message.MessageOf.TheVariants.{Client as FromClient, Server as FromServer}
use Rattle.zk_frames.specs.Framing.{frames, IsCut}
use Rattle.zk_talk.specs.Conversation.{Conversation, IsConversation, Answers, load}

abbrev pub client_payloads : List ClientFrame → List (List ℕ)
client_payloads fs = map client_payload fs

abbrev pub server_payloads : List ServerFrame → List (List ℕ)
server_payloads fs = map server_payload fs

-- the bytes of a side of a conversation
abbrev pub client_bytes : List ClientFrame → List ℕ
client_bytes fs = frames (client_payloads fs)

abbrev pub server_bytes : List ServerFrame → List ℕ
server_bytes fs = frames (server_payloads fs)

-- In each front of the history: where an answer is whole, so is what it answers.
abbrev pub IsCausal : Conversation → History → Type 0
IsCausal v h =
    (front rest : History) → h ≡ front ++ rest →
    (sent : List ServerFrame) (s : ServerFrame) (later : List ServerFrame) → v.server ≡ sent ++ s ∷ later →
    (asked : List ClientFrame) (c : ClientFrame) (further : List ClientFrame) → v.client ≡ asked ++ c ∷ further →
    Answers sent s asked c →
    length (server_bytes (sent ++ s ∷ [])) ≤ length (side_bytes Server front) →
    length (client_bytes (asked ++ c ∷ [])) ≤ length (side_bytes Client front)

-- The history is the frames of these frames' payloads, and then a beginning on each side.
pub record IsWhole (limits : Limits) (h : History) (client : List ClientFrame) (server : List ServerFrame) (client_rest server_rest : List ℕ) : Type 0 where
  pub client_cut : IsCut limits.client (side_bytes Client h) (client_payloads client) client_rest
  pub server_cut : IsCut limits.server (side_bytes Server h) (server_payloads server) server_rest

-- these and no others are the frames whole in the history
abbrev pub AreWholeIn : Limits → History → List ClientFrame → List ServerFrame → Type 0
AreWholeIn limits h client server = (client_rest server_rest : List ℕ) × IsWhole limits h client server client_rest server_rest

-- In each front the asks that wait weigh no more than the limit.
abbrev pub IsBounded : Limits → Conversation → History → Type 0
IsBounded limits v h =
    (front rest : History) → h ≡ front ++ rest →
    (client further : List ClientFrame) → v.client ≡ client ++ further →
    (server later : List ServerFrame) → v.server ≡ server ++ later →
    AreWholeIn limits front client server → load client server ≤ limits.waiting

pub record Good (limits : Limits) (h : History) (v : Conversation) (client_rest server_rest : List ℕ) : Type 0 where
  pub conversation : IsConversation limits.profile v
  pub whole : IsWhole limits h v.client v.server client_rest server_rest
  pub causal : IsCausal v h
  pub bounded : IsBounded limits v h
  pub client_size : length (side_bytes Client h) < 2 ^ 62
  pub server_size : length (side_bytes Server h) < 2 ^ 62

abbrev pub IsGood : Limits → History → Type 0
IsGood limits h = (v : Conversation) × (client_rest : List ℕ) × (server_rest : List ℕ) × Good limits h v client_rest server_rest

-- the client's frames among these messages, and the server's
abbrev pub clients : List Message → List ClientFrame
clients [] = []
clients (FromClient f ∷ ms) = f ∷ clients ms
clients (FromServer f ∷ ms) = clients ms

abbrev pub servers : List Message → List ServerFrame
servers [] = []
servers (FromClient f ∷ ms) = servers ms
servers (FromServer f ∷ ms) = f ∷ servers ms

-- the messages of v by the places of their last bytes in h: those that are whole in a front of h come first
pub record IsOrder (limits : Limits) (h : History) (v : Conversation) (messages : List Message) : Type 0 where
  pub client : clients messages ≡ v.client
  pub server : servers messages ≡ v.server
  pub fronts : (front rest : History) → h ≡ front ++ rest →
      (first more : List Message) × (messages ≡ first ++ more) × AreWholeIn limits front (clients first) (servers first)

-- what a good history spells: its conversation, and the beginning of a frame after it on each side
pub record Spelt (limits : Limits) (h : History) : Type 0 where
  pub conversation : Conversation
  pub client_rest : List ℕ
  pub server_rest : List ℕ
  pub good : Good limits h conversation client_rest server_rest

-- a good history, and its messages in their order
pub record Ordered (limits : Limits) (h : History) : Type 0 where
  pub spelt : Spelt limits h
  pub messages : List Message
  pub order : IsOrder limits h spelt.conversation messages

-- whole frames and nothing after them, which are these messages in their order
abbrev pub AreWholly : Limits → History → Conversation → List Message → Type 0
AreWholly limits h v messages = Good limits h v [] [] × IsOrder limits h v messages

-- the two are one conversation, and one beginning on each side
abbrev pub AreSpeltAlike : {limits : Limits} → {h : History} → Spelt limits h → Spelt limits h → Type 0
AreSpeltAlike a b = (a.conversation ≡ b.conversation) × (a.client_rest ≡ b.client_rest) × (a.server_rest ≡ b.server_rest)

-- the messages of this conversation have one order at most
abbrev pub HasOneOrder : Limits → History → Conversation → Type 0
HasOneOrder limits h v = (messages others : List Message) → IsOrder limits h v messages → IsOrder limits h v others → messages ≡ others
