-- What may be said, message after message.
use Rattle.std.specs.Prelude.{◌≡◌, ◌≢◌, ℕ, ℤ, negsuc, ◌+◌, ◌≤◌, ◌<◌, ◌^◌, ◌⊎◌, List, [], ◌∷◌, ◌++◌, length, Bool, true, false, Some, None, slice_get}
use Rattle.std.specs.List.{flat_map, AllByRecursion}
use Rattle.zk_jute.specs.Item.{Item, Fit}
use Rattle.zk_asks.specs.{Held.Ask as Asked, Held.ClientFrame, Frames.IsFirst, Frames.IsLater, Frames.IsOfProfile, Frames.MaySend, Frames.ops_of_ask, Rows.op_of_ask}
use Rattle.zk_asks.specs.Frames as asks
use Rattle.zk_answers.specs.{Held.Reply, Held.ServerFrame, Frames.IsConnected, Frames.IsEvent, Frames.Fits, Frames.IsOutcome}
use Rattle.zk_answers.specs.declared.frame.ServerFrameOf.TheVariants.{Connected, Answered, Event}
use Rattle.zk_answers.specs.Frames as answers
use Rattle.zk_frames.specs.Framing.{frame}
use Rattle.zk_waiting.specs.{declared.lane.Lane.Lane, Lane.lane_of, Waiting.Lanes, Waiting.Request, Waiting.queue_on, Waiting.weight_of}
use Rattle.zk_talk.specs.{declared.message.Side.Side, Held.Message, declared.limits.Limits.Limits, declared.say.SayFault.SayFault, Payloads.client_payload, Payloads.server_payload, Splits.EachAfter}
use Rattle.zk_talk.specs.declared.message.Side.TheVariants.{Client, Server}
use Rattle.zk_talk.specs.declared.message.MessageOf.TheVariants.{Client as FromClient, Server as FromServer}
use Rattle.zk_talk.specs.declared.say.SayFault.TheVariants.{NotFirst, Unasked, XidOrder, Misfit, TooLong, QueueFull, NoMemory}
use Rattle.zk_talk.specs.{History.History, History.side_bytes, History.on, Good.clients, Good.servers, Fault.IsNext, Fault.side_limit, Queues.IsQueue}
use Rattle.zk_talk.specs.Conversation.{Conversation, ClientMay, ServerMay, asks_on, replies_on, load, weight, with_client, with_server}

abbrev pub side_of : Message → Side
side_of (FromClient f) = Client
side_of (FromServer s) = Server

abbrev pub payload_of : Message → List ℕ
payload_of (FromClient f) = client_payload f
payload_of (FromServer s) = server_payload s

-- the bytes of these messages, frame after frame
abbrev pub said : List Message → History
said messages = flat_map (λ m. on (side_of m) (frame (payload_of m))) messages

-- the payload is within its side's limit
abbrev pub IsWithin : Limits → Side × List ℕ → Type 0
IsWithin limits x = length x.1 ≤ side_limit limits x.0

-- the history is whole frames, one after another
abbrev pub AreFrames : Limits → History → Type 0
AreFrames limits h =
    (payloads : List (Side × List ℕ)) × (h ≡ flat_map (λ (x : Side × List ℕ). on x.0 (frame x.1)) payloads) × AllByRecursion (IsWithin limits) payloads

-- fewer bytes on each side than may be read
abbrev pub AreSized : List Message → Type 0
AreSized messages = (length (side_bytes Client (said messages)) < 2 ^ 62) × (length (side_bytes Server (said messages)) < 2 ^ 62)

-- the frames of each side among these messages
abbrev pub conversation_of : List Message → Conversation
conversation_of messages = record { client = clients messages; server = servers messages }

-- the frame may be said after those of v, within its side's limit and the load
abbrev pub IsSaidClient : Limits → Conversation → ClientFrame → Type 0
IsSaidClient limits v f = ClientMay limits.profile v.client f × (length (client_payload f) ≤ limits.client) ×
    (load (v.client ++ f ∷ []) v.server ≤ limits.waiting)

abbrev pub IsSaidServer : Limits → Conversation → ServerFrame → Type 0
IsSaidServer limits v s = ServerMay v.client v.server s × (length (server_payload s) ≤ limits.server)

-- the message may be said after these
abbrev pub MaySay : Limits → List Message → Message → Type 0
MaySay limits before (FromClient f) = IsSaidClient limits (conversation_of before) f
MaySay limits before (FromServer s) = IsSaidServer limits (conversation_of before) s

-- these messages, frame after frame, are a conversation within the limits and the load
abbrev pub AreSaid : Limits → List Message → Type 0
AreSaid limits messages = EachAfter (MaySay limits) messages

-- the xid is allowed for the operation, and the operation is of the profile
abbrev pub MayAsk : Limits → ClientFrame → Type 0
MayAsk limits f = MaySend f × IsOfProfile limits.profile f

-- why a message of the client is refused after those of v: the first case that applies
pub data IsClientRefusal (limits : Limits) (v : Conversation) (f : ClientFrame) (e : SayFault) : Type 0 where
  second_connect : v.client ≢ [] → IsFirst f → e ≡ NotFirst → IsClientRefusal limits v f e
  before_connect : v.client ≡ [] → IsLater f → e ≡ NotFirst → IsClientRefusal limits v f e
  not_allowed : v.client ≢ [] → IsLater f → (MayAsk limits f → ⊥) → e ≡ Misfit → IsClientRefusal limits v f e
  too_long : (v.client ≡ [] → IsFirst f) → (v.client ≢ [] → IsLater f) → MayAsk limits f →
      (Fit limits.client (asks.frame_items f) → ⊥) → e ≡ TooLong → IsClientRefusal limits v f e
  queue_full : v.client ≢ [] → IsLater f → MayAsk limits f → Fit limits.client (asks.frame_items f) →
      limits.waiting < load v.client v.server + weight f → e ≡ QueueFull → IsClientRefusal limits v f e

-- why a message of the server is refused after those of v: the first case that applies
pub data IsServerRefusal (limits : Limits) (v : Conversation) (s : ServerFrame) (e : SayFault) : Type 0 where
  second_connected : v.server ≢ [] → IsConnected s → e ≡ NotFirst → IsServerRefusal limits v s e
  before_connected : v.server ≡ [] → (IsConnected s → ⊥) → e ≡ NotFirst → IsServerRefusal limits v s e
  no_connect : v.server ≡ [] → IsConnected s → v.client ≡ [] → e ≡ Unasked → IsServerRefusal limits v s e
  long_connected : v.server ≡ [] → IsConnected s → v.client ≢ [] → (Fit limits.server (answers.frame_items s) → ⊥) → e ≡ TooLong → IsServerRefusal limits v s e
  long_event : v.server ≢ [] → IsEvent s → (Fit limits.server (answers.frame_items s) → ⊥) → e ≡ TooLong → IsServerRefusal limits v s e
  event_xid : v.server ≢ [] → (r : Reply) → s ≡ Answered r → r.xid ≡ negsuc 0 → e ≡ Misfit → IsServerRefusal limits v s e
  unasked : v.server ≢ [] → (r : Reply) → s ≡ Answered r → r.xid ≢ negsuc 0 →
      asks_on (lane_of r.xid) v.client ≤ replies_on (lane_of r.xid) v.server → e ≡ Unasked → IsServerRefusal limits v s e
  xid_order : v.server ≢ [] → (r : Reply) → s ≡ Answered r → r.xid ≢ negsuc 0 → (next : ℤ) (ask : Asked) →
      IsNext v (lane_of r.xid) next ask → next ≢ r.xid → e ≡ XidOrder next r.xid → IsServerRefusal limits v s e
  misfit : v.server ≢ [] → (r : Reply) → s ≡ Answered r → r.xid ≢ negsuc 0 → (ask : Asked) →
      IsNext v (lane_of r.xid) r.xid ask → (Fits (op_of_ask ask) (ops_of_ask ask) r → ⊥) → e ≡ Misfit →
      IsServerRefusal limits v s e
  long_reply : v.server ≢ [] → (r : Reply) → s ≡ Answered r → r.xid ≢ negsuc 0 → (ask : Asked) →
      IsNext v (lane_of r.xid) r.xid ask → Fits (op_of_ask ask) (ops_of_ask ask) r →
      (Fit limits.server (answers.frame_items s) → ⊥) → e ≡ TooLong → IsServerRefusal limits v s e

abbrev pub IsSayFault : Limits → List Message → Message → SayFault → Type 0
IsSayFault limits before (FromClient f) e = IsClientRefusal limits (conversation_of before) f e
IsSayFault limits before (FromServer s) e = IsServerRefusal limits (conversation_of before) s e

-- ---- what a speaker knows

abbrev pub HasSpoken : {X : Type 0} → Bool → List X → Type 0
HasSpoken true frames = frames ≢ []
HasSpoken false frames = frames ≡ []

pub record SpeakerState : Type 0 where
  pub limits : Limits
  pub asked : Bool
  pub welcomed : Bool
  pub waiting : Lanes

-- what is known of the frames so far: whether each side has spoken, and which requests wait
pub record Heard (asked welcomed : Bool) (waiting : Lanes) (v : Conversation) : Type 0 where
  pub client : HasSpoken asked v.client
  pub server : HasSpoken welcomed v.server
  pub may : EachAfter (ServerMay v.client) v.server
  pub queues : (lane : Lane) → IsQueue lane v (queue_on lane waiting)

-- these messages were said
pub record Says (s : SpeakerState) (messages : List Message) : Type 0 where
  pub said : AreSaid s.limits messages
  pub heard : Heard s.asked s.welcomed s.waiting (conversation_of messages)
  pub room : s.waiting.max ≡ s.limits.waiting

-- memory was refused, or the message has no spelling within the limit
abbrev pub IsUnwritten : ℕ → List Item → SayFault → Type 0
IsUnwritten limit items e = (e ≡ NoMemory) ⊎ ((e ≡ TooLong) × (Fit limit items → ⊥))

-- no room, or memory was refused
abbrev pub IsUnput : ClientFrame → Lanes → SayFault → Type 0
IsUnput f old e = (e ≡ NoMemory) ⊎ (IsLater f × (e ≡ QueueFull) × (old.max < weight_of old + weight f))

-- the request that the reply answers is the lane's oldest, and the reply fits it
abbrev pub FitsNext : Lanes → Reply → Type 0
FitsNext w r =
    (r.xid ≢ negsuc 0) × ((q : Request) × (slice_get (queue_on (lane_of r.xid) w) 0 ≡ Some q) × (q.xid ≡ r.xid) × Fits q.op q.parts r) × IsOutcome r.outcome

-- why it is not so: the first case that applies
pub data IsUnfit (w : Lanes) (r : Reply) (e : SayFault) : Type 0 where
  not_a_reply : r.xid ≡ negsuc 0 → e ≡ Misfit → IsUnfit w r e
  none_waits : r.xid ≢ negsuc 0 → slice_get (queue_on (lane_of r.xid) w) 0 ≡ None → e ≡ Unasked → IsUnfit w r e
  other_waits : r.xid ≢ negsuc 0 → (q : Request) → slice_get (queue_on (lane_of r.xid) w) 0 ≡ Some q → q.xid ≢ r.xid → e ≡ XidOrder q.xid r.xid → IsUnfit w r e
  unlike : r.xid ≢ negsuc 0 → (q : Request) → slice_get (queue_on (lane_of r.xid) w) 0 ≡ Some q → q.xid ≡ r.xid →
      (Fits q.op q.parts r → ⊥) → e ≡ Misfit → IsUnfit w r e

-- what the server's message answers is there
abbrev pub MayAnswer : Bool → Lanes → ServerFrame → Type 0
MayAnswer asked w (Connected hello read_only) = asked ≡ true
MayAnswer asked w (Answered r) = FitsNext w r
MayAnswer asked w (Event zxid event) = Unit {0}

abbrev pub CannotAnswer : Bool → Lanes → ServerFrame → SayFault → Type 0
CannotAnswer asked w (Connected hello read_only) e = (asked ≡ false) × (e ≡ Unasked)
CannotAnswer asked w (Answered r) e = IsUnfit w r e
CannotAnswer asked w (Event zxid event) e = ⊥

-- whatever was heard, the client may say this after it, and has said it
abbrev pub SaysClient : Limits → Bool → Lanes → ClientFrame → Lanes → Type 0
SaysClient limits asked old f new = (welcomed : Bool) (v : Conversation) → Heard asked welcomed old v →
    IsSaidClient limits v f × Heard true welcomed new (with_client v f)

-- whatever was heard, this is why the client may not say it
abbrev pub RefusesClient : Limits → Bool → Lanes → ClientFrame → SayFault → Type 0
RefusesClient limits asked old f e = (welcomed : Bool) (v : Conversation) → Heard asked welcomed old v → IsClientRefusal limits v f e

-- whatever was heard, the client may say it after it
abbrev pub StandsClient : Limits → Bool → Lanes → ClientFrame → Type 0
StandsClient limits asked old f = (welcomed : Bool) (v : Conversation) → Heard asked welcomed old v → IsSaidClient limits v f

-- and the server
abbrev pub SaysServer : Limits → Bool → Bool → Lanes → ServerFrame → Lanes → Type 0
SaysServer limits asked welcomed old s new = (v : Conversation) → Heard asked welcomed old v → IsSaidServer limits v s × Heard asked true new (with_server v s)

abbrev pub RefusesServer : Limits → Bool → Bool → Lanes → ServerFrame → SayFault → Type 0
RefusesServer limits asked welcomed old s e = (v : Conversation) → Heard asked welcomed old v → IsServerRefusal limits v s e

abbrev pub StandsServer : Limits → Bool → Bool → Lanes → ServerFrame → Type 0
StandsServer limits asked welcomed old s = (v : Conversation) → Heard asked welcomed old v → IsSaidServer limits v s
