-- How a payload's judgement is reported.
use Rattle.std.specs.Prelude.{◌≡◌, ℕ, ◌<◌, ◌≤◌, ◌+◌, ◌⊎◌, List, drop, Option, Some, None, slice_get}
use Rattle.zk_jute.specs.{declared.fault.ItemFault.ItemFault, declared.fault.Reason.Reason, declared.fault.Reason.TheVariants.QueueFull, Reading.told_place, Reading.no_memory}
use Rattle.zk_records.specs.declared.profile.Profile.{Profile}
use Rattle.zk_asks.specs.{Held.ClientFrame, Frames.IsFirst, Frames.IsLater, Frames.IsOfProfile, Frames.ops_of_ask, Rows.op_of_ask, Faults.IsFirstFault, Faults.IsAskFault}
use Rattle.zk_asks.specs.declared.frame.ClientFrameOf.TheVariants.{Connect, Ask}
use Rattle.zk_answers.specs.{Frames.IsReplyTo, Frames.op_of_reply, Held.ServerFrame}
use Rattle.zk_answers.specs.declared.frame.ServerFrameOf.TheVariants.{Connected, Answered, Event}
use Rattle.zk_waiting.specs.Lane.{lane_of}
use Rattle.zk_waiting.specs.Waiting.{Lanes, Request, queue_on, weight_of, IsPut, IsDropped}
use Rattle.zk_asks.specs.Frames as asks
use Rattle.zk_talk.specs.{declared.limits.Limits.Limits, declared.replied.Replied.Replied, Payloads.client_payload, Payloads.server_payload, Fault.IsClientFault, Fault.IsServerFault, Streams.StreamState}
use Rattle.zk_talk.specs.{Viewed.ShowsClient, Viewed.ShowsServer, Describes.Describes, Conversation.Conversation, Conversation.ServerMay, Conversation.weight}

-- the fault, with its place in 32 bits
abbrev pub Tells : (ℕ → Reason → Type 0) → ItemFault → Type 0
Tells IsTheFault e = (place : ℕ) × IsTheFault place e.reason × (e.place ≡ told_place place)

-- the fault of the client's payload after `count` frames, and of the server's, whatever is known of the conversation
abbrev pub TellsClient : Profile → ℕ → Lanes → List ℕ → ItemFault → Type 0
TellsClient profile count waiting p e = (limits : Limits) (m : ℕ) (v : Conversation) → limits.waiting ≡ waiting.max →
    limits.profile ≡ profile → Describes count m waiting v → Tells (IsClientFault limits v p) e

abbrev pub TellsServer : ℕ → ℕ → Lanes → List ℕ → ItemFault → Type 0
TellsServer asked count waiting p e = (v : Conversation) → Describes asked count waiting v → Tells (IsServerFault v p) e

-- the fault of a server's payload after its first
abbrev pub TellsLater : Lanes → List ℕ → ItemFault → Type 0
TellsLater waiting p e = (n m : ℕ) (v : Conversation) → (m ≡ 0 → ⊥) → Describes n m waiting v → Tells (IsServerFault v p) e

-- by the number of frames before it: the first frame's kind, or another's, of the profile
abbrev pub IsInTurn : Profile → ℕ → ClientFrame → Type 0
IsInTurn profile count f = (count ≡ 0 → IsFirst f) × ((count ≡ 0 → ⊥) → IsLater f × IsOfProfile profile f)

-- the fault of such a payload
abbrev pub IsTurnFault : Profile → ℕ → List ℕ → ItemFault → Type 0
IsTurnFault profile count p e = (count ≡ 0 → Tells (IsFirstFault p) e) × ((count ≡ 0 → ⊥) → Tells (IsAskFault profile p) e)

-- memory was refused, or the queue is full
abbrev pub IsPutRefusal : ClientFrame → Lanes → ItemFault → Type 0
IsPutRefusal f old e = (e ≡ no_memory) ⊎ (IsLater f × (e ≡ record { place = 0; reason = QueueFull }) × (old.max < weight_of old + weight f))

-- there is room for what is to wait for the frame's reply
abbrev pub HasRoomFor : ClientFrame → Lanes → Type 0
HasRoomFor (Connect hello read_only) w = Unit {0}
HasRoomFor (Ask xid ask) w = weight_of w + weight (Ask xid ask) ≤ w.max

-- the frame of this number waits for its reply, if it is to have one
abbrev pub IsNumbered : ℕ → ClientFrame → Lanes → Lanes → Type 0
IsNumbered number (Connect hello read_only) old new = new ≡ old
IsNumbered number (Ask xid ask) old new = (weight_of old + weight (Ask xid ask) ≤ old.max) ×
    IsPut (lane_of xid) (record { xid = xid; op = op_of_ask ask; parts = ops_of_ask ask; frame = number }) old new

-- the frame waits for its reply, if it is to have one; no number is said
abbrev pub IsRemembered : ClientFrame → Lanes → Lanes → Type 0
IsRemembered f old new = IsNumbered 0 f old new

-- a reply has an ask in its lane
abbrev pub HasAsk : ServerFrame → Lanes → Type 0
HasAsk (Connected hello read_only) w = Unit {0}
HasAsk (Answered reply) w = (r : Request) × (slice_get (queue_on (lane_of reply.xid) w) 0 ≡ Some r)
HasAsk (Event zxid event) w = Unit {0}

-- a reply fits the oldest ask of its lane
abbrev pub IsDue : ServerFrame → Lanes → Type 0
IsDue (Connected hello read_only) w = Unit {0}
IsDue (Answered reply) w = (r : Request) × (slice_get (queue_on (lane_of reply.xid) w) 0 ≡ Some r) × IsReplyTo r.op r.parts (Answered reply)
IsDue (Event zxid event) w = Unit {0}

-- the ask that it answers is dropped
abbrev pub IsForgotten : ServerFrame → Lanes → Lanes → Type 0
IsForgotten (Connected hello read_only) old new = new ≡ old
IsForgotten (Answered reply) old new = IsDropped (lane_of reply.xid) old new
IsForgotten (Event zxid event) old new = new ≡ old

-- the client's frame with this payload, after `count` frames: it may come now, and there is room for it
pub record IsNextClient (profile : Profile) (count : ℕ) (waiting : Lanes) (p : List ℕ) (f : ClientFrame) : Type 0 where
  pub turn : IsInTurn profile count f
  pub sent : asks.IsSent f
  pub is : client_payload f ≡ p
  pub room : HasRoomFor f waiting

-- the server's frame with this payload, after `asked` frames of the client and `count` of the server: it may come now
pub record IsNextServer (asked count : ℕ) (waiting : Lanes) (p : List ℕ) (s : ServerFrame) : Type 0 where
  pub due : HasAsk s waiting
  pub is : server_payload s ≡ p
  pub may : (v : Conversation) → Describes asked count waiting v → ServerMay v.client v.server s

-- the stream holds a frame that may come next
abbrev pub HasNextClient : Profile → StreamState → Lanes → Type 0
HasNextClient profile stream waiting = (f : ClientFrame) × IsNextClient profile stream.count waiting (drop 4 stream.held) f

abbrev pub HasNextServer : ℕ → StreamState → Lanes → Type 0
HasNextServer asked stream waiting = (s : ServerFrame) × IsNextServer asked stream.count waiting (drop 4 stream.held) s

-- the request that the frame answers, if it is a reply: the oldest of its lane
abbrev pub TellsReplied : ServerFrame → Lanes → Option Replied → Type 0
TellsReplied (Connected hello read_only) w told = told ≡ None
TellsReplied (Answered reply) w told = (r : Request) × (slice_get (queue_on (lane_of reply.xid) w) 0 ≡ Some r) ×
    (told ≡ Some (record { op = op_of_reply reply; frame = r.frame }))
TellsReplied (Event zxid event) w told = told ≡ None

-- the client's frame of these bytes may come next, and then waits for its reply
abbrev pub PassesClient : Profile → StreamState → Lanes → List ℕ → ClientFrame → Lanes → Type 0
PassesClient profile old waiting bytes f waits = IsNextClient profile old.count waiting (drop 4 bytes) f × IsNumbered old.count f waiting waits

-- the server's frame of these bytes may come next, and the ask that it answers is then dropped
abbrev pub PassesServer : ℕ → StreamState → Lanes → List ℕ → ServerFrame → Lanes → Type 0
PassesServer asked old waiting bytes s waits = IsNextServer asked old.count waiting (drop 4 bytes) s × IsForgotten s waiting waits

-- the client's frame that may come next is counted and kept, and waits for its reply
abbrev pub KeepsClient : Profile → StreamState → Lanes → ClientFrame → Lanes → StreamState → Type 0
KeepsClient profile old waiting f waits new = IsNextClient profile old.count waiting (drop 4 old.held) f ×
    IsNumbered old.count f waiting waits × ShowsClient new.count new.kept f

-- the server's frame that may come next is counted and kept, and the ask that it answers is dropped
abbrev pub KeepsServer : ℕ → StreamState → Lanes → Option Replied → ServerFrame → Lanes → StreamState → Type 0
KeepsServer asked old waiting answered s waits new = IsNextServer asked old.count waiting (drop 4 old.held) s ×
    IsForgotten s waiting waits × ShowsServer new.count answered new.kept s × TellsReplied s waiting answered
