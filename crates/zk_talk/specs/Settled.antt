-- What is known of a frame that is judged without being made.
use Rattle.std.specs.Prelude.{◌≡◌, ℕ, ℤ, Bool, List, Option, Some, None, MatchBool}
use Rattle.zk_records.specs.declared.profile.Profile.{Profile}
use Rattle.zk_asks.specs.{Held.ClientFrame, declared.judge.Outline.Outline, Fronts.asking_of}
use Rattle.zk_asks.specs.Frames as asks
use Rattle.zk_answers.specs.Held.{Reply, ServerFrame}
use Rattle.zk_answers.specs.declared.frame.ServerFrameOf.TheVariants.{Connected, Answered, Event}
use Rattle.zk_answers.specs.Frames as answers
use Rattle.zk_waiting.specs.{declared.lane.Lane.Lane, Lane.lane_of, Waiting.Lanes}
use Rattle.zk_talk.specs.{Payloads.client_payload, Payloads.server_payload, Conversation.Conversation, Conversation.ServerMay, Describes.Describes, declared.replied.Replied.Replied}
use Rattle.zk_talk.specs.{Judged.IsInTurn, Judged.IsNumbered, Judged.IsDue, Judged.IsForgotten, Judged.TellsReplied, Said.Heard}

-- ---- a client's frame

-- the client's frame with this payload asks this
abbrev pub IsAsking : Option Outline → List ℕ → ClientFrame → Type 0
IsAsking asked p f = (asking_of f ≡ asked) × asks.IsSent f × (client_payload f ≡ p)

-- the client's frame with this payload, after `count` frames, may come now, and asks this
pub record IsComing (profile : Profile) (count : ℕ) (p : List ℕ) (asked : Option Outline) (f : ClientFrame) : Type 0 where
  pub turn : IsInTurn profile count f
  pub sent : asks.IsSent f
  pub is : client_payload f ≡ p
  pub asks : asking_of f ≡ asked

-- the client's frame with this payload, after `count` frames, may come now, and waits for its reply under this number
pub record IsAwaited (profile : Profile) (count number : ℕ) (p : List ℕ) (old new : Lanes) (f : ClientFrame) : Type 0 where
  pub turn : IsInTurn profile count f
  pub sent : asks.IsSent f
  pub is : client_payload f ≡ p
  pub waits : IsNumbered number f old new

-- ---- a server's

-- the reply with this payload and this xid, to the request that waits, may come after any frame but the first
pub record IsDueReply (number : ℤ) (p : List ℕ) (asked : Replied) (waiting : Lanes) (r : Reply) : Type 0 where
  pub xid : r.xid ≡ number
  pub told : TellsReplied (Answered r) waiting (Some asked)
  pub due : IsDue (Answered r) waiting
  pub sent : answers.IsSent (Answered r)
  pub is : server_payload (Answered r) ≡ p
  pub may : (n m : ℕ) (v : Conversation) → (m ≡ 0 → ⊥) → Describes n m waiting v → ServerMay v.client v.server (Answered r)

-- the request that is replied to, without its lane
abbrev pub replied_of : Option (Lane × Replied) → Option Replied
replied_of None = None
replied_of (Some (lane, told)) = Some told

-- the frame replies to this request of this lane, the lane's oldest; or it is no reply
abbrev pub Answers : ServerFrame → Lanes → Option (Lane × Replied) → Type 0
Answers (Connected hello read_only) w answer = answer ≡ None
Answers (Answered reply) w answer = (told : Replied) × (answer ≡ Some (lane_of reply.xid, told)) × TellsReplied (Answered reply) w (Some told)
Answers (Event zxid event) w answer = answer ≡ None

-- the reply to the connect request, or a frame after it
abbrev pub IsTurn : Bool → ServerFrame → Type 0
IsTurn welcomed s = MatchBool welcomed (answers.IsConnected s → ⊥) (answers.IsConnected s)

-- the same, after `count` frames of the server
abbrev pub IsTurnAfter : ℕ → ServerFrame → Type 0
IsTurnAfter count s = (count ≡ 0 → answers.IsConnected s) × ((count ≡ 0 → ⊥) → answers.IsConnected s → ⊥)

-- the server's frame with this payload may come now, whatever was heard, and replies to this, or to nothing
pub record IsHeard (asked welcomed : Bool) (p : List ℕ) (waiting : Lanes) (answer : Option (Lane × Replied)) (s : ServerFrame) : Type 0 where
  pub turn : IsTurn welcomed s
  pub replies : Answers s waiting answer
  pub due : IsDue s waiting
  pub sent : answers.IsSent s
  pub is : server_payload s ≡ p
  pub may : (v : Conversation) → Heard asked welcomed waiting v → ServerMay v.client v.server s

-- the server's frame with this payload, after `asked` frames of the client and `count` of the server, may come now; it
-- answers this request, which is dropped, or none
pub record IsSettled (asked count : ℕ) (p : List ℕ) (answered : Option Replied) (old new : Lanes) (s : ServerFrame) : Type 0 where
  pub turn : IsTurnAfter count s
  pub told : TellsReplied s old answered
  pub due : IsDue s old
  pub sent : answers.IsSent s
  pub is : server_payload s ≡ p
  pub forgotten : IsForgotten s old new
  pub may : (v : Conversation) → Describes asked count old v → ServerMay v.client v.server s
