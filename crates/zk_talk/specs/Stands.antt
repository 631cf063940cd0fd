-- Which history a talk has come through.
use Rattle.std.specs.Prelude.{◌≡◌, ◌≢◌, ℕ, ◌<◌, ◌^◌, List, [], ◌∷◌, ◌++◌, length, Option, Some, None}
use Rattle.zk_waiting.specs.{declared.lane.Lane.Lane, Waiting.Lanes, Waiting.queue_on, Waiting.weight_of}
use Rattle.zk_talk.specs.{declared.message.Side.Side, Held.Message, declared.message.Fault.Fault, declared.limits.Limits.Limits, History.History, History.side_bytes, Conversation.Conversation, Conversation.load, Good.Good, Good.IsOrder}
use Rattle.zk_talk.specs.declared.message.Side.TheVariants.{Client, Server}
use Rattle.zk_talk.specs.{Fault.IsFaultOf, Fault.rest_on, Queues.IsQueue, Numbers.AreNumbered, Numbers.IsNewest, declared.replied.Replied.Replied}

-- what is known of a talk; `answered` is the request that the newest frame of the server that was kept answers
pub record TalkState : Type 0 where
  pub limits : Limits
  pub client_held : List ℕ
  pub server_held : List ℕ
  pub client_kept : List ℕ
  pub server_kept : List ℕ
  pub waiting : Lanes
  pub client_frames : ℕ
  pub server_frames : ℕ
  pub client_size : ℕ
  pub server_size : ℕ
  pub answered : Option Replied
  pub fault : Option Fault

abbrev pub held_on : Side → TalkState → List ℕ
held_on Client t = t.client_held
held_on Server t = t.server_held

-- the side's frame that is counted, and kept until the side's next call
abbrev pub kept_on : Side → TalkState → List ℕ
kept_on Client t = t.client_kept
kept_on Server t = t.server_kept

-- this holds where the talk keeps a frame of the server
abbrev pub WhereKept : TalkState → Type 0 → Type 0
WhereKept t Says = (kept_on Server t ≡ [] → ⊥) → Says

-- The talk has come through this history, and has given these messages.
pub record Stands (t : TalkState) (h : History) (messages : List Message) : Type 0 where
  pub conversation : Conversation
  pub good : Good t.limits h conversation t.client_held t.server_held
  pub order : IsOrder t.limits h conversation messages
  pub client_frames : t.client_frames ≡ length conversation.client
  pub server_frames : t.server_frames ≡ length conversation.server
  pub client_size : t.client_size ≡ length (side_bytes Client h)
  pub server_size : t.server_size ≡ length (side_bytes Server h)
  pub queues : (lane : Lane) → IsQueue lane conversation (queue_on lane t.waiting)
  pub numbers : AreNumbered conversation t.waiting
  pub newest : (t.server_kept ≡ [] → ⊥) → IsNewest conversation t.answered
  pub no_fault : t.fault ≡ None

-- this holds of any conversation that the talk's history spells, and of what its sides have begun
abbrev pub WhereItStands : TalkState → (Conversation → List ℕ → List ℕ → Type 0) → Type 0
WhereItStands t Says = (h : History) (M : List Message) (v : Conversation) (client_rest server_rest : List ℕ)
    → Stands t h M → Good t.limits h v client_rest server_rest → Says v client_rest server_rest

-- The talk has refused this history, after these messages. The counts of frames and what waits are those before the byte
-- that decided it. Each side holds its beginning of then; that byte's side holds the byte too, unless it is one too many.
pub record Refuses (t : TalkState) (h : History) (messages : List Message) (fault : Fault) : Type 0 where
  pub kept : t.fault ≡ Some fault
  pub is : IsFaultOf t.limits h fault
  pub order : IsOrder t.limits is.before is.conversation messages
  pub queues : (lane : Lane) → IsQueue lane is.conversation (queue_on lane t.waiting)
  pub client_frames : t.client_frames ≡ length is.conversation.client
  pub server_frames : t.server_frames ≡ length is.conversation.server
  pub newest : (t.server_kept ≡ [] → ⊥) → IsNewest is.conversation t.answered
  pub load : weight_of t.waiting ≡ load is.conversation.client is.conversation.server
  pub held : fault.offset < 2 ^ 62 → held_on fault.side t ≡ rest_on fault.side is.client_rest is.server_rest ++ is.byte ∷ []
  pub too_many : fault.offset ≡ 2 ^ 62 → held_on fault.side t ≡ rest_on fault.side is.client_rest is.server_rest
  pub other : (side : Side) → side ≢ fault.side → held_on side t ≡ rest_on side is.client_rest is.server_rest

-- this holds of the conversation before the fault of any history that the talk has refused
abbrev pub WhereItRefuses : TalkState → (Conversation → Type 0) → Type 0
WhereItRefuses t Says = (h : History) (M : List Message) (f : Fault) (r : Refuses t h M f) → Says r.is.conversation

abbrev pub frames_on : Side → TalkState → ℕ
frames_on Client t = t.client_frames
frames_on Server t = t.server_frames

abbrev pub size_on : Side → TalkState → ℕ
size_on Client t = t.client_size
size_on Server t = t.server_size
