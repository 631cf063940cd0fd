-- A conversation: the frames of the client and those of the server, and which frame answers which.
use Rattle.std.specs.Prelude.{◌≡◌, ◌≢◌, ℕ, ◌+◌, List, [], ◌∷◌, ◌++◌, length, filter, Bool, false, if◌then◌else◌, nat_le}
use Rattle.zk_records.specs.declared.profile.Profile.{Profile}
use Rattle.zk_asks.specs.{Held.Ask as Asked, Held.ClientFrame, Frames.IsFirst, Frames.IsLater, Frames.IsOfProfile, Frames.ops_of_ask, Rows.op_of_ask}
use Rattle.zk_asks.specs.declared.frame.ClientFrameOf.TheVariants.{Connect, Ask}
use Rattle.zk_asks.specs.Frames as asks
use Rattle.zk_answers.specs.{Held.Reply, Held.ServerFrame, Frames.Fits}
use Rattle.zk_answers.specs.declared.frame.ServerFrameOf.TheVariants.{Connected, Answered, Event}
use Rattle.zk_answers.specs.Frames as answers
use Rattle.zk_waiting.specs.{declared.lane.Lane.Lane, Lane.lane_of, Lane.same_lane}
use Rattle.zk_talk.specs.Splits.{EachAfter}

abbrev pub is_ask_on : Lane → ClientFrame → Bool
is_ask_on lane (Connect hello read_only) = false
is_ask_on lane (Ask xid ask) = same_lane lane (lane_of xid)

abbrev pub is_reply_on : Lane → ServerFrame → Bool
is_reply_on lane (Connected hello read_only) = false
is_reply_on lane (Answered reply) = same_lane lane (lane_of reply.xid)
is_reply_on lane (Event zxid event) = false

-- how many asks, and how many replies, of the lane are among these
abbrev pub asks_on : Lane → List ClientFrame → ℕ
asks_on lane frames = length (filter (is_ask_on lane) frames)

abbrev pub replies_on : Lane → List ServerFrame → ℕ
replies_on lane frames = length (filter (is_reply_on lane) frames)

-- The server's frame, after these of the server, answers the client's frame, after these of the client: the reply
-- answers the ask that has as many asks of its lane before it as the reply has replies of its lane before it.
abbrev pub Answers : List ServerFrame → ServerFrame → List ClientFrame → ClientFrame → Type 0
Answers sent (Connected hello read_only) asked (Connect first flag) = Unit {0}
Answers sent (Answered reply) asked (Ask xid ask) =
    (lane_of xid ≡ lane_of reply.xid) × (asks_on (lane_of reply.xid) asked ≡ replies_on (lane_of reply.xid) sent)
Answers sent (Connected hello read_only) asked (Ask xid ask) = ⊥
Answers sent (Answered reply) asked (Connect first flag) = ⊥
Answers sent (Event zxid event) asked frame = ⊥

-- The frame may come after these of the client: a connect request first, then requests of the profile.
abbrev pub ClientMay : Profile → List ClientFrame → ClientFrame → Type 0
ClientMay profile [] f = IsFirst f × asks.IsSent f
ClientMay profile (first ∷ more) f = IsLater f × asks.IsSent f × IsOfProfile profile f

-- What the reply answers: an ask of the same xid, which it fits.
pub record IsAnswered (client : List ClientFrame) (sent : List ServerFrame) (reply : Reply) : Type 0 where
  pub asked : List ClientFrame
  pub ask : Asked
  pub after : List ClientFrame
  pub stands : client ≡ asked ++ Ask reply.xid ask ∷ after
  pub fits : Fits (op_of_ask ask) (ops_of_ask ask) reply
  pub counts : asks_on (lane_of reply.xid) asked ≡ replies_on (lane_of reply.xid) sent

-- The frame may come after these of the server, where the client's frames are these: the reply to the connect request
-- first, then events, and replies that answer.
abbrev pub ServerMay : List ClientFrame → List ServerFrame → ServerFrame → Type 0
ServerMay client [] (Connected hello read_only) = answers.IsSent (Connected hello read_only) × (client ≢ [])
ServerMay client [] (Answered reply) = ⊥
ServerMay client [] (Event zxid event) = ⊥
ServerMay client (first ∷ more) (Connected hello read_only) = ⊥
ServerMay client (first ∷ more) (Answered reply) = answers.IsSent (Answered reply) × IsAnswered client (first ∷ more) reply
ServerMay client (first ∷ more) (Event zxid event) = answers.IsSent (Event zxid event)

pub record Conversation : Type 0 where
  pub client : List ClientFrame
  pub server : List ServerFrame

-- the conversation with one more frame of the client, or of the server
abbrev pub with_client : Conversation → ClientFrame → Conversation
with_client v f = record { client = v.client ++ f ∷ []; server = v.server }

abbrev pub with_server : Conversation → ServerFrame → Conversation
with_server v s = record { client = v.client; server = v.server ++ s ∷ [] }

pub record IsConversation (profile : Profile) (v : Conversation) : Type 0 where
  pub client : EachAfter (ClientMay profile) v.client
  pub server : EachAfter (ServerMay v.client) v.server

-- an ask weighs 1, and one more for each part of a multi
abbrev pub weight : ClientFrame → ℕ
weight (Connect hello read_only) = 0
weight (Ask xid ask) = 1 + length (ops_of_ask ask)

-- whether no reply among these answers the ask that has these before it
abbrev pub is_unanswered : List ServerFrame → List ClientFrame → ClientFrame → Bool
is_unanswered sent asked (Connect hello read_only) = false
is_unanswered sent asked (Ask xid ask) = nat_le (replies_on (lane_of xid) sent) (asks_on (lane_of xid) asked)

-- a sum over the asks that no reply among these answers, where `asked` comes before them
abbrev pub sum_waiting : (ClientFrame → ℕ) → List ClientFrame → List ClientFrame → List ServerFrame → ℕ
sum_waiting of asked [] sent = 0
sum_waiting of asked (f ∷ fs) sent = (if is_unanswered sent asked f then of f else 0) + sum_waiting of (asked ++ f ∷ []) fs sent

-- the number of the asks that wait
abbrev pub number_waiting : List ClientFrame → List ServerFrame → ℕ
number_waiting client server = sum_waiting (λ f. 1) [] client server

-- the weight of the asks that wait
abbrev pub load : List ClientFrame → List ServerFrame → ℕ
load client server = sum_waiting weight [] client server
