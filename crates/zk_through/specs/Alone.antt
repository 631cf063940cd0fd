-- What a passage of which nothing is left out has in common with a talk that gets all bytes.
use Rattle.std.specs.Prelude.{◌≡◌, ◌<◌, ◌^◌, List, length, false}
use Rattle.zk_talk.specs.{declared.message.Side.Side, declared.limits.Limits.Limits, Held.Message, History.History, History.side_bytes, Fault.side_limit}
use Rattle.zk_talk.specs.{Conversation.Conversation, Good.Good, Good.IsOrder}
use Rattle.zk_through.specs.{Came.Came, LeftOut.HasNoneOut, Runs.ThroughState}

-- limits and sizes as a talk may have
abbrev pub AreOfTalk : Limits → History → Type 0
AreOfTalk limits h = (side : Side) → (side_limit limits side < 2 ^ 31) × (length (side_bytes side h) < 2 ^ 62)

-- The history is that of one conversation, of which these are the messages in their order, and after it each side has begun
-- what the passage holds.
abbrev pub IsSpelt : ThroughState → History → List Message → Type 0
IsSpelt t h messages = (v : Conversation) × Good t.talk.limits h v t.client.held t.server.held × IsOrder t.talk.limits h v messages

-- so it is where none of the frames is left out, of a connection that is seen from its beginning
abbrev pub PassesAlone : ThroughState → History → Came → List Message → Type 0
PassesAlone t h came messages = t.late ≡ false → AreOfTalk t.talk.limits h → HasNoneOut t.talk.limits.profile came → IsSpelt t h messages
