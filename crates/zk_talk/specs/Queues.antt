-- The lanes of a conversation: the asks that no reply answers, oldest first.
use Rattle.std.specs.Prelude.{◌≡◌, List, [], ◌∷◌, filter, drop}
use Rattle.zk_asks.specs.{Held.ClientFrame, Rows.op_of_ask, Frames.ops_of_ask}
use Rattle.zk_asks.specs.declared.frame.ClientFrameOf.TheVariants.{Connect, Ask}
use Rattle.zk_waiting.specs.{declared.lane.Lane.Lane, Waiting.Request}
use Rattle.zk_talk.specs.Conversation.{Conversation, is_ask_on, replies_on}

-- what waits for the frame's reply, whatever its number
abbrev pub IsRequest : Request → ClientFrame → Type 0
IsRequest r (Connect hello read_only) = ⊥
IsRequest r (Ask xid ask) = r ≡ record { xid = xid; op = op_of_ask ask; parts = ops_of_ask ask; frame = r.frame }

abbrev pub AreRequests : List Request → List ClientFrame → Type 0
AreRequests [] [] = Unit {0}
AreRequests [] (f ∷ fs) = ⊥
AreRequests (r ∷ rs) [] = ⊥
AreRequests (r ∷ rs) (f ∷ fs) = IsRequest r f × AreRequests rs fs

-- the lane holds the asks of v that no reply answers
abbrev pub IsQueue : Lane → Conversation → List Request → Type 0
IsQueue lane v queue = AreRequests queue (drop (replies_on lane v.server) (filter (is_ask_on lane) v.client))
