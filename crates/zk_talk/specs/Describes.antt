-- What is known of the conversation so far when a payload is judged.
use Rattle.std.specs.Prelude.{◌≡◌, ℕ, length}
use Rattle.zk_waiting.specs.{declared.lane.Lane.Lane, Waiting.Lanes, Waiting.queue_on}
use Rattle.zk_talk.specs.{Splits.EachAfter, Conversation.Conversation, Conversation.ServerMay, Queues.IsQueue}

pub record Describes (client_frames server_frames : ℕ) (waiting : Lanes) (v : Conversation) : Type 0 where
  pub client : client_frames ≡ length v.client
  pub server : server_frames ≡ length v.server
  pub may : EachAfter (ServerMay v.client) v.server
  pub queues : (lane : Lane) → IsQueue lane v (queue_on lane waiting)
