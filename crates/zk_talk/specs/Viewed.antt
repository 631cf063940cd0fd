-- What the frame that a side keeps shows.
use Rattle.std.specs.Prelude.{◌≡◌, ℕ, List, [], Option, Some, None}
use Rattle.zk_frames.specs.Framing.{frame}
use Rattle.zk_records.specs.declared.op.PartOp.{PartOp}
use Rattle.zk_asks.specs.Held.{ClientFrame}
use Rattle.zk_asks.specs.Frames as asks
use Rattle.zk_answers.specs.Held.{ServerFrame}
use Rattle.zk_answers.specs.Frames as answers
use Rattle.zk_talk.specs.{declared.message.Side.Side, Held.Message, declared.replied.Replied.Replied, Payloads.client_payload, Payloads.server_payload, Stands.TalkState, Stands.kept_on, Streams.StreamState}
use Rattle.zk_talk.specs.declared.message.Side.TheVariants.{Client, Server}
use Rattle.zk_talk.specs.declared.message.MessageOf.TheVariants.{Client as FromClient, Server as FromServer}

-- the frame, the last of `frames`, replies to this request; or, with none, it is the first, or an event
abbrev pub IsShownAs : ℕ → Option Replied → ServerFrame → Type 0
IsShownAs frames (Some request) s = (parts : List PartOp) × answers.IsReplyTo request.op parts s
IsShownAs frames None s = (frames ≡ 1 → answers.IsConnected s) × ((frames ≡ 1 → ⊥) → answers.IsEvent s)

-- the kept bytes, the client's last frame of `frames`, are this frame's
pub record ShowsClient (frames : ℕ) (kept : List ℕ) (f : ClientFrame) : Type 0 where
  pub first : frames ≡ 1 → asks.IsFirst f
  pub later : (frames ≡ 1 → ⊥) → asks.IsLater f
  pub sent : asks.IsSent f
  pub is : kept ≡ frame (client_payload f)

-- the kept bytes, the server's last frame of `frames`, are this frame's
pub record ShowsServer (frames : ℕ) (answered : Option Replied) (kept : List ℕ) (s : ServerFrame) : Type 0 where
  pub kind : IsShownAs frames answered s
  pub sent : answers.IsSent s
  pub is : kept ≡ frame (server_payload s)

-- the frame that the side keeps is the message's
abbrev pub Shows : TalkState → Side → Message → Type 0
Shows t Client (FromClient f) = ShowsClient t.client_frames t.client_kept f
Shows t Server (FromServer s) = ShowsServer t.server_frames t.answered t.server_kept s
Shows t Client (FromServer s) = ⊥
Shows t Server (FromClient f) = ⊥

abbrev pub other_side : Side → Side
other_side Client = Server
other_side Server = Client

-- what the side keeps stays as it is, and shows what it showed
abbrev pub Leaves : Side → TalkState → TalkState → Type 0
Leaves side old new = (kept_on side new ≡ kept_on side old) × ((m : Message) → Shows old side m → Shows new side m)

-- what is kept, if anything is, is a frame's
abbrev pub ClientKeeps : StreamState → Type 0
ClientKeeps s = (s.kept ≡ [] → ⊥) → (f : ClientFrame) × ShowsClient s.count s.kept f

abbrev pub ServerKeeps : StreamState → Option Replied → Type 0
ServerKeeps s answered = (s.kept ≡ [] → ⊥) → (f : ServerFrame) × ShowsServer s.count answered s.kept f
