-- A message that is given as its kind and the bytes of its payload, by its side.
use Rattle.std.proofs.Common.{◌≡◌, ℕ, List, refl, sym, ap, true, false}
use Rattle.zk_jute.specs.Item.{HaveBytes}
use Rattle.zk_records.specs.declared.op.Op.{Op}
use Rattle.zk_asks.specs.{Held.ClientFrame, Frames.IsTurn}
use Rattle.zk_asks.specs.declared.frame.ClientFrameOf.TheVariants as client
use Rattle.zk_asks.specs.Frames as asks
use Rattle.zk_answers.specs.Held.{ServerFrame}
use Rattle.zk_answers.specs.declared.frame.ServerFrameOf.TheVariants as server
use Rattle.zk_answers.specs.Frames as answers
use Rattle.zk_talk.specs.{Held.Message, declared.message.Kind.Kind, Payloads.client_payload, Payloads.server_payload, Written.IsWritten}
use Rattle.zk_talk.specs.declared.message.MessageOf.TheVariants as message
use Rattle.zk_talk.specs.declared.message.Kind.TheVariants as kinds

answered_op : (a b : Op) → ◌≡◌ {A = Kind} (kinds.Answered a) (kinds.Answered b) → a ≡ b
answered_op a b e = ap op_in e where
  op_in : Kind → Op
  op_in (kinds.Answered o) = o
  op_in k = a

module _ (p : List ℕ) where
  pub written_connect : (m : Message) → IsWritten kinds.Connect p m → (f : ClientFrame) × (m ≡ message.Client f) × IsTurn true f × HaveBytes (asks.frame_items f) × (p ≡ asks.payload f)
  unfolding client_payload
  written_connect (message.Client (client.Connect hello flag)) w = (client.Connect hello flag, refl, tt, w.have, sym w.is)
  written_connect (message.Client (client.Ask xid ask)) w = let k = w.kind_is in absurd cc
  written_connect (message.Server (server.Connected hello flag)) w = let k = w.kind_is in absurd cc
  written_connect (message.Server (server.Answered r)) w = let k = w.kind_is in absurd cc
  written_connect (message.Server (server.Event zxid event)) w = let k = w.kind_is in absurd cc

  pub written_ask : (m : Message) → IsWritten kinds.Ask p m → (f : ClientFrame) × (m ≡ message.Client f) × IsTurn false f × HaveBytes (asks.frame_items f) × (p ≡ asks.payload f)
  unfolding client_payload
  written_ask (message.Client (client.Connect hello flag)) w = let k = w.kind_is in absurd cc
  written_ask (message.Client (client.Ask xid ask)) w = (client.Ask xid ask, refl, tt, w.have, sym w.is)
  written_ask (message.Server (server.Connected hello flag)) w = let k = w.kind_is in absurd cc
  written_ask (message.Server (server.Answered r)) w = let k = w.kind_is in absurd cc
  written_ask (message.Server (server.Event zxid event)) w = let k = w.kind_is in absurd cc

  pub written_connected : (m : Message) → IsWritten kinds.Connected p m → (s : ServerFrame) × (m ≡ message.Server s) × answers.IsConnected s × answers.IsSent s × (p ≡ answers.payload s)
  unfolding server_payload
  written_connected (message.Client (client.Connect hello flag)) w = let k = w.kind_is in absurd cc
  written_connected (message.Client (client.Ask xid ask)) w = let k = w.kind_is in absurd cc
  written_connected (message.Server (server.Connected hello flag)) w = (server.Connected hello flag, refl, tt, (tt, tt, w.have), sym w.is)
  written_connected (message.Server (server.Answered r)) w = let k = w.kind_is in absurd cc
  written_connected (message.Server (server.Event zxid event)) w = let k = w.kind_is in absurd cc

  pub written_event : (m : Message) → IsWritten kinds.Event p m → (s : ServerFrame) × (m ≡ message.Server s) × answers.IsEvent s × answers.IsSent s × (p ≡ answers.payload s)
  unfolding server_payload
  written_event (message.Client (client.Connect hello flag)) w = let k = w.kind_is in absurd cc
  written_event (message.Client (client.Ask xid ask)) w = let k = w.kind_is in absurd cc
  written_event (message.Server (server.Connected hello flag)) w = let k = w.kind_is in absurd cc
  written_event (message.Server (server.Answered r)) w = let k = w.kind_is in absurd cc
  written_event (message.Server (server.Event zxid event)) w = (server.Event zxid event, refl, tt, (tt, tt, w.have), sym w.is)

  pub written_reply : (op : Op) (m : Message) → IsWritten (kinds.Answered op) p m → (s : ServerFrame) × (m ≡ message.Server s) × answers.IsReplyOf op s × answers.IsBorne s × (p ≡ answers.payload s)
  unfolding server_payload
  written_reply op (message.Client (client.Connect hello flag)) w = let k = w.kind_is in absurd cc
  written_reply op (message.Client (client.Ask xid ask)) w = let k = w.kind_is in absurd cc
  written_reply op (message.Server (server.Connected hello flag)) w = let k = w.kind_is in absurd cc
  written_reply op (message.Server (server.Answered r)) w = (server.Answered r, refl, answered_op (answers.op_of_reply r) op w.kind_is, (w.failure, w.have), sym w.is)
  written_reply op (message.Server (server.Event zxid event)) w = let k = w.kind_is in absurd cc
