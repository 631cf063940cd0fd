-- The fault of a history: the first byte with which it is no longer good, and why.
use Rattle.std.specs.Prelude.{◌≡◌, ◌≢◌, Bool, true, false, IsTrue, ℕ, ◌≤◌, ◌<◌, ◌+◌, ◌^◌, List, [], ◌∷◌, ◌++◌, length, ℤ}
use Rattle.zk_jute.specs.{declared.fault.Reason.Reason, Reading.told_place}
use Rattle.zk_jute.specs.declared.fault.Reason.TheVariants as reasons
use Rattle.zk_jute.specs.declared.fault.Reason.TheVariants.{StreamEnd, LengthRange, QueueFull, Unasked, XidOrder}
use Rattle.zk_records.specs.declared.header.ReplyHeader.{ReplyHeader}
use Rattle.zk_asks.specs.{Held.Ask as Asked, Held.ClientFrame, declared.frame.ClientFrameOf.TheVariants.Ask, Codes.event_xid, Frames.IsLater, Frames.IsSent, Frames.IsOfProfile, Frames.ops_of_ask, Rows.op_of_ask}
use Rattle.zk_asks.specs.Faults.{IsFirstFault, IsAskFault}
use Rattle.zk_answers.specs.Faults.{IsConnectedFault, IsHead, IsHeadFault, IsReplyFault, IsEventFault}
use Rattle.zk_frames.specs.Framing.{frame, IsBadLength}
use Rattle.zk_waiting.specs.{declared.lane.Lane.Lane, Lane.lane_of}
use Rattle.zk_talk.specs.{declared.message.Side.Side, declared.message.Fault.Fault, declared.limits.Limits.Limits, Payloads.client_payload, History.History, History.side_bytes, Good.Good, Good.IsGood}
use Rattle.zk_talk.specs.declared.message.Side.TheVariants.{Client, Server}
use Rattle.zk_talk.specs.Conversation.{Conversation, asks_on, replies_on, load, weight}

-- the ask that the next reply of the lane answers
pub record IsNext (v : Conversation) (lane : Lane) (xid : ℤ) (ask : Asked) : Type 0 where
  pub asked : List ClientFrame
  pub after : List ClientFrame
  pub stands : v.client ≡ asked ++ Ask xid ask ∷ after
  pub same_lane : lane_of xid ≡ lane
  pub counts : asks_on lane asked ≡ replies_on lane v.server

-- why the payload of the client's next frame is refused, where v came before it
pub data IsClientFault (limits : Limits) (v : Conversation) (p : List ℕ) (place : ℕ) (reason : Reason) : Type 0 where
  connect_fault : v.client ≡ [] → IsFirstFault p place reason → IsClientFault limits v p place reason
  ask_fault : v.client ≢ [] → IsAskFault limits.profile p place reason → IsClientFault limits v p place reason
  queue_full : v.client ≢ [] → (f : ClientFrame) → IsLater f → IsSent f → IsOfProfile limits.profile f →
      client_payload f ≡ p → limits.waiting < load v.client v.server + weight f → place ≡ 0 → reason ≡ QueueFull →
      IsClientFault limits v p place reason

-- why the payload of the server's next frame is refused, where v came before it
pub data IsServerFault (v : Conversation) (p : List ℕ) (place : ℕ) (reason : Reason) : Type 0 where
  no_connect : v.server ≡ [] → v.client ≡ [] → place ≡ 0 → reason ≡ Unasked → IsServerFault v p place reason
  connected_fault : v.server ≡ [] → v.client ≢ [] → IsConnectedFault p place reason → IsServerFault v p place reason
  head_fault : v.server ≢ [] → IsHeadFault p place reason → IsServerFault v p place reason
  event_fault : v.server ≢ [] → (header : ReplyHeader) (rest : List ℕ) → IsHead p header rest → header.xid ≡ event_xid →
      IsEventFault p place reason → IsServerFault v p place reason
  unasked : v.server ≢ [] → (header : ReplyHeader) (rest : List ℕ) → IsHead p header rest → header.xid ≢ event_xid →
      asks_on (lane_of header.xid) v.client ≤ replies_on (lane_of header.xid) v.server → place ≡ 0 → reason ≡ Unasked →
      IsServerFault v p place reason
  wrong_xid : v.server ≢ [] → (header : ReplyHeader) (rest : List ℕ) → IsHead p header rest → header.xid ≢ event_xid →
      (next : ℤ) (ask : Asked) → IsNext v (lane_of header.xid) next ask → next ≢ header.xid → place ≡ 0 →
      reason ≡ XidOrder next header.xid → IsServerFault v p place reason
  reply_fault : v.server ≢ [] → (header : ReplyHeader) (rest : List ℕ) → IsHead p header rest → header.xid ≢ event_xid →
      (ask : Asked) → IsNext v (lane_of header.xid) header.xid ask →
      IsReplyFault (op_of_ask ask) (ops_of_ask ask) p place reason → IsServerFault v p place reason

abbrev pub IsPayloadFault : Limits → Conversation → Side → List ℕ → ℕ → Reason → Type 0
IsPayloadFault limits v Client p place reason = IsClientFault limits v p place reason
IsPayloadFault limits v Server p place reason = IsServerFault v p place reason

abbrev pub side_limit : Limits → Side → ℕ
side_limit limits Client = limits.client
side_limit limits Server = limits.server

-- the number of a side's frames that are whole
abbrev pub frame_count : Conversation → Side → ℕ
frame_count v Client = length v.client
frame_count v Server = length v.server

-- the beginning after a side's whole frames
abbrev pub rest_on : Side → List ℕ → List ℕ → List ℕ
rest_on Client client_rest server_rest = client_rest
rest_on Server client_rest server_rest = server_rest

-- why the byte is refused: of this side `size` bytes came before it, and `rest` of its frame
pub data IsCause (limits : Limits) (v : Conversation) (side : Side) (size : ℕ) (rest : List ℕ) (byte : ℕ) (place : ℕ) (reason : Reason) : Type 0 where
  stream_end : size + 1 ≡ 2 ^ 62 → place ≡ 0 → reason ≡ StreamEnd → IsCause limits v side size rest byte place reason
  length_range : size + 1 < 2 ^ 62 → IsBadLength (side_limit limits side) (rest ++ byte ∷ []) → place ≡ 0 →
      reason ≡ LengthRange → IsCause limits v side size rest byte place reason
  payload_fault : size + 1 < 2 ^ 62 → (p : List ℕ) → rest ++ byte ∷ [] ≡ frame p → length p ≤ side_limit limits side →
      IsPayloadFault limits v side p place reason → IsCause limits v side size rest byte place reason

-- The fault is at the first byte whose front is not good.
pub record IsFaultOf (limits : Limits) (h : History) (fault : Fault) : Type 0 where
  pub before : History
  pub byte : ℕ
  pub after : History
  pub conversation : Conversation
  pub client_rest : List ℕ
  pub server_rest : List ℕ
  pub place : ℕ
  pub stands : h ≡ before ++ (fault.side, byte) ∷ after
  pub good : Good limits before conversation client_rest server_rest
  pub bad : IsGood limits (before ++ (fault.side, byte) ∷ []) → ⊥
  pub frame : fault.frame ≡ frame_count conversation fault.side
  pub offset : fault.offset ≡ length (side_bytes fault.side before) + 1
  pub told : fault.place ≡ told_place place
  pub cause : IsCause limits conversation fault.side (length (side_bytes fault.side before))
      (rest_on fault.side client_rest server_rest) byte place fault.reason

abbrev pub fault_of : Side → ℕ → ℕ → ℕ → Reason → Fault
fault_of side frame offset place reason = record { side = side; frame = frame; offset = offset; place = place; reason = reason }

-- whether a body's items give this reason
abbrev pub of_items : Reason → Bool
of_items reasons.Short = true
of_items reasons.BadBool = true
of_items reasons.BadLength = true
of_items reasons.BadText = true
of_items reasons.Trailing = true
of_items reasons.BadPart = true
of_items _ = false

abbrev pub IsOfItems : Reason → Type 0
IsOfItems reason = IsTrue (of_items reason)
