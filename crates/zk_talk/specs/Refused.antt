-- The body in which a fault is found.
use Rattle.std.specs.Prelude.{◌≡◌, ◌≢◌, ℕ, ◌<◌, ◌≤◌, ℤ, pos, List, [], ◌∷◌, ◌++◌, Option, MatchOption}
use Rattle.std.specs.Borrow.{Bor}
use Rattle.zk_jute.specs.{Item.HaveBytes, Faults.Opens}
use Rattle.zk_records.specs.{declared.header.ReplyHeader.ReplyHeader, declared.op.Op.Op, Codes.op_number}
use Rattle.zk_records.specs.declared.op.Op.TheVariants as ops
use Rattle.zk_asks.specs.{Held.Ask as Asked, Codes.event_xid, Forms.header_items, Rows.op_of_ask}
use Rattle.zk_answers.specs.{declared.layout.Layout.Layout, Faults.IsHead}
use Rattle.zk_answers.specs.declared.layout.Layout.TheVariants as layouts
use Rattle.zk_frames.specs.Framing.{frame}
use Rattle.zk_waiting.specs.Lane.{lane_of}
use Rattle.zk_talk.specs.{declared.message.Side.Side, declared.message.Fault.Fault, declared.limits.Limits.Limits, History.History, Conversation.Conversation, Fault.IsFaultOf, Fault.IsNext, Fault.IsOfItems, Fault.rest_on}
use Rattle.zk_talk.specs.declared.message.Side.TheVariants.{Client, Server}

-- the number of bytes of a header of the side, of a frame after its first
abbrev pub header_size : Side → ℕ
header_size Client = 8
header_size Server = 16

-- the next reply with this xid answers a request of the operation, which isn't multi
abbrev pub AnswersOp : Conversation → ℤ → Op → Type 0
AnswersOp v xid op = (ask : Asked) × IsNext v (lane_of xid) xid ask × (op ≡ op_of_ask ask) × (op ≢ ops.Multi)

-- the next reply with this xid answers no request, or a multi
abbrev pub AnswersNone : Conversation → ℤ → Type 0
AnswersNone v xid = (ask : Asked) → IsNext v (lane_of xid) xid ask → op_of_ask ask ≢ ops.Multi → ⊥

-- the payload has a header, and after it this body, of this layout: v came before it
pub data HasBody (v : Conversation) (p : List ℕ) : Side → Layout → List ℕ → Type 0 where
  request : (xid : ℤ) (op : Op) (body : List ℕ) → HaveBytes (header_items xid (op_number op)) →
      Opens p (header_items xid (op_number op)) body → HasBody v p Client (layouts.Asked op) body
  event : (header : ReplyHeader) (body : List ℕ) → IsHead p header body → header.xid ≡ event_xid → HasBody v p Server layouts.Event body
  reply : (header : ReplyHeader) (body : List ℕ) → IsHead p header body → header.xid ≢ event_xid → header.err ≡ pos 0 →
      (ask : Asked) → IsNext v (lane_of header.xid) header.xid ask → op_of_ask ask ≢ ops.Multi → HasBody v p Server (layouts.Answered (op_of_ask ask)) body

-- this is the payload's body and its layout, or it has none
abbrev pub IsBodyOf : Conversation → List ℕ → Side → Option (Layout × Bor (List ℕ)) → Type 0
IsBodyOf v p side found = MatchOption found ((layout : Layout) (body : List ℕ) → HasBody v p side layout body → ⊥) (λ b. HasBody v p side b.0 b.1.now)

-- the fault is in a body: after the header of a frame that isn't its side's first, for one of a body's reasons
pub record IsInBody (fault : Fault) : Type 0 where
  pub later : 0 < fault.frame
  pub items : IsOfItems fault.reason
  pub behind : header_size fault.side ≤ fault.place

-- the body in which the fault of a history is found
pub record IsRefusedBody (limits : Limits) (h : History) (fault : Fault) (is : IsFaultOf limits h fault) (layout : Layout) (body : List ℕ) : Type 0 where
  pub inside : IsInBody fault
  pub payload : List ℕ
  pub whole : rest_on fault.side is.client_rest is.server_rest ++ is.byte ∷ [] ≡ frame payload
  pub has : HasBody is.conversation payload fault.side layout body

-- this is that body and its layout, or there is none
abbrev pub TellsRefusedBody : (limits : Limits) (h : History) (fault : Fault) → IsFaultOf limits h fault → Option (Layout × Bor (List ℕ)) → Type 0
TellsRefusedBody limits h fault is found =
    MatchOption found ((layout : Layout) (body : List ℕ) → IsRefusedBody limits h fault is layout body → ⊥) (λ b. IsRefusedBody limits h fault is b.0 b.1.now)
