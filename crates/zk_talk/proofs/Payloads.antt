-- What the payload crates prove of their forms, as it is used here.
use Rattle.std.proofs.Common.{◌≡◌, ◌≢◌, ℕ, ◌≤◌, List, length, ℤ, refl, sym, ap, ◌∙◌, subst}
use Rattle.zk_jute.specs.{Item.bytes_of, declared.fault.Reason.Reason}
use Rattle.zk_jute.proofs.Decided.{one_fault}
use Rattle.zk_records.specs.{Records.reply_header, Records.watcher_event, declared.header.ReplyHeader.ReplyHeader, declared.op.Op.Op, declared.profile.Profile.Profile, declared.op.PartOp.PartOp}
use Rattle.zk_asks.proofs.{First.first_excludes, Later.ask_excludes, Counted.few_parts as parts_few}
use Rattle.zk_answers.specs.Frames.{header_of, rest_items, event_header, IsConnected, IsEvent, Fits}
use Rattle.zk_answers.proofs.{Connected.connected_excludes, Heads.head_unique, Heads.head_excludes, Replies.reply_excludes, Replies.reply_heads, Events.event_excludes, Events.event_head}
use Rattle.zk_asks.specs.{Held.Ask as Asked, Held.ClientFrame, declared.frame.ClientFrameOf.TheVariants.Ask, Codes.event_xid, Frames.IsFirst, Frames.IsLater, Frames.IsOfProfile, Frames.ops_of_ask, Faults.IsFirstFault, Faults.IsAskFault}
use Rattle.zk_asks.specs.Frames as asks
use Rattle.zk_answers.specs.{Held.Reply, Held.ServerFrame, Faults.IsConnectedFault, Faults.IsHead, Faults.IsHeadFault, Faults.IsReplyFault, Faults.IsEventFault}
use Rattle.zk_answers.specs.declared.frame.ServerFrameOf.TheVariants.{Connected, Answered, Event}
use Rattle.zk_answers.specs.Frames as answers
use Rattle.zk_talk.specs.Payloads.{client_payload, server_payload}

abbrev pub Same : ℕ → ℕ → Reason → Reason → Type 0
Same m n r s = (m ≡ n) × (r ≡ s)

pub client_is : (f : ClientFrame) (p : List ℕ) → p ≡ asks.payload f → client_payload f ≡ p
unfolding client_payload
client_is f p e = sym e

pub server_is : (s : ServerFrame) (p : List ℕ) → p ≡ answers.payload s → server_payload s ≡ p
unfolding server_payload
server_is s p e = sym e

-- what the payload crates say of a payload is so of a side's
pub asks_are : (f : ClientFrame) (p : List ℕ) → client_payload f ≡ p → asks.payload f ≡ p
unfolding client_payload
asks_are f p e = e

pub answers_are : (s : ServerFrame) (p : List ℕ) → server_payload s ≡ p → answers.payload s ≡ p
unfolding server_payload
answers_are s p e = e

pub asks_alike : (f g : ClientFrame) → client_payload f ≡ client_payload g → asks.payload f ≡ asks.payload g
unfolding client_payload
asks_alike f g e = e

pub answers_alike : (s t : ServerFrame) → server_payload s ≡ server_payload t → answers.payload s ≡ answers.payload t
unfolding server_payload
answers_alike s t e = e

-- ---- the client's first frame, and the others

pub first_excluded : (p : List ℕ) (place : ℕ) (reason : Reason) → IsFirstFault p place reason → (f : ClientFrame) → IsFirst f → asks.IsSent f → client_payload f ≡ p → ⊥
first_excluded p place reason fault f a c e = first_excludes f place reason a c (subst (λ z. IsFirstFault z place reason) (sym (asks_are f p e)) fault)

pub ask_excluded : (profile : Profile) (p : List ℕ) (place : ℕ) (reason : Reason) → IsAskFault profile p place reason → (f : ClientFrame) → IsLater f → asks.IsSent f → IsOfProfile profile f → client_payload f ≡ p → ⊥
ask_excluded profile p place reason fault f a c o e = ask_excludes profile f place reason a o c (subst (λ z. IsAskFault profile z place reason) (sym (asks_are f p e)) fault)

pub few_parts : (xid : ℤ) (ask : Asked) → length (ops_of_ask ask) ≤ length (client_payload (Ask xid ask))
unfolding client_payload
few_parts xid ask = parts_few xid ask

-- ---- the server's first frame

pub connected_excluded : (p : List ℕ) (place : ℕ) (reason : Reason) → IsConnectedFault p place reason → (s : ServerFrame) → IsConnected s → answers.IsSent s → server_payload s ≡ p → ⊥
connected_excluded p place reason fault s a c e = connected_excludes s place reason a c (subst (λ z. IsConnectedFault z place reason) (sym (answers_are s p e)) fault)

-- ---- headers

-- the payload begins with a header of this xid
pub record HasHead (p : List ℕ) (xid : ℤ) : Type 0 where
  pub header : ReplyHeader
  pub rest : List ℕ
  pub is : IsHead p header rest
  pub xid_is : header.xid ≡ xid

pub head_once : (p : List ℕ) (m n : ℕ) (r s : Reason) → IsHeadFault p m r → IsHeadFault p n s → Same m n r s
head_once p m n r s a b = one_fault reply_header.layout p m n r s a b

pub head_excluded : (p : List ℕ) (place : ℕ) (reason : Reason) → IsHeadFault p place reason → (header : ReplyHeader) (rest : List ℕ) → IsHead p header rest → ⊥
head_excluded p place reason fault header rest h = head_excludes p header rest place reason h fault

pub same_head : (p : List ℕ) (a b : ReplyHeader) (r s : List ℕ) → IsHead p a r → IsHead p b s → a ≡ b
same_head p a b r s x y = (head_unique p a b r s x y).0

-- two headers of one payload have one xid
pub xid_of : (p : List ℕ) (xid : ℤ) (header : ReplyHeader) (rest : List ℕ) → HasHead p xid → IsHead p header rest → xid ≡ header.xid
xid_of p xid header rest h k = sym h.xid_is ∙ ap (λ z. z.xid) (same_head p h.header header h.rest rest h.is k)

-- ---- replies

pub reply_excluded : (op : Op) (parts : List PartOp) (p : List ℕ) (place : ℕ) (reason : Reason) → IsReplyFault op parts p place reason → (r : Reply) → Fits op parts r → answers.IsSent (Answered r) → server_payload (Answered r) ≡ p → ⊥
reply_excluded op parts p place reason fault r a c e = reply_excludes op parts (Answered r) place reason a c (subst (λ z. IsReplyFault op parts z place reason) (sym (answers_are (Answered r) p e)) fault)

pub reply_head_is : (p : List ℕ) (r : Reply) → answers.IsSent (Answered r) → server_payload (Answered r) ≡ p → HasHead p r.xid
unfolding server_payload
reply_head_is p r c e = record { header = header_of r; rest = bytes_of (rest_items r.outcome); is = subst (λ z. IsHead z (header_of r) (bytes_of (rest_items r.outcome))) e (reply_heads r c); xid_is = refl }

pub reply_no_event : (r : Reply) → answers.IsSent (Answered r) → r.xid ≢ event_xid
reply_no_event r c = c.0

-- ---- events

pub event_excluded : (p : List ℕ) (place : ℕ) (reason : Reason) → IsEventFault p place reason → (s : ServerFrame) → IsEvent s → answers.IsSent s → server_payload s ≡ p → ⊥
event_excluded p place reason fault s a c e = event_excludes s place reason a c (subst (λ z. IsEventFault z place reason) (sym (answers_are s p e)) fault)

pub event_head_is : (p : List ℕ) (s : ServerFrame) → IsEvent s → answers.IsSent s → server_payload s ≡ p → HasHead p event_xid
unfolding server_payload
event_head_is p (Event z k) a c e = record { header = event_header z; rest = bytes_of (watcher_event.items k); is = subst (λ y. IsHead y (event_header z) (bytes_of (watcher_event.items k))) e (event_head z k c); xid_is = refl }
event_head_is p (Connected t g) a c e = absurd a
event_head_is p (Answered r) a c e = absurd a
