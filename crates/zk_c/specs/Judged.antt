-- What is returned of a payload, in numbers.
use Rattle.std.specs.Prelude.{◌≡◌, ◌≢◌, ℕ, ℤ, negsuc, List}
use Rattle.zk_records.specs.{declared.profile.Profile.Profile, declared.header.ReplyHeader.ReplyHeader, declared.op.Op.Op, declared.op.PartOp.PartOp}
use Rattle.zk_jute.specs.{declared.fault.Reason.TheVariants.NoMemory, declared.fault.Reason.Reason, declared.fault.ItemFault.ItemFault, Told.IsTold}
use Rattle.zk_asks.specs.{Held.ClientFrame, Frames.IsFirst, Frames.IsLater, Frames.IsSent, Frames.IsOfProfile, Frames.payload}
use Rattle.zk_answers.specs.{Held.ServerFrame, Faults.IsHead}
use Rattle.zk_answers.specs.Frames as answers
use Rattle.zk_c.specs.{declared.payload.PayloadAnswer.PayloadAnswer, Numbers.reason_number}

abbrev pub payload_answer : ℕ → ℕ → PayloadAnswer
payload_answer status place = record { status = status; place = place }

abbrev pub TellsFault : ItemFault → PayloadAnswer → Type 0
TellsFault fault answer = answer ≡ payload_answer (reason_number fault.reason) fault.place

-- the answer is a fault of this kind, and never that memory was refused
pub record IsToldBy (Is : ℕ → Reason → Type 0) (answer : PayloadAnswer) : Type 0 where
  pub fault : ItemFault
  pub is : IsTold Is fault
  pub ample : fault.reason ≢ NoMemory
  pub told : TellsFault fault answer

-- the bytes are taken for a message exactly if they are the payload of one of these; else the first case that applies is reported
pub record Judges {A : Type 0} (Is : A → Type 0) (IsFault : ℕ → Reason → Type 0) (answer : PayloadAnswer) : Type 0 where
  pub found : answer.status ≡ 0 → (x : A) × Is x
  pub only : (x : A) → Is x → answer ≡ payload_answer 0 0
  pub fault : answer.status ≢ 0 → IsToldBy IsFault answer

-- the bytes are the payload of this frame, which has the form and is sent
pub record IsOfForm {F : Type 0} (Form Sent : F → Type 0) (payload_of : F → List ℕ) (bytes : List ℕ) (f : F) : Type 0 where
  pub form : Form f
  pub sent : Sent f
  pub is : bytes ≡ payload_of f

-- the bytes are the payload of this connect request, or of this request of the profile
abbrev pub IsConnect : List ℕ → ClientFrame → Type 0
IsConnect = IsOfForm IsFirst IsSent payload

abbrev pub IsRequest : Profile → List ℕ → ClientFrame → Type 0
IsRequest profile = IsOfForm (λ f. IsLater f × IsOfProfile profile f) IsSent payload

-- the bytes are the payload of this reply to a connect request, of this reply to a request of the operation with these
-- parts, or of this event
abbrev pub IsWelcome : List ℕ → ServerFrame → Type 0
IsWelcome = IsOfForm answers.IsConnected answers.IsSent answers.payload

abbrev pub IsReply : Op → List PartOp → List ℕ → ServerFrame → Type 0
IsReply op parts = IsOfForm (answers.IsReplyTo op parts) answers.IsSent answers.payload

abbrev pub IsNotice : List ℕ → ServerFrame → Type 0
IsNotice = IsOfForm answers.IsEvent answers.IsSent answers.payload

-- the bytes begin with a header of which this holds of the xid
abbrev pub HasHead : (ℤ → Type 0) → List ℕ → Type 0
HasHead Is bytes = (header : ReplyHeader) × (rest : List ℕ) × IsHead bytes header rest × Is header.xid

-- the bytes begin with no such header
abbrev pub HasNoHead : (ℤ → Type 0) → List ℕ → Type 0
HasNoHead Is bytes = HasHead Is bytes → ⊥

-- the header is that of an event, or that of a reply
abbrev pub IsOfEvent : ℤ → Type 0
IsOfEvent xid = xid ≡ negsuc 0

abbrev pub IsOfReply : ℤ → Type 0
IsOfReply xid = xid ≢ negsuc 0
