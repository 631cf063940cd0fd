-- What is returned of a message whose fields are written.
use Rattle.std.specs.Prelude.{◌≡◌, ◌≢◌, ◌⊎◌, ◌<◌, ◌^◌, ℕ, ℤ, pos, List, [], length, Option, Some, None, Ok, Err, nat_le, if◌then◌else◌}
use Rattle.zk_jute.specs.{declared.fault.Reason.Reason, declared.fault.ItemFault.ItemFault, Told.IsTold}
use Rattle.zk_jute.specs.declared.fault.Reason.TheVariants.{NoMemory, UnknownOp}
use Rattle.zk_jute.specs.Reading.{Fault, Read, int_at, long_at, told_fault}
use Rattle.zk_records.specs.{declared.header.ReplyHeader.ReplyHeader, declared.op.Op.Op, declared.profile.Profile.Profile, Codes.op_number, Codes.HasOp, Codes.IsNoOp, declared.op.PartOp.PartOp}
use Rattle.zk_asks.specs.Frames as asks
use Rattle.zk_answers.specs.Frames as answers
use Rattle.zk_talk.specs.Held.{Message}
use Rattle.zk_talk.specs.declared.message.MessageOf.TheVariants.{Client as FromClient, Server as FromServer}
use Rattle.zk_fields.specs.{declared.field.Field.Field, declared.payload_fields.Opened.Opened, Frames.AreWritten, Frames.client_fields, Frames.server_fields, Walks.opened_fields}
use Rattle.zk_fields.specs.declared.payload_fields.Opened.TheVariants as opened
use Rattle.zk_c.specs.{declared.read_answer.ReadAnswer.ReadAnswer, Numbers.reason_number, Answer.message_head, declared.head.Head.Head, Asked.WhereAsked}
use Rattle.zk_asks.specs.Faults.{IsFirstFault, IsAskFault}
use Rattle.zk_answers.specs.Faults.{IsHead, IsHeadFault, IsConnectedFault, IsReplyFault, IsEventFault}
use Rattle.zk_c.specs.Judged.{IsConnect, IsRequest, IsWelcome, IsReply, IsNotice, HasNoHead, IsOfEvent}

abbrev pub no_read : ℕ → ReadAnswer
no_read status = record { status = status; place = 0; count = 0; kind = 0; xid = pos 0; operation = pos 0; err = pos 0; zxid = pos 0 }

-- nothing is read, and the room is as it was
abbrev pub TellsNone : ℕ → List Field → List Field → ReadAnswer → Type 0
TellsNone status before after answer = (answer ≡ no_read status) × (after ≡ before)

-- each place in the payload is a number of 32 bits
abbrev pub HasPlaces : List ℕ → Type 0
HasPlaces payload = length payload < 2 ^ 32

-- ---- a message

-- 68 where there are more fields than the room has place for
abbrev pub room_status : ℕ → ℕ → ℕ
room_status room count = if nat_le count room then 0 else 68

-- the header's numbers, and how many fields there are
abbrev pub head_read : ℕ → ℕ → Head → ReadAnswer
head_read room count head =
    record (no_read (room_status room count)) { count = count; kind = head.kind; xid = head.xid; operation = head.operation; err = head.err; zxid = head.zxid }

abbrev pub message_fields : Message → List Field
message_fields (FromClient f) = client_fields f
message_fields (FromServer s) = server_fields s

-- it may be sent, and each place in its payload is a number of 32 bits
abbrev pub HasFields : Message → Type 0
HasFields (FromClient f) = asks.IsSent f × HasPlaces (asks.payload f)
HasFields (FromServer s) = answers.IsSent s × HasPlaces (answers.payload s)

-- the message's fields are written, as many as there is room for, and the answer counts them all
pub record TellsMessage (m : Message) (before after : List Field) (answer : ReadAnswer) : Type 0 where
  pub written : AreWritten (message_fields m) before after answer.count
  pub told : answer ≡ head_read (length before) answer.count (message_head m)

-- ---- no message: the numbers of its header, as far as they are there, and the fault

abbrev pub number_of : Read ℤ → ℤ
number_of (Ok x) = x.0
number_of (Err f) = pos 0

abbrev pub int_there : List ℕ → ℕ → ℤ
int_there payload place = number_of (int_at payload place)

abbrev pub long_there : List ℕ → ℕ → ℤ
long_there payload place = number_of (long_at payload place)

abbrev pub ask_head : List ℕ → ReadAnswer
ask_head payload = record (no_read 0) { xid = int_there payload 0; operation = int_there payload 4 }

abbrev pub answer_head : List ℕ → ReadAnswer
answer_head payload = record (no_read 0) { xid = int_there payload 0; err = int_there payload 12; zxid = long_there payload 4 }

-- by what it is read as; a request of no operation has a header too
abbrev pub head_of : Option Opened → List ℕ → ReadAnswer
head_of None payload = ask_head payload
head_of (Some opened.First) payload = no_read 0
head_of (Some (opened.Ask op)) payload = ask_head payload
head_of (Some opened.Connected) payload = no_read 0
head_of (Some (opened.Reply op)) payload = answer_head payload
head_of (Some opened.Event) payload = answer_head payload

abbrev pub refused_read : ReadAnswer → ItemFault → ℕ → ReadAnswer
refused_read head fault count = record head { status = reason_number fault.reason; place = fault.place; count = count }

-- the fields of the items that end before the place, if it is known what the payload is read as
abbrev pub fields_before : Option Opened → List ℕ → ℕ → List Field
fields_before None payload place = []
fields_before (Some o) payload place = opened_fields o payload place

-- a reply to an operation that has no number here: a fault of its header, or UnknownOp after it
pub data IsUnknownFault (bytes : List ℕ) : Fault → Type 0 where
  in_head : (fault : Fault) → IsHeadFault bytes fault.place fault.reason → IsUnknownFault bytes fault
  no_body : (header : ReplyHeader) (rest : List ℕ) → IsHead bytes header rest → IsUnknownFault bytes (record { place = 16; reason = UnknownOp })

-- the header's numbers, as far as they are there, and that fault
pub record IsUnknown (payload : List ℕ) (answer : ReadAnswer) : Type 0 where
  pub fault : Fault
  pub is : IsUnknownFault payload fault
  pub told : answer ≡ refused_read (answer_head payload) (told_fault fault) 0

abbrev pub TellsUnknown : List ℕ → List Field → List Field → ReadAnswer → Type 0
TellsUnknown payload before after answer = IsUnknown payload answer × (after ≡ before)

-- an operation has the number
abbrev pub IsOp : ℤ → Type 0
IsOp number = (op : Op) × (number ≡ op_number op)

-- these are written, as many as there is room for; the answer counts them, and has the header's numbers and the fault
pub record TellsRefused (o : Option Opened) (payload : List ℕ) (fault : ItemFault) (before after : List Field) (answer : ReadAnswer) : Type 0 where
  pub written : AreWritten (fields_before o payload fault.place) before after answer.count
  pub told : answer ≡ refused_read (head_of o payload) fault answer.count

-- the answer is a fault of this kind, never NoMemory, of a payload that is read as this
pub record IsReadFault (Is : ℕ → Reason → Type 0) (IsOpened : Option Opened → Type 0) (payload : List ℕ)
    (before after : List Field) (answer : ReadAnswer) : Type 0 where
  pub fault : ItemFault
  pub is : IsTold Is fault
  pub ample : fault.reason ≢ NoMemory
  pub opened : Option Opened
  pub is_opened : IsOpened opened
  pub tells : TellsRefused opened payload fault before after answer

-- it is read as this
abbrev pub Just : Opened → Option Opened → Type 0
Just o other = other ≡ Some o

-- it is read as a request of the operation in its header, if the profile has one of that number
abbrev pub IsAskOf : Profile → List ℕ → Option Opened → Type 0
IsAskOf profile payload None = IsNoOp profile (int_there payload 4)
IsAskOf profile payload (Some o) = (op : Op) × (o ≡ opened.Ask op) × HasOp profile op × (int_there payload 4 ≡ op_number op)

-- ---- a payload is that of a message, whose fields are written; or its first fault is returned

abbrev pub MessageOrFault : {A : Type 0} → (A → Type 0) → (ℕ → Reason → Type 0) → (Option Opened → Type 0) → List ℕ → List Field → List Field → ReadAnswer → Type 0
MessageOrFault {A} Is IsFault IsOpened payload before after answer = ((x : A) × Is x) ⊎ IsReadFault IsFault IsOpened payload before after answer

abbrev pub NoticeOrFault : List ℕ → List Field → List Field → ReadAnswer → Type 0
NoticeOrFault payload = MessageOrFault (IsNotice payload) (IsEventFault payload) (Just opened.Event) payload

-- if the payload is one of these messages', its fields are written; it is one's, or its first fault is returned
pub record Reads {A : Type 0} (message : A → Message) (Is : A → Type 0) (IsFault : ℕ → Reason → Type 0) (IsOpened : Option Opened → Type 0)
    (payload : List ℕ) (before after : List Field) (answer : ReadAnswer) : Type 0 where
  pub only : (x : A) → Is x → TellsMessage (message x) before after answer
  pub found : MessageOrFault Is IsFault IsOpened payload before after answer

abbrev pub ReadsConnect : List ℕ → List Field → List Field → ReadAnswer → Type 0
ReadsConnect payload = Reads FromClient (IsConnect payload) (IsFirstFault payload) (Just opened.First) payload

abbrev pub ReadsRequest : Profile → List ℕ → List Field → List Field → ReadAnswer → Type 0
ReadsRequest profile payload = Reads FromClient (IsRequest profile payload) (IsAskFault profile payload) (IsAskOf profile payload) payload

abbrev pub ReadsWelcome : List ℕ → List Field → List Field → ReadAnswer → Type 0
ReadsWelcome payload = Reads FromServer (IsWelcome payload) (IsConnectedFault payload) (Just opened.Connected) payload

abbrev pub ReadsReply : Op → List PartOp → List ℕ → List Field → List Field → ReadAnswer → Type 0
ReadsReply op parts payload = Reads FromServer (IsReply op parts payload) (IsReplyFault op parts payload) (Just (opened.Reply op)) payload

-- so it is of a payload whose places are numbers, and whose header, where it has one, isn't an event's
abbrev pub WhereReply : ℤ → List ℤ → List ℕ → (Op → List PartOp → Type 0) → Type 0
WhereReply operation parts payload Holds = WhereAsked operation parts (λ op ops. HasPlaces payload → HasNoHead IsOfEvent payload → Holds op ops)
