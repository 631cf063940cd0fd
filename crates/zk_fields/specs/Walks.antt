-- What a payload has, item by item from a place on, as far as it is there.
use Rattle.std.specs.Prelude.{◌≡◌, ℕ, zero, suc, if◌then◌else◌, List, [], ◌∷◌, ◌++◌, length, take, nat_le, Option, Some, None, Ok, Err}
use Rattle.zk_jute.specs.{Item.Item, Item.ACount, Layout.One, Layout.End}
use Rattle.zk_jute.specs.Reading.{Read, ◌>>=◌, int_at, bool_at, size_at, items_at}
use Rattle.zk_records.specs.declared.header.MultiHeader.{MultiHeader}
use Rattle.zk_asks.specs.declared.frame.ClientFrameOf.TheVariants as client
use Rattle.zk_asks.specs.{Held.ClientFrame, Rows.op_of_ask}
use Rattle.zk_answers.specs.declared.frame.ServerFrameOf.TheVariants as server
use Rattle.zk_answers.specs.{Held.ServerFrame, Frames.op_of_reply}
use Rattle.zk_fields.specs.{declared.field.Field.Field, declared.field.At.At, declared.walk.Walked.Walked, declared.payload_fields.Headed.Headed, declared.payload_fields.Opened.Opened}
use Rattle.zk_fields.specs.declared.payload_fields.Opened.TheVariants as opened
use Rattle.zk_fields.specs.{Fields.Entry, Fields.Under, Fields.Head, Fields.named, Fields.fields_from, Named.Shape, Named.Nothing, Named.An, Named.Both, Named.Many}
use Rattle.zk_fields.specs.{Records.connect_request, Records.connect_response, Records.watcher_event, Records.read_only, Heads.OfHead, Heads.headed_shape, Rows.Content, Rows.Fields, Rows.Heads, Rows.ask_content, Rows.body_content}
use Rattle.zk_fields.specs.Room.{Takes}

-- the entries that are whole there, and the place after them if all are
pub record Met : Type 0 where
  pub entries : List Entry
  pub end : Option ℕ

abbrev pub none_met : Met
none_met = record { entries = []; end = None }

abbrev pub item_met : ℕ → Read (List Item) → Met
item_met name (Ok x) = record { entries = named name x.0; end = Some x.1 }
item_met name (Err f) = none_met

-- these entries, and what is at the place after them
abbrev pub behind : List Entry → Option ℕ → (ℕ → Met) → Met
behind es None others = record { entries = es; end = None }
behind es (Some place) others = record { entries = es ++ (others place).entries; end = (others place).end }

abbrev pub met_then : Met → (ℕ → Met) → Met
met_then m others = behind m.entries m.end others

-- n of them, one after the other
abbrev pub times_met : (ℕ → Met) → ℕ → ℕ → Met
times_met f zero place = record { entries = []; end = Some place }
times_met f (suc n) place = met_then (f place) (times_met f n)

abbrev pub count_met : ℕ → (ℕ → Met) → Option ℕ × ℕ → Met
count_met name f (None, after) = record { entries = Under name (ACount None) ∷ []; end = Some after }
count_met name f (Some n, after) = behind (Under name (ACount (Some n)) ∷ []) (Some after) (times_met f n)

abbrev pub list_met : ℕ → (ℕ → Met) → Read (Option ℕ) → Met
list_met name f (Ok x) = count_met name f x
list_met name f (Err e) = none_met

abbrev pub walk : Shape → List ℕ → ℕ → Met
walk Nothing src place = record { entries = []; end = Some place }
walk (An name kind) src place = item_met name (items_at (One kind End) src place)
walk (Both a b) src place = met_then (walk a src place) (walk b src)
walk (Many name s) src place = list_met name (walk s src) (size_at src place)

-- ---- the parts and the results of a multi: each begins with a header, which says what follows

abbrev pub header_at : List ℕ → ℕ → Read MultiHeader
header_at src place = int_at src place >>= λ kind. bool_at src kind.1 >>= λ done. int_at src done.1
    >>= λ err. Ok (record { kind = kind.0; done = done.0; err = err.0 }, err.1)

abbrev pub under : MultiHeader → Option Headed → List ℕ → ℕ → Met
under header None src place = none_met
under header (Some m) src place = behind (Head header ∷ []) (Some place) (walk (headed_shape m) src)

abbrev pub headed : OfHead → List ℕ → Read MultiHeader → Met
headed of_head src (Ok x) = under x.0 (of_head x.0) src x.1
headed of_head src (Err f) = none_met

abbrev pub head_met : OfHead → List ℕ → ℕ → Met
head_met of_head src place = headed of_head src (header_at src place)

-- ---- whole payloads, by the kind of message that they are read as

abbrev pub content_met : Content → List ℕ → ℕ → Met
content_met (Fields s) src place = walk s src place
content_met (Heads f) src place = times_met (head_met f src) (length src) place

-- what follows the header, if there is one
abbrev pub opened_content : Opened → Content
opened_content opened.First = Fields (Both (connect_request.shape 0) (read_only.shape 0))
opened_content (opened.Ask op) = ask_content op
opened_content opened.Connected = Fields (Both (connect_response.shape 0) (read_only.shape 0))
opened_content (opened.Reply op) = body_content op
opened_content opened.Event = Fields (watcher_event.shape 0)

abbrev pub opened_start : Opened → ℕ
opened_start opened.First = 0
opened_start (opened.Ask op) = 8
opened_start opened.Connected = 0
opened_start (opened.Reply op) = 16
opened_start opened.Event = 16

-- what a message is read as
abbrev pub client_opened : ClientFrame → Opened
client_opened (client.Connect hello flag) = opened.First
client_opened (client.Ask xid a) = opened.Ask (op_of_ask a)

abbrev pub server_opened : ServerFrame → Opened
server_opened (server.Connected hello flag) = opened.Connected
server_opened (server.Answered r) = opened.Reply (op_of_reply r)
server_opened (server.Event zxid event) = opened.Event

-- the fields of all items that end before the place, in order
abbrev pub opened_fields : Opened → List ℕ → ℕ → List Field
opened_fields o payload place =
    if nat_le (opened_start o) (length (take place payload))
    then fields_from (opened_start o) (content_met (opened_content o) (take place payload) (opened_start o)).entries else []

-- those of all items that are whole
abbrev pub whole_fields : Opened → List ℕ → List Field
whole_fields o payload = opened_fields o payload (length payload)

-- ---- what a walk does

-- the entries' fields are written, and the walk ends after them, or where the next item isn't whole
unfoldable pub Walks : At → List Field → Met → Walked → List Field → Type 0
Walks at room met next new = Takes at room met.entries next.at new × (next.end ≡ met.end)
