-- The fields of a frame.
use Rattle.std.specs.Prelude.{◌≡◌, ℕ, Bool, List, [], ◌++◌, length, take, drop, Option, Some, None}
use Rattle.zk_jute.specs.Item.{Item, bytes_of}
use Rattle.zk_records.specs.{Codes.op_number, Records.reply_header}
use Rattle.zk_asks.specs.declared.frame.ClientFrameOf.TheVariants as client
use Rattle.zk_asks.specs.{Held.ClientFrame, Forms.header_items, Rows.op_of_ask}
use Rattle.zk_answers.specs.declared.frame.OutcomeOf.TheVariants as outcome
use Rattle.zk_answers.specs.declared.frame.ServerFrameOf.TheVariants as server
use Rattle.zk_answers.specs.{Held.Outcome, Held.ServerFrame, Frames.header_of, Frames.event_header}
use Rattle.zk_fields.specs.{declared.field.Field.Field, Fields.Entry, Fields.fields_from, Fields.items_of, Room.Fits, Records.connect_request, Records.connect_response, Records.watcher_event, Records.read_only}
use Rattle.zk_fields.specs.Rows.{ask_entries, ask_behind, body_entries, body_behind}

abbrev pub flag_entries : Option Bool → List Entry
flag_entries None = []
flag_entries (Some b) = read_only.entries 0 b

-- the items before the fields, the fields, and the items after them
pub record Framed : Type 0 where
  pub front : List Item
  pub entries : List Entry
  pub behind : List Item

abbrev pub rest_entries : Outcome → List Entry
rest_entries (outcome.Done b) = body_entries b
rest_entries (outcome.Failed op e) = []

abbrev pub rest_behind : Outcome → List Item
rest_behind (outcome.Done b) = body_behind b
rest_behind (outcome.Failed op e) = []

-- the header's items come before the fields
abbrev pub client_framed : ClientFrame → Framed
client_framed (client.Connect hello flag) = record { front = []; entries = connect_request.entries 0 hello ++ flag_entries flag; behind = [] }
client_framed (client.Ask xid a) = record { front = header_items xid (op_number (op_of_ask a)); entries = ask_entries a; behind = ask_behind a }

abbrev pub server_framed : ServerFrame → Framed
server_framed (server.Connected hello flag) = record { front = []; entries = connect_response.entries 0 hello ++ flag_entries flag; behind = [] }
server_framed (server.Answered r) = record { front = reply_header.items (header_of r); entries = rest_entries r.outcome; behind = rest_behind r.outcome }
server_framed (server.Event zxid event) = record { front = reply_header.items (event_header zxid); entries = watcher_event.entries 0 event; behind = [] }

-- all items, in order
abbrev pub framed_items : Framed → List Item
framed_items f = f.front ++ (items_of f.entries ++ f.behind)

-- the fields, each with its place in the payload
abbrev pub framed_fields : Framed → List Field
framed_fields f = fields_from (length (bytes_of f.front)) f.entries

abbrev pub client_fields : ClientFrame → List Field
client_fields f = framed_fields (client_framed f)

abbrev pub server_fields : ServerFrame → List Field
server_fields s = framed_fields (server_framed s)

-- the room begins with the fields, as many as it has places for, and is else as before; all are counted
pub record AreWritten (fields before after : List Field) (count : ℕ) : Type 0 where
  pub count_is : count ≡ length fields
  pub room_is : after ≡ take (length before) fields ++ drop (length fields) before

-- so are those of the entries that begin at this place of a payload
unfoldable pub Shows : ℕ → List Entry → List Field → List Field → ℕ → Type 0
Shows start es before after count = Fits (record { count = 0; place = start }) es → AreWritten (fields_from start es) before after count
