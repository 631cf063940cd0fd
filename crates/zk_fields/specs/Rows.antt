-- What fields each operation's request and reply have: the one table.
use Rattle.std.specs.Prelude.{ℤ, if◌then◌else◌, List, []}
use Rattle.std.specs.{List.flat_map, Ordering.int_eq}
use Rattle.zk_jute.specs.Item.{Item}
use Rattle.zk_records.specs.{declared.op.Op.Op, Codes.op_number}
use Rattle.zk_records.specs.declared.op.Op.TheVariants as ops
use Rattle.zk_asks.specs.{Held.Ask, Parts.end_header, Parts.marked}
use Rattle.zk_asks.specs.Rows as asked
use Rattle.zk_answers.specs.Held.{Body}
use Rattle.zk_answers.specs.Rows as answered
use Rattle.zk_fields.specs.{Fields.Entry, Named.Shape, Named.Named, Named.nothing, Heads.OfHead, Heads.headed_part, Heads.headed_result, Heads.part_entries, Heads.done_entries}
use Rattle.zk_fields.specs.Records.{stat, create_ask, delete_ask, set_data_ask, set_acl_ask, watch_ask, path_ask, auth_ask, set_watches_ask, create_ttl_ask, watches_ask, add_watch_ask, reconfig_ask, data_body, acl_body, children_body, create_body, path, children, count, code}

-- the fields of a value, or those of each part or result of a multi
pub data Row (X : Type 0) : Type 0 where
  fields : Named X → Row X
  heads : OfHead → (X → List Entry) → Row X

-- of each operation: its request, of what its row in zk_asks holds, and its reply, of what its row in zk_answers holds
abbrev pub rows : (op : Op) → Row (asked.Content (asked.row_of op)) × Row (answered.Content (answered.row_of op))
rows ops.Create = (fields create_ask, fields path)
rows ops.Delete = (fields delete_ask, fields nothing)
rows ops.Exists = (fields watch_ask, fields stat)
rows ops.GetData = (fields watch_ask, fields data_body)
rows ops.SetData = (fields set_data_ask, fields stat)
rows ops.GetAcl = (fields path_ask, fields acl_body)
rows ops.SetAcl = (fields set_acl_ask, fields stat)
rows ops.GetChildren = (fields watch_ask, fields children)
rows ops.Sync = (fields path_ask, fields path)
rows ops.Ping = (fields nothing, fields nothing)
rows ops.GetChildren2 = (fields watch_ask, fields children_body)
rows ops.Multi = (heads headed_part (flat_map part_entries), heads headed_result (flat_map done_entries))
rows ops.Create2 = (fields create_ask, fields create_body)
rows ops.Auth = (fields auth_ask, fields nothing)
rows ops.SetWatches = (fields set_watches_ask, fields nothing)
rows ops.CloseSession = (fields nothing, fields nothing)
rows ops.Reconfig = (fields reconfig_ask, fields data_body)
rows ops.CheckWatches = (fields watches_ask, fields nothing)
rows ops.RemoveWatches = (fields watches_ask, fields nothing)
rows ops.CreateContainer = (fields create_ask, fields create_body)
rows ops.CreateTtl = (fields create_ttl_ask, fields create_body)
rows ops.GetEphemerals = (fields path_ask, fields children)
rows ops.GetAllChildrenNumber = (fields path_ask, fields count)
rows ops.AddWatch = (fields add_watch_ask, fields code)

-- ---- what follows from a row

abbrev pub entries_in : {X : Type 0} → Row X → X → List Entry
entries_in (fields k) x = k.entries 0 x
entries_in (heads of_head f) x = f x

abbrev pub ask_entries : Ask → List Entry
ask_entries = asked.by_op (λ _. List Entry) (λ op x. entries_in (rows op).0 x)

abbrev pub body_entries : Body → List Entry
body_entries = answered.by_op (λ _. List Entry) (λ op x. entries_in (rows op).1 x)

-- the items after the fields, by the operation's number: a multi's end marker
abbrev pub behind_of : ℤ → List Item
behind_of n = if int_eq n (op_number ops.Multi) then marked end_header else []

abbrev pub ask_behind : Ask → List Item
ask_behind a = behind_of (op_number (asked.op_of_ask a))

abbrev pub body_behind : Body → List Item
body_behind b = behind_of (op_number (answered.op_of_body b))

-- what they are before a value is known: fields, or as many parts or results as there are
pub data Content : Type 0 where
  Fields : Shape → Content
  Heads : OfHead → Content

abbrev pub content : {X : Type 0} → Row X → Content
content (fields k) = Fields (k.shape 0)
content (heads of_head f) = Heads of_head

-- by cases, so that an operation's row is seen where the operation is known
abbrev pub ask_content : Op → Content
ask_content ops.Create = content (rows ops.Create).0
ask_content op = content (rows op).0

abbrev pub body_content : Op → Content
body_content ops.Create = content (rows ops.Create).1
body_content op = content (rows op).1
