-- The lines of what a client sends.
use Rattle.std.specs.Prelude.{ℕ, ℤ, List, Option, Bool}
use Rattle.zk_records.specs.Held.{ConnectRequest, CreateAsk, CreateTtlAsk, WatchesAsk, AddWatchAsk, ReconfigAsk, DeleteAsk, SetDataAsk, SetAclAsk, CheckAsk, WatchAsk, PathAsk, AuthAsk, SetWatchesAsk}
use Rattle.zk_records.specs.{declared.connect.ConnectRequestOf.ConnectRequestOf, declared.ask.CreateAskOf.CreateAskOf, declared.ask.DeleteAskOf.DeleteAskOf, declared.ask.SetDataAskOf.SetDataAskOf, declared.ask.SetAclAskOf.SetAclAskOf}
use Rattle.zk_records.specs.{declared.ask.CheckAskOf.CheckAskOf, declared.query.WatchAskOf.WatchAskOf, declared.query.PathAskOf.PathAskOf, declared.session.AuthAskOf.AuthAskOf, declared.session.SetWatchesAskOf.SetWatchesAskOf}
use Rattle.zk_records.specs.{declared.ask.CreateTtlAskOf.CreateTtlAskOf, declared.watches.WatchesAskOf.WatchesAskOf, declared.watches.AddWatchAskOf.AddWatchAskOf, declared.reconfig.ReconfigAskOf.ReconfigAskOf}
use Rattle.zk_records.specs.{declared.op.Op.Op, declared.op.PartOp.PartOp, Codes.op_name, Codes.all_ops, Codes.part_name, Codes.all_parts}
use Rattle.zk_records.specs.declared.op.Op.TheVariants as ops
use Rattle.zk_records.specs.declared.op.PartOp.TheVariants as parts
use Rattle.zk_asks.specs.{Held.Part, Held.Ask, Parts.op_of_part, Rows.row_of, Rows.by_op, Rows.op_of_ask}
use Rattle.zk_asks.specs.declared.frame.PartOf.TheVariants as part
use Rattle.zk_asks.specs.Rows as asked
use Rattle.zk_items.specs.Form.{Form, fields, ◌and◌}
use Rattle.zk_items.specs.Leaf.{int, long, bit, ro, text, blob}
use Rattle.zk_lines.specs.{Words.field, Series.list_of, Series.multi_of, Records.acl, Named.first_named, Named.named}
use Rattle.zk_lines.specs.declared.word.Word.TheVariants as words
use Rattle.zk_records.specs.Made as made
use Rattle.zk_lines.specs.Rows.{Row, holds, nothing, Content, remake, Written, written, bodies_of}

-- ---- records, owned or borrowed

abbrev pub connect_of : {B : Type 0} → Form B → Form (ConnectRequestOf B × Option Bool)
connect_of b = fields (field words.Version int and field words.Zxid long and field words.Timeout int and
    field words.Session long and field words.Passwd b and field words.ReadOnly ro)
    (λ (hello, read_only). (hello.protocol_version, (hello.last_zxid_seen, (hello.time_out, (hello.session_id, (hello.passwd, read_only))))))
    (λ (version, (zxid, (time_out, (session, (passwd, read_only))))). (
      record {
        protocol_version = version;
        last_zxid_seen = zxid;
        time_out = time_out;
        session_id = session;
        passwd = passwd;
      },
      read_only,
    ))

abbrev pub create_of : {T B A : Type 0} → Form T → Form B → Form A → Form (CreateAskOf T B A)
create_of t b a = fields (field words.Path t and field words.Blob b and field words.Acl a and field words.Flags int)
    (λ a. (a.path, (a.blob, (a.acl, a.flags)))) made.create_ask

abbrev pub delete_of : {T : Type 0} → Form T → Form (DeleteAskOf T)
delete_of t = fields (field words.Path t and field words.Version int) (λ a. (a.path, a.version)) made.delete_ask

abbrev pub watch_of : {T : Type 0} → Form T → Form (WatchAskOf T)
watch_of t = fields (field words.Path t and field words.Watch bit) (λ a. (a.path, a.watch)) made.watch_ask

abbrev pub set_data_of : {T B : Type 0} → Form T → Form B → Form (SetDataAskOf T B)
set_data_of t b = fields (field words.Path t and field words.Blob b and field words.Version int)
    (λ a. (a.path, (a.blob, a.version))) made.set_data_ask

abbrev pub path_of : {T : Type 0} → Form T → Form (PathAskOf T)
path_of t = fields (field words.Path t) (λ a. a.path) made.path_ask

abbrev pub set_acl_of : {T A : Type 0} → Form T → Form A → Form (SetAclAskOf T A)
set_acl_of t a = fields (field words.Path t and field words.Acl a and field words.Version int)
    (λ a. (a.path, (a.acl, a.version))) made.set_acl_ask

abbrev pub auth_of : {T B : Type 0} → Form T → Form B → Form (AuthAskOf T B)
auth_of t b = fields (field words.Kind int and field words.Scheme t and field words.Auth b)
    (λ a. (a.kind, (a.scheme, a.auth))) made.auth_ask

abbrev pub set_watches_of : {L : Type 0} → Form L → Form (SetWatchesAskOf L)
set_watches_of l = fields (field words.Zxid long and field words.DataWatches l and field words.ExistWatches l and field words.ChildWatches l)
    (λ a. (a.zxid, (a.data_watches, (a.exist_watches, a.child_watches)))) made.set_watches_ask

abbrev pub check_of : {T : Type 0} → Form T → Form (CheckAskOf T)
check_of t = fields (field words.Path t and field words.Version int) (λ a. (a.path, a.version)) made.check_ask

abbrev pub create_ttl_of : {T B A : Type 0} → Form T → Form B → Form A → Form (CreateTtlAskOf T B A)
create_ttl_of t b a = fields (field words.Path t and field words.Blob b and field words.Acl a and field words.Flags int and field words.Ttl long)
    (λ a. (a.path, (a.blob, (a.acl, (a.flags, a.ttl))))) made.create_ttl_ask

abbrev pub watches_of : {T : Type 0} → Form T → Form (WatchesAskOf T)
watches_of t = fields (field words.Path t and field words.Kind int) (λ a. (a.path, a.kind)) made.watches_ask

abbrev pub add_watch_of : {T : Type 0} → Form T → Form (AddWatchAskOf T)
add_watch_of t = fields (field words.Path t and field words.Mode int) (λ a. (a.path, a.mode)) made.add_watch_ask

abbrev pub reconfig_of : {T : Type 0} → Form T → Form (ReconfigAskOf T)
reconfig_of t = fields (field words.Joining t and field words.Leaving t and field words.Members t and field words.Config long)
    (λ a. (a.joining, (a.leaving, (a.members, a.config)))) made.reconfig_ask

-- ---- owned records

abbrev pub connect : Form (ConnectRequest × Option Bool)
connect = connect_of blob

abbrev pub create : Form CreateAsk
create = create_of text blob (list_of acl)

abbrev pub delete : Form DeleteAsk
delete = delete_of text

abbrev pub watch : Form WatchAsk
watch = watch_of text

abbrev pub set_data : Form SetDataAsk
set_data = set_data_of text blob

abbrev pub path : Form PathAsk
path = path_of text

abbrev pub set_acl : Form SetAclAsk
set_acl = set_acl_of text (list_of acl)

abbrev pub auth : Form AuthAsk
auth = auth_of text blob

abbrev pub set_watches : Form SetWatchesAsk
set_watches = set_watches_of (list_of text)

abbrev pub check : Form CheckAsk
check = check_of text

abbrev pub create_ttl : Form CreateTtlAsk
create_ttl = create_ttl_of text blob (list_of acl)

abbrev pub watches : Form WatchesAsk
watches = watches_of text

abbrev pub add_watch : Form AddWatchAsk
add_watch = add_watch_of text

abbrev pub reconfig : Form ReconfigAsk
reconfig = reconfig_of text

-- ---- parts of a multi

unfoldable pub part_named : List ℕ → Option PartOp
part_named bytes = first_named part_name all_parts bytes

-- what each part is made of
abbrev pub part_line_of : PartOp → Row Part
part_line_of parts.Create = holds part.Create create
part_line_of parts.Delete = holds part.Delete delete
part_line_of parts.SetData = holds part.SetData set_data
part_line_of parts.Check = holds part.Check check

-- a part is what its row makes: what is given for each row is given for each part
abbrev pub by_part {ℓ} : (P : Part → Type ℓ) → ((op : PartOp) (x : Content (part_line_of op)) → P (remake (part_line_of op) x)) → (p : Part) → P p
by_part P f (part.Create a) = f parts.Create a
by_part P f (part.Delete a) = f parts.Delete a
by_part P f (part.SetData a) = f parts.SetData a
by_part P f (part.Check a) = f parts.Check a

abbrev pub part_written : Part → Written
part_written p = by_part (λ _. Written) (written part_line_of) p

-- a part: its name and its record
abbrev pub part_form : Form Part
part_form = named (bodies_of part_name part_named op_of_part part_line_of part_written)

-- joined by semicolons, between braces
abbrev pub multi : Form (List Part)
multi = multi_of part_form

-- ---- requests

unfoldable pub op_named : List ℕ → Option Op
op_named bytes = first_named op_name all_ops bytes

-- what each operation's request is spelled as: the form of what its row holds
abbrev pub ask_line : (op : Op) → Form (asked.Content (row_of op))
ask_line ops.Create = create
ask_line ops.Delete = delete
ask_line ops.Exists = watch
ask_line ops.GetData = watch
ask_line ops.SetData = set_data
ask_line ops.GetAcl = path
ask_line ops.SetAcl = set_acl
ask_line ops.GetChildren = watch
ask_line ops.Sync = path
ask_line ops.Ping = nothing
ask_line ops.GetChildren2 = watch
ask_line ops.Multi = multi
ask_line ops.Create2 = create
ask_line ops.Auth = auth
ask_line ops.SetWatches = set_watches
ask_line ops.CloseSession = nothing
ask_line ops.Reconfig = reconfig
ask_line ops.CheckWatches = watches
ask_line ops.RemoveWatches = watches
ask_line ops.CreateContainer = create
ask_line ops.CreateTtl = create_ttl
ask_line ops.GetEphemerals = path
ask_line ops.GetAllChildrenNumber = path
ask_line ops.AddWatch = add_watch

-- by cases, so that an operation's row is seen where the operation is known
abbrev pub line_of : Op → Row Ask
line_of ops.Create = holds (asked.remake (row_of ops.Create)) (ask_line ops.Create)
line_of op = holds (asked.remake (row_of op)) (ask_line op)

-- what is given for each line is given for each row
abbrev by_row {ℓ} : (P : Ask → Type ℓ) → ((op : Op) (x : Content (line_of op)) → P (remake (line_of op) x)) →
    (op : Op) (x : asked.Content (row_of op)) → P (asked.remake (row_of op) x)
by_row P f ops.Create x = f ops.Create x
by_row P f op x = f op x

-- what is given for each line is given for each ask
abbrev pub by_line {ℓ} : (P : Ask → Type ℓ) → ((op : Op) (x : Content (line_of op)) → P (remake (line_of op) x)) → (a : Ask) → P a
by_line P f a = by_op P (by_row P f) a

abbrev pub ask_written : Ask → Written
ask_written a = by_line (λ _. Written) (written line_of) a

-- a request: its operation's name and its record's fields
abbrev pub ask_form : Form Ask
ask_form = named (bodies_of op_name op_named op_of_ask line_of ask_written)

-- the xid of a request, and the request
abbrev pub request : Form (ℤ × Ask)
request = int and field words.Blank ask_form
