-- The lines of what a server sends.
use Rattle.std.specs.Prelude.{ℕ, ℤ, List, [], ◌∷◌, ◌++◌, Option, Some, Bool, codes}
use Rattle.std.specs.Fmt.{signed_decimal}
use Rattle.zk_records.specs.{Held.ConnectResponse, Held.WatcherEvent, Held.DataBody, Held.AclBody, Held.CreateBody, Held.ChildrenBody, declared.connect.ConnectResponseOf.ConnectResponseOf, declared.event.WatcherEventOf.WatcherEventOf}
use Rattle.zk_records.specs.{declared.stat.Stat.Stat, declared.op.Op.Op, Codes.op_name, Codes.part_name}
use Rattle.zk_records.specs.declared.op.Op.TheVariants as ops
use Rattle.zk_records.specs.declared.op.PartOp.TheVariants as parts
use Rattle.zk_answers.specs.{Held.PartDone, Held.Body, Held.Outcome, Held.Reply, Frames.op_of_outcome, Rows.row_of, Rows.by_op}
use Rattle.zk_answers.specs.declared.frame.PartDoneOf.TheVariants as done
use Rattle.zk_answers.specs.declared.frame.OutcomeOf.TheVariants as outcome
use Rattle.zk_answers.specs.Rows as answered
use Rattle.zk_items.specs.Form.{Form, Read, ◌>>=◌, read_map, fields, ◌and◌, word_at}
use Rattle.zk_items.specs.{Leaf.int, Leaf.long, Leaf.ro, Leaf.text, Leaf.blob, Codes.error_code, Codes.failure_code, Codes.event_code}
use Rattle.zk_lines.specs.{Words.word_of, Words.field, declared.word.Word.Word, declared.multi_result.DoneName.DoneName, Series.list_of, Series.multi_of, Series.if_passed, Records.acl, Records.stat, Named.Bodies, Named.first_named, Named.named}
use Rattle.zk_lines.specs.declared.word.Word.TheVariants as words
use Rattle.zk_lines.specs.declared.multi_result.DoneName.TheVariants as names
use Rattle.zk_lines.specs.Rows.{Row, holds, nothing, bare, Content, remake, row_at, Written, written, bodies_of}
use Rattle.zk_lines.specs.Asks.{op_named}

-- ---- records

abbrev pub connected_of : {B : Type 0} → Form B → Form (ConnectResponseOf B × Option Bool)
connected_of b = fields (field words.Version int and field words.Timeout int and field words.Session long and field words.Passwd b and field words.ReadOnly ro)
    (λ (hello, read_only). (hello.protocol_version, (hello.time_out, (hello.session_id, (hello.passwd, read_only)))))
    (λ (version, (time_out, (session, (passwd, read_only)))). (
      record {
        protocol_version = version;
        time_out = time_out;
        session_id = session;
        passwd = passwd;
      },
      read_only,
    ))

abbrev pub connected : Form (ConnectResponse × Option Bool)
connected = connected_of blob

-- the zxid and the event
abbrev pub event_of : {T : Type 0} → Form T → Form (ℤ × WatcherEventOf T)
event_of t = fields (field words.Zxid long and field words.Kind event_code and field words.State int and field words.Path t)
    (λ (zxid, e). (zxid, (e.kind, (e.state, e.path)))) (λ (zxid, (kind, (state, path))). (zxid, record { kind = kind; state = state; path = path }))

abbrev pub event : Form (ℤ × WatcherEvent)
event = event_of text

-- a field, and the Stat after it
abbrev pub with_stat : {X : Type 0} → Word → Form X → Form (X × Stat)
with_stat word f = field word f and field words.Stat stat

abbrev pub content : Form DataBody
content = fields (with_stat words.Blob blob) (λ b. (b.blob, b.stat)) (λ (blob, stat). record { blob = blob; stat = stat })

abbrev pub acls : Form AclBody
acls = fields (with_stat words.Acl (list_of acl)) (λ b. (b.acl, b.stat)) (λ (acl, stat). record { acl = acl; stat = stat })

abbrev pub created : Form CreateBody
created = fields (with_stat words.Path text) (λ b. (b.path, b.stat)) (λ (path, stat). record { path = path; stat = stat })

abbrev pub children : Form ChildrenBody
children = fields (with_stat words.Names (list_of text)) (λ b. (b.names, b.stat)) (λ (names, stat). record { names = names; stat = stat })

-- ---- results of a multi

-- the name of the part, or that of a failure
abbrev pub done_name : DoneName → List ℕ
done_name names.Create = part_name parts.Create
done_name names.Delete = part_name parts.Delete
done_name names.SetData = part_name parts.SetData
done_name names.Check = part_name parts.Check
done_name names.Fail = codes "fail"

abbrev pub all_dones : List DoneName
all_dones = names.Create ∷ names.Delete ∷ names.SetData ∷ names.Check ∷ names.Fail ∷ []

unfoldable pub done_named : List ℕ → Option DoneName
done_named bytes = first_named done_name all_dones bytes

abbrev pub name_of_done : PartDone → DoneName
name_of_done (done.Created p) = names.Create
name_of_done done.Deleted = names.Delete
name_of_done (done.DataSet s) = names.SetData
name_of_done done.Checked = names.Check
name_of_done (done.PartFailed e) = names.Fail

-- what each result is made of
abbrev pub done_line_of : DoneName → Row PartDone
done_line_of names.Create = holds done.Created (field words.Path text)
done_line_of names.Delete = bare done.Deleted
done_line_of names.SetData = holds done.DataSet (field words.Stat stat)
done_line_of names.Check = bare done.Checked
done_line_of names.Fail = holds done.PartFailed (field words.Err error_code)

-- a result is what its row makes: what is given for each row is given for each result
abbrev pub by_done {ℓ} : (P : PartDone → Type ℓ) →
    ((name : DoneName) (x : Content (done_line_of name)) → P (remake (done_line_of name) x)) → (d : PartDone) → P d
by_done P f (done.Created p) = f names.Create p
by_done P f done.Deleted = f names.Delete tt
by_done P f (done.DataSet s) = f names.SetData s
by_done P f done.Checked = f names.Check tt
by_done P f (done.PartFailed e) = f names.Fail e

abbrev pub done_written : PartDone → Written
done_written d = by_done (λ _. Written) (written done_line_of) d

abbrev pub done_form : Form PartDone
done_form = named (bodies_of done_name done_named name_of_done done_line_of done_written)

abbrev pub multi : Form (List PartDone)
multi = multi_of done_form

-- ---- replies

-- what each operation's reply is spelled as: the form of what its row holds
abbrev pub body_line : (op : Op) → Form (answered.Content (row_of op))
body_line ops.Create = field words.Path text
body_line ops.Delete = nothing
body_line ops.Exists = field words.Stat stat
body_line ops.GetData = content
body_line ops.SetData = field words.Stat stat
body_line ops.GetAcl = acls
body_line ops.SetAcl = field words.Stat stat
body_line ops.GetChildren = field words.Names (list_of text)
body_line ops.Sync = field words.Path text
body_line ops.Ping = nothing
body_line ops.GetChildren2 = children
body_line ops.Multi = multi
body_line ops.Create2 = created
body_line ops.Auth = nothing
body_line ops.SetWatches = nothing
body_line ops.CloseSession = nothing
body_line ops.Reconfig = content
body_line ops.CheckWatches = nothing
body_line ops.RemoveWatches = nothing
body_line ops.CreateContainer = created
body_line ops.CreateTtl = created
body_line ops.GetEphemerals = field words.Names (list_of text)
body_line ops.GetAllChildrenNumber = field words.Count int
body_line ops.AddWatch = field words.Code int

-- by cases, so that an operation's row is seen where the operation is known
abbrev pub line_of : Op → Row Body
line_of ops.Create = holds (answered.remake (row_of ops.Create)) (body_line ops.Create)
line_of op = holds (answered.remake (row_of op)) (body_line op)

-- what is given for each line is given for each row
abbrev by_row {ℓ} : (P : Body → Type ℓ) → ((op : Op) (x : Content (line_of op)) → P (remake (line_of op) x)) →
    (op : Op) (x : answered.Content (row_of op)) → P (answered.remake (row_of op) x)
by_row P f ops.Create x = f ops.Create x
by_row P f op x = f op x

-- what is given for each line is given for each body
abbrev pub by_line {ℓ} : (P : Body → Type ℓ) → ((op : Op) (x : Content (line_of op)) → P (remake (line_of op) x)) → (b : Body) → P b
by_line P f b = by_op P (by_row P f) b

abbrev pub body_written : Body → Written
body_written b = by_line (λ _. Written) (written line_of) b

-- the error, if one comes first, or the body
abbrev pub outcome_spell : Outcome → List ℕ
outcome_spell (outcome.Done b) = (body_written b).spell
outcome_spell (outcome.Failed op e) = (field words.Err failure_code).spell e

abbrev pub outcome_fits : Outcome → Type 0
outcome_fits (outcome.Done b) = (body_written b).fits
outcome_fits (outcome.Failed op e) = failure_code.fits e

abbrev pub outcome_at : Op → List ℕ → Read Outcome
outcome_at op bytes = if_passed (word_at (word_of words.Err) bytes)
    (λ rest. read_map (outcome.Failed op) (failure_code.at rest)) (read_map outcome.Done (row_at (line_of op) bytes))

-- after the name the zxid, and then the outcome
abbrev pub outcome_bodies : Bodies Op (ℤ × Outcome)
outcome_bodies = record {
  name = op_name;
  key_at = op_named;
  key = λ p. op_of_outcome p.1;
  fits = λ p. long.fits p.0 × outcome_fits p.1;
  spell = λ p. (field words.Zxid long).spell p.0 ++ outcome_spell p.1;
  at = λ op bytes. (field words.Zxid long).at bytes >>= λ z. outcome_at op z.1 >>= λ o. Some ((z.0, o.0), o.1);
}

abbrev pub named_outcome : Form (ℤ × Outcome)
named_outcome = named outcome_bodies

-- the xid, the name, the zxid and the outcome
-- a reply whose outcome is spelled so
abbrev pub reply_to : Op → ℤ → ℤ → List ℕ → List ℕ
reply_to op xid zxid outcome = signed_decimal xid ++ (word_of words.Blank ++ (op_name op ++ ((word_of words.Zxid ++ signed_decimal zxid) ++ outcome)))

abbrev pub reply : Form Reply
reply = fields (int and field words.Blank named_outcome) (λ r. (r.xid, (r.zxid, r.outcome)))
    (λ (xid, (zxid, outcome)). record { xid = xid; zxid = zxid; outcome = outcome })
