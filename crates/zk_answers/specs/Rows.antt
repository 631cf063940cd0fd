-- What each operation's reply is made of: the one table.
use Rattle.std.specs.Prelude.{List, []}
use Rattle.zk_jute.specs.{Item.Item, Wired.Wired, Wired.int, Wired.ustring, Wired.vector}
use Rattle.zk_records.specs.declared.op.Op.{Op}
use Rattle.zk_records.specs.declared.op.Op.TheVariants as ops
use Rattle.zk_records.specs.Records.{stat, data_body, acl_body, children_body, create_body}
use Rattle.zk_answers.specs.{declared.frame.BodyOf.BodyOf, Held.Body, Held.PartDone, Results.multi_items}
use Rattle.zk_answers.specs.declared.frame.BodyOf.TheVariants as body

-- a record of its own, nothing, or the results of a multi's parts; each with the body that it makes
pub data Row : Type 1 where
  holds : {X : Type 0} → (X → Body) → Wired X → Row
  bare : Body → Row
  multi : Row

abbrev pub row_of : Op → Row
row_of ops.Create = holds body.Create ustring
row_of ops.Delete = bare body.Delete
row_of ops.Exists = holds body.Exists stat
row_of ops.GetData = holds (λ x. body.GetData x.blob x.stat) data_body
row_of ops.SetData = holds body.SetData stat
row_of ops.GetAcl = holds (λ x. body.GetAcl x.acl x.stat) acl_body
row_of ops.SetAcl = holds body.SetAcl stat
row_of ops.GetChildren = holds body.GetChildren (vector ustring)
row_of ops.Sync = holds body.Sync ustring
row_of ops.Ping = bare body.Ping
row_of ops.GetChildren2 = holds (λ x. body.GetChildren2 x.names x.stat) children_body
row_of ops.Multi = multi
row_of ops.Create2 = holds (λ x. body.Create2 x.path x.stat) create_body
row_of ops.Auth = bare body.Auth
row_of ops.SetWatches = bare body.SetWatches
row_of ops.CloseSession = bare body.CloseSession
row_of ops.Reconfig = holds (λ x. body.Reconfig x.blob x.stat) data_body
row_of ops.CheckWatches = bare body.CheckWatches
row_of ops.RemoveWatches = bare body.RemoveWatches
row_of ops.CreateContainer = holds (λ x. body.CreateContainer x.path x.stat) create_body
row_of ops.CreateTtl = holds (λ x. body.CreateTtl x.path x.stat) create_body
row_of ops.GetEphemerals = holds body.GetEphemerals (vector ustring)
row_of ops.GetAllChildrenNumber = holds body.GetAllChildrenNumber int
row_of ops.AddWatch = holds body.AddWatch int

-- ---- what follows from a row

abbrev pub Content : Row → Type 0
Content (holds {X} make w) = X
Content (bare b) = Unit {0}
Content multi = List PartDone

abbrev pub remake : (r : Row) → Content r → Body
remake (holds make w) x = make x
remake (bare b) x = b
remake multi x = body.Multi x

abbrev pub items_in : (r : Row) → Content r → List Item
items_in (holds make w) x = w.items x
items_in (bare b) x = []
items_in multi x = multi_items x

-- a body is what its row makes: what is given for each row is given for each body
abbrev pub by_op {ℓ} : (P : Body → Type ℓ) → ((op : Op) (x : Content (row_of op)) → P (remake (row_of op) x)) → (b : Body) → P b
by_op P f (body.Create p) = f ops.Create p
by_op P f body.Delete = f ops.Delete tt
by_op P f (body.Exists s) = f ops.Exists s
by_op P f (body.GetData b s) = f ops.GetData (record { blob = b; stat = s })
by_op P f (body.SetData s) = f ops.SetData s
by_op P f (body.GetAcl a s) = f ops.GetAcl (record { acl = a; stat = s })
by_op P f (body.SetAcl s) = f ops.SetAcl s
by_op P f (body.GetChildren n) = f ops.GetChildren n
by_op P f (body.Sync p) = f ops.Sync p
by_op P f body.Ping = f ops.Ping tt
by_op P f (body.GetChildren2 n s) = f ops.GetChildren2 (record { names = n; stat = s })
by_op P f (body.Multi ds) = f ops.Multi ds
by_op P f (body.Create2 p s) = f ops.Create2 (record { path = p; stat = s })
by_op P f body.Auth = f ops.Auth tt
by_op P f body.SetWatches = f ops.SetWatches tt
by_op P f body.CloseSession = f ops.CloseSession tt
by_op P f (body.Reconfig b s) = f ops.Reconfig (record { blob = b; stat = s })
by_op P f body.CheckWatches = f ops.CheckWatches tt
by_op P f body.RemoveWatches = f ops.RemoveWatches tt
by_op P f (body.CreateContainer p s) = f ops.CreateContainer (record { path = p; stat = s })
by_op P f (body.CreateTtl p s) = f ops.CreateTtl (record { path = p; stat = s })
by_op P f (body.GetEphemerals n) = f ops.GetEphemerals n
by_op P f (body.GetAllChildrenNumber n) = f ops.GetAllChildrenNumber n
by_op P f (body.AddWatch n) = f ops.AddWatch n

-- ---- a body's operation, and its items

abbrev pub op_of_body : {T B L A M : Type 0} → BodyOf T B L A M → Op
op_of_body (body.Create path) = ops.Create
op_of_body body.Delete = ops.Delete
op_of_body (body.Exists s) = ops.Exists
op_of_body (body.GetData blob s) = ops.GetData
op_of_body (body.SetData s) = ops.SetData
op_of_body (body.GetAcl acl s) = ops.GetAcl
op_of_body (body.SetAcl s) = ops.SetAcl
op_of_body (body.GetChildren names) = ops.GetChildren
op_of_body (body.Sync path) = ops.Sync
op_of_body body.Ping = ops.Ping
op_of_body (body.GetChildren2 names s) = ops.GetChildren2
op_of_body (body.Multi dones) = ops.Multi
op_of_body (body.Create2 path s) = ops.Create2
op_of_body body.Auth = ops.Auth
op_of_body body.SetWatches = ops.SetWatches
op_of_body body.CloseSession = ops.CloseSession
op_of_body (body.Reconfig blob s) = ops.Reconfig
op_of_body body.CheckWatches = ops.CheckWatches
op_of_body body.RemoveWatches = ops.RemoveWatches
op_of_body (body.CreateContainer path s) = ops.CreateContainer
op_of_body (body.CreateTtl path s) = ops.CreateTtl
op_of_body (body.GetEphemerals names) = ops.GetEphemerals
op_of_body (body.GetAllChildrenNumber count) = ops.GetAllChildrenNumber
op_of_body (body.AddWatch code) = ops.AddWatch

abbrev pub body_items : Body → List Item
body_items = by_op (λ _. List Item) (λ op x. items_in (row_of op) x)
