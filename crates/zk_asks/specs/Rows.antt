-- What each operation's request is made of: the one table.
use Rattle.std.specs.Prelude.{List, []}
use Rattle.zk_jute.specs.{Item.Item, Layout.Layout, Layout.End, Wired.Wired}
use Rattle.zk_records.specs.Records.{add_watch_ask, watches_ask, create_ttl_ask, reconfig_ask, create_ask, delete_ask, watch_ask, set_data_ask, path_ask, set_acl_ask, auth_ask, set_watches_ask}
use Rattle.zk_records.specs.declared.op.Op.{Op}
use Rattle.zk_records.specs.declared.op.Op.TheVariants as ops
use Rattle.zk_asks.specs.{declared.frame.AskOf.AskOf, Held.Part, Held.Ask, Parts.multi_items}
use Rattle.zk_asks.specs.declared.frame.AskOf.TheVariants as ask

-- a record of its own, nothing, or a multi's parts; each with the ask that it makes
pub data Row : Type 1 where
  holds : {X : Type 0} → (X → Ask) → Wired X → Row
  bare : Ask → Row
  multi : (List Part → Ask) → Row

abbrev pub row_of : Op → Row
row_of ops.Create = holds ask.Create create_ask
row_of ops.Delete = holds ask.Delete delete_ask
row_of ops.Exists = holds ask.Exists watch_ask
row_of ops.GetData = holds ask.GetData watch_ask
row_of ops.SetData = holds ask.SetData set_data_ask
row_of ops.GetAcl = holds ask.GetAcl path_ask
row_of ops.SetAcl = holds ask.SetAcl set_acl_ask
row_of ops.GetChildren = holds ask.GetChildren watch_ask
row_of ops.Sync = holds ask.Sync path_ask
row_of ops.Ping = bare ask.Ping
row_of ops.GetChildren2 = holds ask.GetChildren2 watch_ask
row_of ops.Multi = multi ask.Multi
row_of ops.Create2 = holds ask.Create2 create_ask
row_of ops.Auth = holds ask.Auth auth_ask
row_of ops.SetWatches = holds ask.SetWatches set_watches_ask
row_of ops.CloseSession = bare ask.CloseSession
row_of ops.Reconfig = holds ask.Reconfig reconfig_ask
row_of ops.CheckWatches = holds ask.CheckWatches watches_ask
row_of ops.RemoveWatches = holds ask.RemoveWatches watches_ask
row_of ops.CreateContainer = holds ask.CreateContainer create_ask
row_of ops.CreateTtl = holds ask.CreateTtl create_ttl_ask
row_of ops.GetEphemerals = holds ask.GetEphemerals path_ask
row_of ops.GetAllChildrenNumber = holds ask.GetAllChildrenNumber path_ask
row_of ops.AddWatch = holds ask.AddWatch add_watch_ask

-- ---- what follows from a row

abbrev pub Content : Row → Type 0
Content (holds {X} make w) = X
Content (bare a) = Unit {0}
Content (multi make) = List Part

abbrev pub remake : (r : Row) → Content r → Ask
remake (holds make w) x = make x
remake (bare a) x = a
remake (multi make) x = make x

abbrev pub items_in : (r : Row) → Content r → List Item
items_in (holds make w) x = w.items x
items_in (bare a) x = []
items_in (multi make) x = multi_items x

-- what a body is made of: the fields of a layout, or a multi's parts
pub data Body : Type 0 where
  Fields : Layout → Body
  Parts : Body

abbrev pub body_in : Row → Body
body_in (holds make w) = Fields w.layout
body_in (bare a) = Fields End
body_in (multi make) = Parts

-- an ask is what its row makes: what is given for each row is given for each ask
abbrev pub by_op {ℓ} : (P : Ask → Type ℓ) → ((op : Op) (x : Content (row_of op)) → P (remake (row_of op) x)) → (a : Ask) → P a
by_op P f (ask.Create a) = f ops.Create a
by_op P f (ask.Delete a) = f ops.Delete a
by_op P f (ask.Exists a) = f ops.Exists a
by_op P f (ask.GetData a) = f ops.GetData a
by_op P f (ask.SetData a) = f ops.SetData a
by_op P f (ask.GetAcl a) = f ops.GetAcl a
by_op P f (ask.SetAcl a) = f ops.SetAcl a
by_op P f (ask.GetChildren a) = f ops.GetChildren a
by_op P f (ask.Sync a) = f ops.Sync a
by_op P f ask.Ping = f ops.Ping tt
by_op P f (ask.GetChildren2 a) = f ops.GetChildren2 a
by_op P f (ask.Multi ps) = f ops.Multi ps
by_op P f (ask.Create2 a) = f ops.Create2 a
by_op P f (ask.Auth a) = f ops.Auth a
by_op P f (ask.SetWatches a) = f ops.SetWatches a
by_op P f ask.CloseSession = f ops.CloseSession tt
by_op P f (ask.Reconfig a) = f ops.Reconfig a
by_op P f (ask.CheckWatches a) = f ops.CheckWatches a
by_op P f (ask.RemoveWatches a) = f ops.RemoveWatches a
by_op P f (ask.CreateContainer a) = f ops.CreateContainer a
by_op P f (ask.CreateTtl a) = f ops.CreateTtl a
by_op P f (ask.GetEphemerals a) = f ops.GetEphemerals a
by_op P f (ask.GetAllChildrenNumber a) = f ops.GetAllChildrenNumber a
by_op P f (ask.AddWatch a) = f ops.AddWatch a

-- ---- an ask's operation, and its items

abbrev pub op_of_ask : {T B L A M : Type 0} → AskOf T B L A M → Op
op_of_ask (ask.Create x) = ops.Create
op_of_ask (ask.Delete x) = ops.Delete
op_of_ask (ask.Exists x) = ops.Exists
op_of_ask (ask.GetData x) = ops.GetData
op_of_ask (ask.SetData x) = ops.SetData
op_of_ask (ask.GetAcl x) = ops.GetAcl
op_of_ask (ask.SetAcl x) = ops.SetAcl
op_of_ask (ask.GetChildren x) = ops.GetChildren
op_of_ask (ask.Sync x) = ops.Sync
op_of_ask ask.Ping = ops.Ping
op_of_ask (ask.GetChildren2 x) = ops.GetChildren2
op_of_ask (ask.Multi x) = ops.Multi
op_of_ask (ask.Create2 x) = ops.Create2
op_of_ask (ask.Auth x) = ops.Auth
op_of_ask (ask.SetWatches x) = ops.SetWatches
op_of_ask ask.CloseSession = ops.CloseSession
op_of_ask (ask.Reconfig x) = ops.Reconfig
op_of_ask (ask.CheckWatches x) = ops.CheckWatches
op_of_ask (ask.RemoveWatches x) = ops.RemoveWatches
op_of_ask (ask.CreateContainer x) = ops.CreateContainer
op_of_ask (ask.CreateTtl x) = ops.CreateTtl
op_of_ask (ask.GetEphemerals x) = ops.GetEphemerals
op_of_ask (ask.GetAllChildrenNumber x) = ops.GetAllChildrenNumber
op_of_ask (ask.AddWatch x) = ops.AddWatch

abbrev pub body_items : Ask → List Item
body_items = by_op (λ _. List Item) (λ op x. items_in (row_of op) x)

abbrev pub body_of : Op → Body
body_of op = body_in (row_of op)
