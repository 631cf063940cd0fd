-- The records, by their fields: each with its kind, in order.
use Rattle.std.specs.Prelude.{◌≡◌}
use Rattle.std.proofs.Common.{rules}
use Rattle.zk_records.specs.{declared.acl.IdOf.IdOf, declared.acl.AclOf.AclOf, declared.stat.Stat.Stat, declared.connect.ConnectRequestOf.ConnectRequestOf, declared.connect.ConnectResponseOf.ConnectResponseOf}
use Rattle.zk_records.specs.{declared.header.RequestHeader.RequestHeader, declared.header.ReplyHeader.ReplyHeader, declared.header.MultiHeader.MultiHeader, declared.event.WatcherEventOf.WatcherEventOf, declared.ask.CreateAskOf.CreateAskOf}
use Rattle.zk_records.specs.{declared.ask.DeleteAskOf.DeleteAskOf, declared.query.WatchAskOf.WatchAskOf, declared.ask.SetDataAskOf.SetDataAskOf, declared.query.PathAskOf.PathAskOf, declared.ask.SetAclAskOf.SetAclAskOf}
use Rattle.zk_records.specs.{declared.session.AuthAskOf.AuthAskOf, declared.session.SetWatchesAskOf.SetWatchesAskOf, declared.ask.CheckAskOf.CheckAskOf, declared.body.DataBodyOf.DataBodyOf, declared.body.AclBodyOf.AclBodyOf}
use Rattle.zk_records.specs.{declared.body.ChildrenBodyOf.ChildrenBodyOf, declared.body.CreateBodyOf.CreateBodyOf, declared.ask.CreateTtlAskOf.CreateTtlAskOf, declared.watches.WatchesAskOf.WatchesAskOf, declared.watches.AddWatchAskOf.AddWatchAskOf}
use Rattle.zk_records.specs.{declared.reconfig.ReconfigAskOf.ReconfigAskOf}
use Rattle.zk_records.specs.Held.{Id, Acl, ConnectRequest, ConnectResponse, WatcherEvent, CreateTtlAsk, WatchesAsk, AddWatchAsk, ReconfigAsk, CreateAsk, DeleteAsk, SetDataAsk, SetAclAsk, CheckAsk, WatchAsk, PathAsk, AuthAsk, SetWatchesAsk, DataBody, AclBody, ChildrenBody, CreateBody}
use Rattle.zk_records.specs.Listed.{Listed, ◌of◌, ◌and◌, by}
use Rattle.zk_jute.specs.Wired.{Wired, int, long, boolean, ustring, buffer, vector}

abbrev id_fields : {T : Type 0} → Wired T → Listed (IdOf T)
id_fields t =
    t of (λ r. r.scheme) and
    t of (λ r. r.ident)

pub id_same : {T : Type 0} (t : Wired T) (x y : IdOf T) → (id_fields t).Same x y → x ≡ y
id_same t x y s = search (rules, s)

abbrev pub id_of : {T : Type 0} → Wired T → Wired (IdOf T)
id_of t = by (id_fields t) (id_same t)

abbrev pub id : Wired Id
id = id_of ustring

abbrev acl_fields : {W : Type 0} → Wired W → Listed (AclOf W)
acl_fields w =
    int of (λ r. r.perms) and
    w of (λ r. r.who)

pub acl_same : {W : Type 0} (w : Wired W) (x y : AclOf W) → (acl_fields w).Same x y → x ≡ y
acl_same w x y s = search (rules, s)

abbrev pub acl_of : {W : Type 0} → Wired W → Wired (AclOf W)
acl_of w = by (acl_fields w) (acl_same w)

abbrev pub acl : Wired Acl
acl = acl_of id

abbrev stat_fields : Listed Stat
stat_fields =
    long of (λ r. r.czxid) and
    long of (λ r. r.mzxid) and
    long of (λ r. r.ctime) and
    long of (λ r. r.mtime) and
    int of (λ r. r.version) and
    int of (λ r. r.cversion) and
    int of (λ r. r.aversion) and
    long of (λ r. r.ephemeral_owner) and
    int of (λ r. r.data_length) and
    int of (λ r. r.num_children) and
    long of (λ r. r.pzxid)

pub stat_same : (x y : Stat) → stat_fields.Same x y → x ≡ y
stat_same x y s = search (rules, s)

abbrev pub stat : Wired Stat
stat = by stat_fields stat_same

abbrev connect_request_fields : {B : Type 0} → Wired B → Listed (ConnectRequestOf B)
connect_request_fields b =
    int of (λ r. r.protocol_version) and
    long of (λ r. r.last_zxid_seen) and
    int of (λ r. r.time_out) and
    long of (λ r. r.session_id) and
    b of (λ r. r.passwd)

pub connect_request_same : {B : Type 0} (b : Wired B) (x y : ConnectRequestOf B) → (connect_request_fields b).Same x y → x ≡ y
connect_request_same b x y s = search (rules, s)

abbrev pub connect_request_of : {B : Type 0} → Wired B → Wired (ConnectRequestOf B)
connect_request_of b = by (connect_request_fields b) (connect_request_same b)

abbrev pub connect_request : Wired ConnectRequest
connect_request = connect_request_of buffer

abbrev connect_response_fields : {B : Type 0} → Wired B → Listed (ConnectResponseOf B)
connect_response_fields b =
    int of (λ r. r.protocol_version) and
    int of (λ r. r.time_out) and
    long of (λ r. r.session_id) and
    b of (λ r. r.passwd)

pub connect_response_same : {B : Type 0} (b : Wired B) (x y : ConnectResponseOf B) → (connect_response_fields b).Same x y → x ≡ y
connect_response_same b x y s = search (rules, s)

abbrev pub connect_response_of : {B : Type 0} → Wired B → Wired (ConnectResponseOf B)
connect_response_of b = by (connect_response_fields b) (connect_response_same b)

abbrev pub connect_response : Wired ConnectResponse
connect_response = connect_response_of buffer

abbrev request_header_fields : Listed RequestHeader
request_header_fields =
    int of (λ r. r.xid) and
    int of (λ r. r.kind)

pub request_header_same : (x y : RequestHeader) → request_header_fields.Same x y → x ≡ y
request_header_same x y s = search (rules, s)

abbrev pub request_header : Wired RequestHeader
request_header = by request_header_fields request_header_same

abbrev reply_header_fields : Listed ReplyHeader
reply_header_fields =
    int of (λ r. r.xid) and
    long of (λ r. r.zxid) and
    int of (λ r. r.err)

pub reply_header_same : (x y : ReplyHeader) → reply_header_fields.Same x y → x ≡ y
reply_header_same x y s = search (rules, s)

abbrev pub reply_header : Wired ReplyHeader
reply_header = by reply_header_fields reply_header_same

abbrev multi_header_fields : Listed MultiHeader
multi_header_fields =
    int of (λ r. r.kind) and
    boolean of (λ r. r.done) and
    int of (λ r. r.err)

pub multi_header_same : (x y : MultiHeader) → multi_header_fields.Same x y → x ≡ y
multi_header_same x y s = search (rules, s)

abbrev pub multi_header : Wired MultiHeader
multi_header = by multi_header_fields multi_header_same

abbrev watcher_event_fields : {T : Type 0} → Wired T → Listed (WatcherEventOf T)
watcher_event_fields t =
    int of (λ r. r.kind) and
    int of (λ r. r.state) and
    t of (λ r. r.path)

pub watcher_event_same : {T : Type 0} (t : Wired T) (x y : WatcherEventOf T) → (watcher_event_fields t).Same x y → x ≡ y
watcher_event_same t x y s = search (rules, s)

abbrev pub watcher_event_of : {T : Type 0} → Wired T → Wired (WatcherEventOf T)
watcher_event_of t = by (watcher_event_fields t) (watcher_event_same t)

abbrev pub watcher_event : Wired WatcherEvent
watcher_event = watcher_event_of ustring

abbrev create_ask_fields : {T B A : Type 0} → Wired T → Wired B → Wired A → Listed (CreateAskOf T B A)
create_ask_fields t b a =
    t of (λ r. r.path) and
    b of (λ r. r.blob) and
    a of (λ r. r.acl) and
    int of (λ r. r.flags)

pub create_ask_same : {T B A : Type 0} (t : Wired T) (b : Wired B) (a : Wired A) (x y : CreateAskOf T B A) → (create_ask_fields t b a).Same x y → x ≡ y
create_ask_same t b a x y s = search (rules, s)

abbrev pub create_ask_of : {T B A : Type 0} → Wired T → Wired B → Wired A → Wired (CreateAskOf T B A)
create_ask_of t b a = by (create_ask_fields t b a) (create_ask_same t b a)

abbrev pub create_ask : Wired CreateAsk
create_ask = create_ask_of ustring buffer (vector acl)

abbrev delete_ask_fields : {T : Type 0} → Wired T → Listed (DeleteAskOf T)
delete_ask_fields t =
    t of (λ r. r.path) and
    int of (λ r. r.version)

pub delete_ask_same : {T : Type 0} (t : Wired T) (x y : DeleteAskOf T) → (delete_ask_fields t).Same x y → x ≡ y
delete_ask_same t x y s = search (rules, s)

abbrev pub delete_ask_of : {T : Type 0} → Wired T → Wired (DeleteAskOf T)
delete_ask_of t = by (delete_ask_fields t) (delete_ask_same t)

abbrev pub delete_ask : Wired DeleteAsk
delete_ask = delete_ask_of ustring

abbrev watch_ask_fields : {T : Type 0} → Wired T → Listed (WatchAskOf T)
watch_ask_fields t =
    t of (λ r. r.path) and
    boolean of (λ r. r.watch)

pub watch_ask_same : {T : Type 0} (t : Wired T) (x y : WatchAskOf T) → (watch_ask_fields t).Same x y → x ≡ y
watch_ask_same t x y s = search (rules, s)

abbrev pub watch_ask_of : {T : Type 0} → Wired T → Wired (WatchAskOf T)
watch_ask_of t = by (watch_ask_fields t) (watch_ask_same t)

abbrev pub watch_ask : Wired WatchAsk
watch_ask = watch_ask_of ustring

abbrev set_data_ask_fields : {T B : Type 0} → Wired T → Wired B → Listed (SetDataAskOf T B)
set_data_ask_fields t b =
    t of (λ r. r.path) and
    b of (λ r. r.blob) and
    int of (λ r. r.version)

pub set_data_ask_same : {T B : Type 0} (t : Wired T) (b : Wired B) (x y : SetDataAskOf T B) → (set_data_ask_fields t b).Same x y → x ≡ y
set_data_ask_same t b x y s = search (rules, s)

abbrev pub set_data_ask_of : {T B : Type 0} → Wired T → Wired B → Wired (SetDataAskOf T B)
set_data_ask_of t b = by (set_data_ask_fields t b) (set_data_ask_same t b)

abbrev pub set_data_ask : Wired SetDataAsk
set_data_ask = set_data_ask_of ustring buffer

abbrev path_ask_fields : {T : Type 0} → Wired T → Listed (PathAskOf T)
path_ask_fields t =
    t of (λ r. r.path)

pub path_ask_same : {T : Type 0} (t : Wired T) (x y : PathAskOf T) → (path_ask_fields t).Same x y → x ≡ y
path_ask_same t x y s = search (rules, s)

abbrev pub path_ask_of : {T : Type 0} → Wired T → Wired (PathAskOf T)
path_ask_of t = by (path_ask_fields t) (path_ask_same t)

abbrev pub path_ask : Wired PathAsk
path_ask = path_ask_of ustring

abbrev set_acl_ask_fields : {T A : Type 0} → Wired T → Wired A → Listed (SetAclAskOf T A)
set_acl_ask_fields t a =
    t of (λ r. r.path) and
    a of (λ r. r.acl) and
    int of (λ r. r.version)

pub set_acl_ask_same : {T A : Type 0} (t : Wired T) (a : Wired A) (x y : SetAclAskOf T A) → (set_acl_ask_fields t a).Same x y → x ≡ y
set_acl_ask_same t a x y s = search (rules, s)

abbrev pub set_acl_ask_of : {T A : Type 0} → Wired T → Wired A → Wired (SetAclAskOf T A)
set_acl_ask_of t a = by (set_acl_ask_fields t a) (set_acl_ask_same t a)

abbrev pub set_acl_ask : Wired SetAclAsk
set_acl_ask = set_acl_ask_of ustring (vector acl)

abbrev auth_ask_fields : {T B : Type 0} → Wired T → Wired B → Listed (AuthAskOf T B)
auth_ask_fields t b =
    int of (λ r. r.kind) and
    t of (λ r. r.scheme) and
    b of (λ r. r.auth)

pub auth_ask_same : {T B : Type 0} (t : Wired T) (b : Wired B) (x y : AuthAskOf T B) → (auth_ask_fields t b).Same x y → x ≡ y
auth_ask_same t b x y s = search (rules, s)

abbrev pub auth_ask_of : {T B : Type 0} → Wired T → Wired B → Wired (AuthAskOf T B)
auth_ask_of t b = by (auth_ask_fields t b) (auth_ask_same t b)

abbrev pub auth_ask : Wired AuthAsk
auth_ask = auth_ask_of ustring buffer

abbrev set_watches_ask_fields : {L : Type 0} → Wired L → Listed (SetWatchesAskOf L)
set_watches_ask_fields l =
    long of (λ r. r.zxid) and
    l of (λ r. r.data_watches) and
    l of (λ r. r.exist_watches) and
    l of (λ r. r.child_watches)

pub set_watches_ask_same : {L : Type 0} (l : Wired L) (x y : SetWatchesAskOf L) → (set_watches_ask_fields l).Same x y → x ≡ y
set_watches_ask_same l x y s = search (rules, s)

abbrev pub set_watches_ask_of : {L : Type 0} → Wired L → Wired (SetWatchesAskOf L)
set_watches_ask_of l = by (set_watches_ask_fields l) (set_watches_ask_same l)

abbrev pub set_watches_ask : Wired SetWatchesAsk
set_watches_ask = set_watches_ask_of (vector ustring)

abbrev check_ask_fields : {T : Type 0} → Wired T → Listed (CheckAskOf T)
check_ask_fields t =
    t of (λ r. r.path) and
    int of (λ r. r.version)

pub check_ask_same : {T : Type 0} (t : Wired T) (x y : CheckAskOf T) → (check_ask_fields t).Same x y → x ≡ y
check_ask_same t x y s = search (rules, s)

abbrev pub check_ask_of : {T : Type 0} → Wired T → Wired (CheckAskOf T)
check_ask_of t = by (check_ask_fields t) (check_ask_same t)

abbrev pub check_ask : Wired CheckAsk
check_ask = check_ask_of ustring

abbrev data_body_fields : {B : Type 0} → Wired B → Listed (DataBodyOf B)
data_body_fields b =
    b of (λ r. r.blob) and
    stat of (λ r. r.stat)

pub data_body_same : {B : Type 0} (b : Wired B) (x y : DataBodyOf B) → (data_body_fields b).Same x y → x ≡ y
data_body_same b x y s = search (rules, s)

abbrev pub data_body_of : {B : Type 0} → Wired B → Wired (DataBodyOf B)
data_body_of b = by (data_body_fields b) (data_body_same b)

abbrev pub data_body : Wired DataBody
data_body = data_body_of buffer

abbrev acl_body_fields : {A : Type 0} → Wired A → Listed (AclBodyOf A)
acl_body_fields a =
    a of (λ r. r.acl) and
    stat of (λ r. r.stat)

pub acl_body_same : {A : Type 0} (a : Wired A) (x y : AclBodyOf A) → (acl_body_fields a).Same x y → x ≡ y
acl_body_same a x y s = search (rules, s)

abbrev pub acl_body_of : {A : Type 0} → Wired A → Wired (AclBodyOf A)
acl_body_of a = by (acl_body_fields a) (acl_body_same a)

abbrev pub acl_body : Wired AclBody
acl_body = acl_body_of (vector acl)

abbrev children_body_fields : {L : Type 0} → Wired L → Listed (ChildrenBodyOf L)
children_body_fields l =
    l of (λ r. r.names) and
    stat of (λ r. r.stat)

pub children_body_same : {L : Type 0} (l : Wired L) (x y : ChildrenBodyOf L) → (children_body_fields l).Same x y → x ≡ y
children_body_same l x y s = search (rules, s)

abbrev pub children_body_of : {L : Type 0} → Wired L → Wired (ChildrenBodyOf L)
children_body_of l = by (children_body_fields l) (children_body_same l)

abbrev pub children_body : Wired ChildrenBody
children_body = children_body_of (vector ustring)

abbrev create_body_fields : {T : Type 0} → Wired T → Listed (CreateBodyOf T)
create_body_fields t =
    t of (λ r. r.path) and
    stat of (λ r. r.stat)

pub create_body_same : {T : Type 0} (t : Wired T) (x y : CreateBodyOf T) → (create_body_fields t).Same x y → x ≡ y
create_body_same t x y s = search (rules, s)

abbrev pub create_body_of : {T : Type 0} → Wired T → Wired (CreateBodyOf T)
create_body_of t = by (create_body_fields t) (create_body_same t)

abbrev pub create_body : Wired CreateBody
create_body = create_body_of ustring

abbrev add_watch_ask_fields : {T : Type 0} → Wired T → Listed (AddWatchAskOf T)
add_watch_ask_fields t =
    t of (λ r. r.path) and
    int of (λ r. r.mode)

pub add_watch_ask_same : {T : Type 0} (t : Wired T) (x y : AddWatchAskOf T) → (add_watch_ask_fields t).Same x y → x ≡ y
add_watch_ask_same t x y s = search (rules, s)

abbrev pub add_watch_ask_of : {T : Type 0} → Wired T → Wired (AddWatchAskOf T)
add_watch_ask_of t = by (add_watch_ask_fields t) (add_watch_ask_same t)

abbrev pub add_watch_ask : Wired AddWatchAsk
add_watch_ask = add_watch_ask_of ustring

abbrev create_ttl_ask_fields : {T B A : Type 0} → Wired T → Wired B → Wired A → Listed (CreateTtlAskOf T B A)
create_ttl_ask_fields t b a =
    t of (λ r. r.path) and
    b of (λ r. r.blob) and
    a of (λ r. r.acl) and
    int of (λ r. r.flags) and
    long of (λ r. r.ttl)

pub create_ttl_ask_same : {T B A : Type 0} (t : Wired T) (b : Wired B) (a : Wired A) (x y : CreateTtlAskOf T B A) → (create_ttl_ask_fields t b a).Same x y → x ≡ y
create_ttl_ask_same t b a x y s = search (rules, s)

abbrev pub create_ttl_ask_of : {T B A : Type 0} → Wired T → Wired B → Wired A → Wired (CreateTtlAskOf T B A)
create_ttl_ask_of t b a = by (create_ttl_ask_fields t b a) (create_ttl_ask_same t b a)

abbrev pub create_ttl_ask : Wired CreateTtlAsk
create_ttl_ask = create_ttl_ask_of ustring buffer (vector acl)

abbrev watches_ask_fields : {T : Type 0} → Wired T → Listed (WatchesAskOf T)
watches_ask_fields t =
    t of (λ r. r.path) and
    int of (λ r. r.kind)

pub watches_ask_same : {T : Type 0} (t : Wired T) (x y : WatchesAskOf T) → (watches_ask_fields t).Same x y → x ≡ y
watches_ask_same t x y s = search (rules, s)

abbrev pub watches_ask_of : {T : Type 0} → Wired T → Wired (WatchesAskOf T)
watches_ask_of t = by (watches_ask_fields t) (watches_ask_same t)

abbrev pub watches_ask : Wired WatchesAsk
watches_ask = watches_ask_of ustring

abbrev reconfig_ask_fields : {T : Type 0} → Wired T → Listed (ReconfigAskOf T)
reconfig_ask_fields t =
    t of (λ r. r.joining) and
    t of (λ r. r.leaving) and
    t of (λ r. r.members) and
    long of (λ r. r.config)

pub reconfig_ask_same : {T : Type 0} (t : Wired T) (x y : ReconfigAskOf T) → (reconfig_ask_fields t).Same x y → x ≡ y
reconfig_ask_same t x y s = search (rules, s)

abbrev pub reconfig_ask_of : {T : Type 0} → Wired T → Wired (ReconfigAskOf T)
reconfig_ask_of t = by (reconfig_ask_fields t) (reconfig_ask_same t)

abbrev pub reconfig_ask : Wired ReconfigAsk
reconfig_ask = reconfig_ask_of ustring
