-- The records, by their fields: each with its kind and its name, in order.
use Rattle.std.specs.Prelude.{ℤ, Bool}
use Rattle.zk_jute.specs.Held.{Text, Vector}
use Rattle.zk_records.specs.declared.stat.Stat.{Stat}
use Rattle.zk_records.specs.Held.{Id, Acl, ConnectRequest, ConnectResponse, WatcherEvent, CreateTtlAsk, WatchesAsk, AddWatchAsk, ReconfigAsk, CreateAsk, DeleteAsk, SetDataAsk, SetAclAsk, CheckAsk, WatchAsk, PathAsk, AuthAsk, SetWatchesAsk, DataBody, AclBody, ChildrenBody, CreateBody}
use Rattle.zk_fields.specs.declared.name.TheConstants as names
use Rattle.zk_fields.specs.Named.{Named, an_int, a_long, a_boolean, a_text, a_blob, many, ◌of◌, ◌and◌}

abbrev pub texts : Named (Vector Text)
texts = many a_text

abbrev pub id : Named Id
id =
    a_text of (names.SCHEME, λ r. r.scheme) and
    a_text of (names.ID, λ r. r.ident)

-- of an access right's identity each field has its own name
abbrev pub acl : Named Acl
acl =
    an_int of (names.PERMS, λ r. r.perms) and
    id of (0, λ r. r.who)

abbrev pub rights : Named (Vector Acl)
rights = many acl

abbrev pub stat : Named Stat
stat =
    a_long of (names.CZXID, λ r. r.czxid) and
    a_long of (names.MZXID, λ r. r.mzxid) and
    a_long of (names.CTIME, λ r. r.ctime) and
    a_long of (names.MTIME, λ r. r.mtime) and
    an_int of (names.VERSION, λ r. r.version) and
    an_int of (names.CVERSION, λ r. r.cversion) and
    an_int of (names.AVERSION, λ r. r.aversion) and
    a_long of (names.EPHEMERAL_OWNER, λ r. r.ephemeral_owner) and
    an_int of (names.DATA_LENGTH, λ r. r.data_length) and
    an_int of (names.NUM_CHILDREN, λ r. r.num_children) and
    a_long of (names.PZXID, λ r. r.pzxid)

abbrev pub connect_request : Named ConnectRequest
connect_request =
    an_int of (names.PROTOCOL_VERSION, λ r. r.protocol_version) and
    a_long of (names.LAST_ZXID_SEEN, λ r. r.last_zxid_seen) and
    an_int of (names.TIME_OUT, λ r. r.time_out) and
    a_long of (names.SESSION_ID, λ r. r.session_id) and
    a_blob of (names.PASSWD, λ r. r.passwd)

abbrev pub connect_response : Named ConnectResponse
connect_response =
    an_int of (names.PROTOCOL_VERSION, λ r. r.protocol_version) and
    an_int of (names.TIME_OUT, λ r. r.time_out) and
    a_long of (names.SESSION_ID, λ r. r.session_id) and
    a_blob of (names.PASSWD, λ r. r.passwd)

abbrev pub watcher_event : Named WatcherEvent
watcher_event =
    an_int of (names.TYPE, λ r. r.kind) and
    an_int of (names.STATE, λ r. r.state) and
    a_text of (names.PATH, λ r. r.path)

abbrev pub create_ask : Named CreateAsk
create_ask =
    a_text of (names.PATH, λ r. r.path) and
    a_blob of (names.DATA, λ r. r.blob) and
    rights of (names.ACL, λ r. r.acl) and
    an_int of (names.FLAGS, λ r. r.flags)

abbrev pub delete_ask : Named DeleteAsk
delete_ask =
    a_text of (names.PATH, λ r. r.path) and
    an_int of (names.VERSION, λ r. r.version)

abbrev pub set_data_ask : Named SetDataAsk
set_data_ask =
    a_text of (names.PATH, λ r. r.path) and
    a_blob of (names.DATA, λ r. r.blob) and
    an_int of (names.VERSION, λ r. r.version)

abbrev pub set_acl_ask : Named SetAclAsk
set_acl_ask =
    a_text of (names.PATH, λ r. r.path) and
    rights of (names.ACL, λ r. r.acl) and
    an_int of (names.VERSION, λ r. r.version)

abbrev pub check_ask : Named CheckAsk
check_ask =
    a_text of (names.PATH, λ r. r.path) and
    an_int of (names.VERSION, λ r. r.version)

abbrev pub watch_ask : Named WatchAsk
watch_ask =
    a_text of (names.PATH, λ r. r.path) and
    a_boolean of (names.WATCH, λ r. r.watch)

abbrev pub path_ask : Named PathAsk
path_ask =
    a_text of (names.PATH, λ r. r.path)

abbrev pub auth_ask : Named AuthAsk
auth_ask =
    an_int of (names.TYPE, λ r. r.kind) and
    a_text of (names.SCHEME, λ r. r.scheme) and
    a_blob of (names.AUTH, λ r. r.auth)

abbrev pub set_watches_ask : Named SetWatchesAsk
set_watches_ask =
    a_long of (names.ZXID, λ r. r.zxid) and
    texts of (names.DATA_WATCHES, λ r. r.data_watches) and
    texts of (names.EXIST_WATCHES, λ r. r.exist_watches) and
    texts of (names.CHILD_WATCHES, λ r. r.child_watches)

abbrev pub create_ttl_ask : Named CreateTtlAsk
create_ttl_ask =
    a_text of (names.PATH, λ r. r.path) and
    a_blob of (names.DATA, λ r. r.blob) and
    rights of (names.ACL, λ r. r.acl) and
    an_int of (names.FLAGS, λ r. r.flags) and
    a_long of (names.TTL, λ r. r.ttl)

abbrev pub watches_ask : Named WatchesAsk
watches_ask =
    a_text of (names.PATH, λ r. r.path) and
    an_int of (names.TYPE, λ r. r.kind)

abbrev pub add_watch_ask : Named AddWatchAsk
add_watch_ask =
    a_text of (names.PATH, λ r. r.path) and
    an_int of (names.MODE, λ r. r.mode)

abbrev pub reconfig_ask : Named ReconfigAsk
reconfig_ask =
    a_text of (names.JOINING, λ r. r.joining) and
    a_text of (names.LEAVING, λ r. r.leaving) and
    a_text of (names.MEMBERS, λ r. r.members) and
    a_long of (names.CONFIG, λ r. r.config)

abbrev pub data_body : Named DataBody
data_body =
    a_blob of (names.DATA, λ r. r.blob) and
    stat of (0, λ r. r.stat)

abbrev pub acl_body : Named AclBody
acl_body =
    rights of (names.ACL, λ r. r.acl) and
    stat of (0, λ r. r.stat)

abbrev pub children_body : Named ChildrenBody
children_body =
    texts of (names.CHILDREN, λ r. r.names) and
    stat of (0, λ r. r.stat)

abbrev pub create_body : Named CreateBody
create_body =
    a_text of (names.PATH, λ r. r.path) and
    stat of (0, λ r. r.stat)

-- ---- what is in no record

abbrev pub path : Named Text
path = a_text of (names.PATH, λ p. p)

abbrev pub children : Named (Vector Text)
children = texts of (names.CHILDREN, λ n. n)

abbrev pub err : Named ℤ
err = an_int of (names.ERR, λ e. e)

abbrev pub count : Named ℤ
count = an_int of (names.COUNT, λ n. n)

abbrev pub code : Named ℤ
code = an_int of (names.CODE, λ e. e)

abbrev pub read_only : Named Bool
read_only = a_boolean of (names.READ_ONLY, λ b. b)
