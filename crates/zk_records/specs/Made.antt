-- The records, each made of its fields as nested pairs.
use Rattle.std.specs.Prelude.{ℤ, Bool}
use Rattle.zk_records.specs.{declared.acl.IdOf.IdOf, declared.acl.AclOf.AclOf, declared.event.WatcherEventOf.WatcherEventOf, declared.ask.CreateAskOf.CreateAskOf, declared.ask.DeleteAskOf.DeleteAskOf, declared.ask.SetDataAskOf.SetDataAskOf}
use Rattle.zk_records.specs.{declared.ask.SetAclAskOf.SetAclAskOf, declared.ask.CheckAskOf.CheckAskOf, declared.query.WatchAskOf.WatchAskOf, declared.query.PathAskOf.PathAskOf, declared.session.AuthAskOf.AuthAskOf}
use Rattle.zk_records.specs.{declared.session.SetWatchesAskOf.SetWatchesAskOf, declared.body.DataBodyOf.DataBodyOf, declared.body.AclBodyOf.AclBodyOf, declared.body.ChildrenBodyOf.ChildrenBodyOf, declared.body.CreateBodyOf.CreateBodyOf}
use Rattle.zk_records.specs.{declared.ask.CreateTtlAskOf.CreateTtlAskOf, declared.watches.WatchesAskOf.WatchesAskOf, declared.watches.AddWatchAskOf.AddWatchAskOf, declared.reconfig.ReconfigAskOf.ReconfigAskOf}
use Rattle.zk_records.specs.{declared.stat.Stat.Stat, declared.connect.ConnectRequestOf.ConnectRequestOf, declared.connect.ConnectResponseOf.ConnectResponseOf, declared.header.RequestHeader.RequestHeader}
use Rattle.zk_records.specs.{declared.header.ReplyHeader.ReplyHeader, declared.header.MultiHeader.MultiHeader}

abbrev pub id : {T : Type 0} → T × T → IdOf T
id x = record { scheme = x.0; ident = x.1 }

abbrev pub acl : {W : Type 0} → ℤ × W → AclOf W
acl x = record { perms = x.0; who = x.1 }

abbrev pub stat : ℤ × (ℤ × (ℤ × (ℤ × (ℤ × (ℤ × (ℤ × (ℤ × (ℤ × (ℤ × ℤ))))))))) → Stat
stat x = record { czxid = x.0; mzxid = x.1.0; ctime = x.1.1.0; mtime = x.1.1.1.0; version = x.1.1.1.1.0; cversion = x.1.1.1.1.1.0; aversion = x.1.1.1.1.1.1.0; ephemeral_owner = x.1.1.1.1.1.1.1.0; data_length = x.1.1.1.1.1.1.1.1.0; num_children = x.1.1.1.1.1.1.1.1.1.0; pzxid = x.1.1.1.1.1.1.1.1.1.1 }

abbrev pub connect_request : {B : Type 0} → ℤ × (ℤ × (ℤ × (ℤ × B))) → ConnectRequestOf B
connect_request x = record { protocol_version = x.0; last_zxid_seen = x.1.0; time_out = x.1.1.0; session_id = x.1.1.1.0; passwd = x.1.1.1.1 }

abbrev pub connect_response : {B : Type 0} → ℤ × (ℤ × (ℤ × B)) → ConnectResponseOf B
connect_response x = record { protocol_version = x.0; time_out = x.1.0; session_id = x.1.1.0; passwd = x.1.1.1 }

abbrev pub request_header : ℤ × ℤ → RequestHeader
request_header x = record { xid = x.0; kind = x.1 }

abbrev pub reply_header : ℤ × (ℤ × ℤ) → ReplyHeader
reply_header x = record { xid = x.0; zxid = x.1.0; err = x.1.1 }

abbrev pub multi_header : ℤ × (Bool × ℤ) → MultiHeader
multi_header x = record { kind = x.0; done = x.1.0; err = x.1.1 }

abbrev pub watcher_event : {T : Type 0} → ℤ × (ℤ × T) → WatcherEventOf T
watcher_event x = record { kind = x.0; state = x.1.0; path = x.1.1 }

abbrev pub create_ask : {T B A : Type 0} → T × (B × (A × ℤ)) → CreateAskOf T B A
create_ask x = record { path = x.0; blob = x.1.0; acl = x.1.1.0; flags = x.1.1.1 }

abbrev pub delete_ask : {T : Type 0} → T × ℤ → DeleteAskOf T
delete_ask x = record { path = x.0; version = x.1 }

abbrev pub set_data_ask : {T B : Type 0} → T × (B × ℤ) → SetDataAskOf T B
set_data_ask x = record { path = x.0; blob = x.1.0; version = x.1.1 }

abbrev pub set_acl_ask : {T A : Type 0} → T × (A × ℤ) → SetAclAskOf T A
set_acl_ask x = record { path = x.0; acl = x.1.0; version = x.1.1 }

abbrev pub check_ask : {T : Type 0} → T × ℤ → CheckAskOf T
check_ask x = record { path = x.0; version = x.1 }

abbrev pub watch_ask : {T : Type 0} → T × Bool → WatchAskOf T
watch_ask x = record { path = x.0; watch = x.1 }

abbrev pub path_ask : {T : Type 0} → T → PathAskOf T
path_ask x = record { path = x }

abbrev pub auth_ask : {T B : Type 0} → ℤ × (T × B) → AuthAskOf T B
auth_ask x = record { kind = x.0; scheme = x.1.0; auth = x.1.1 }

abbrev pub set_watches_ask : {L : Type 0} → ℤ × (L × (L × L)) → SetWatchesAskOf L
set_watches_ask x = record { zxid = x.0; data_watches = x.1.0; exist_watches = x.1.1.0; child_watches = x.1.1.1 }

abbrev pub data_body : {B : Type 0} → B × Stat → DataBodyOf B
data_body x = record { blob = x.0; stat = x.1 }

abbrev pub acl_body : {A : Type 0} → A × Stat → AclBodyOf A
acl_body x = record { acl = x.0; stat = x.1 }

abbrev pub children_body : {L : Type 0} → L × Stat → ChildrenBodyOf L
children_body x = record { names = x.0; stat = x.1 }

abbrev pub create_body : {T : Type 0} → T × Stat → CreateBodyOf T
create_body x = record { path = x.0; stat = x.1 }

abbrev pub add_watch_ask : {T : Type 0} → T × ℤ → AddWatchAskOf T
add_watch_ask x = record { path = x.0; mode = x.1 }

abbrev pub create_ttl_ask : {T B A : Type 0} → T × (B × (A × (ℤ × ℤ))) → CreateTtlAskOf T B A
create_ttl_ask x = record { path = x.0; blob = x.1.0; acl = x.1.1.0; flags = x.1.1.1.0; ttl = x.1.1.1.1 }

abbrev pub watches_ask : {T : Type 0} → T × ℤ → WatchesAskOf T
watches_ask x = record { path = x.0; kind = x.1 }

abbrev pub reconfig_ask : {T : Type 0} → T × (T × (T × ℤ)) → ReconfigAskOf T
reconfig_ask x = record { joining = x.0; leaving = x.1.0; members = x.1.1.0; config = x.1.1.1 }
