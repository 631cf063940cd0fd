-- The records that hold texts, blobs or lists, owned or borrowed.
use Rattle.zk_jute.specs.Held.{Text, Blob, Vector}
use Rattle.zk_records.specs.{declared.acl.IdOf.IdOf, declared.acl.AclOf.AclOf, declared.connect.ConnectRequestOf.ConnectRequestOf, declared.connect.ConnectResponseOf.ConnectResponseOf, declared.event.WatcherEventOf.WatcherEventOf}
use Rattle.zk_records.specs.{declared.ask.CreateAskOf.CreateAskOf, declared.ask.DeleteAskOf.DeleteAskOf, declared.ask.SetDataAskOf.SetDataAskOf, declared.ask.SetAclAskOf.SetAclAskOf, declared.ask.CheckAskOf.CheckAskOf}
use Rattle.zk_records.specs.{declared.query.WatchAskOf.WatchAskOf, declared.query.PathAskOf.PathAskOf, declared.session.AuthAskOf.AuthAskOf, declared.session.SetWatchesAskOf.SetWatchesAskOf, declared.body.DataBodyOf.DataBodyOf}
use Rattle.zk_records.specs.{declared.body.AclBodyOf.AclBodyOf, declared.body.ChildrenBodyOf.ChildrenBodyOf, declared.body.CreateBodyOf.CreateBodyOf}
use Rattle.zk_records.specs.{declared.ask.CreateTtlAskOf.CreateTtlAskOf, declared.watches.WatchesAskOf.WatchesAskOf, declared.watches.AddWatchAskOf.AddWatchAskOf, declared.reconfig.ReconfigAskOf.ReconfigAskOf}

abbrev pub Id : Type 0
Id = IdOf Text

abbrev pub Acl : Type 0
Acl = AclOf Id

abbrev pub ConnectRequest : Type 0
ConnectRequest = ConnectRequestOf Blob

abbrev pub ConnectResponse : Type 0
ConnectResponse = ConnectResponseOf Blob

abbrev pub WatcherEvent : Type 0
WatcherEvent = WatcherEventOf Text

abbrev pub CreateAsk : Type 0
CreateAsk = CreateAskOf Text Blob (Vector Acl)

abbrev pub DeleteAsk : Type 0
DeleteAsk = DeleteAskOf Text

abbrev pub SetDataAsk : Type 0
SetDataAsk = SetDataAskOf Text Blob

abbrev pub SetAclAsk : Type 0
SetAclAsk = SetAclAskOf Text (Vector Acl)

abbrev pub CheckAsk : Type 0
CheckAsk = CheckAskOf Text

abbrev pub WatchAsk : Type 0
WatchAsk = WatchAskOf Text

abbrev pub PathAsk : Type 0
PathAsk = PathAskOf Text

abbrev pub AuthAsk : Type 0
AuthAsk = AuthAskOf Text Blob

abbrev pub SetWatchesAsk : Type 0
SetWatchesAsk = SetWatchesAskOf (Vector Text)

abbrev pub DataBody : Type 0
DataBody = DataBodyOf Blob

abbrev pub AclBody : Type 0
AclBody = AclBodyOf (Vector Acl)

abbrev pub ChildrenBody : Type 0
ChildrenBody = ChildrenBodyOf (Vector Text)

abbrev pub CreateBody : Type 0
CreateBody = CreateBodyOf Text

abbrev pub AddWatchAsk : Type 0
AddWatchAsk = AddWatchAskOf Text

abbrev pub CreateTtlAsk : Type 0
CreateTtlAsk = CreateTtlAskOf Text Blob (Vector Acl)

abbrev pub WatchesAsk : Type 0
WatchesAsk = WatchesAskOf Text

abbrev pub ReconfigAsk : Type 0
ReconfigAsk = ReconfigAskOf Text
