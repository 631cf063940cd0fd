-- What a server sends, be its texts, blobs and lists owned or borrowed.
use Rattle.std.specs.Prelude.{List}
use Rattle.zk_jute.specs.Held.{Text, Blob, Vector}
use Rattle.zk_records.specs.Held.{Acl}
use Rattle.zk_answers.specs.{declared.frame.PartDoneOf.PartDoneOf, declared.frame.BodyOf.BodyOf, declared.frame.OutcomeOf.OutcomeOf, declared.frame.ReplyOf.ReplyOf, declared.frame.ServerFrameOf.ServerFrameOf}

abbrev pub PartDone : Type 0
PartDone = PartDoneOf Text

abbrev pub Body : Type 0
Body = BodyOf Text Blob (Vector Text) (Vector Acl) (List PartDone)

abbrev pub Outcome : Type 0
Outcome = OutcomeOf Body

abbrev pub Reply : Type 0
Reply = ReplyOf Body

abbrev pub ServerFrame : Type 0
ServerFrame = ServerFrameOf Text Blob Body
