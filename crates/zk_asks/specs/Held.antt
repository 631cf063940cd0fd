-- What a client sends, be its texts, blobs and lists owned or borrowed.
use Rattle.std.specs.Prelude.{List}
use Rattle.zk_jute.specs.Held.{Text, Blob, Vector}
use Rattle.zk_records.specs.Held.{Acl}
use Rattle.zk_asks.specs.{declared.frame.PartOf.PartOf, declared.frame.AskOf.AskOf, declared.frame.ClientFrameOf.ClientFrameOf}

abbrev pub Part : Type 0
Part = PartOf Text Blob (Vector Acl)

abbrev pub Ask : Type 0
Ask = AskOf Text Blob (Vector Text) (Vector Acl) (List Part)

abbrev pub ClientFrame : Type 0
ClientFrame = ClientFrameOf Blob Ask
