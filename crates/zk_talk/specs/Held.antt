-- A message, be its texts, blobs and lists owned or borrowed.
use Rattle.zk_asks.specs.Held.{ClientFrame}
use Rattle.zk_answers.specs.Held.{ServerFrame}
use Rattle.zk_talk.specs.declared.message.MessageOf.{MessageOf}

abbrev pub Message : Type 0
Message = MessageOf ClientFrame ServerFrame
