-- `none` owns nothing.
use Rattle.zk_c.proofs.Boxed as boxed
use Rattle.zk_c.proofs.{Pointers.speaker, boxes.SpeakerBox.none.Statement.statement}
use Rattle.zk_c.specs.contracts.boxes.SpeakerBox.none.Key.{name as #self}
use Rattle.zk_c.proofs.boxes.SpeakerBox.none.Code as code

pub none_spec : {M : Type 1} → statement M
none_spec 𝓤 𝓛 𝓜 𝓡 wired = boxed.none speaker 𝓛 𝓜 𝓡 #self (code.unfolded 𝓤 𝓛.H 𝓜 𝓡 wired)
