-- `into_loose` hands over what the pointer owned.
use Rattle.zk_c.proofs.Boxed as boxed
use Rattle.zk_c.proofs.{Pointers.speaker, boxes.SpeakerBox.into_loose.Statement.statement}
use Rattle.zk_c.specs.contracts.boxes.SpeakerBox.into_loose.Key.{name as #self}
use Rattle.zk_c.proofs.boxes.SpeakerBox.into_loose.Code as code

pub into_loose_spec : {M : Type 1} → statement M
into_loose_spec 𝓤 𝓛 𝓜 𝓡 wired = boxed.into_loose speaker 𝓛 𝓜 𝓡 #self (code.unfolded 𝓤 𝓛.H 𝓜 𝓡 wired)
