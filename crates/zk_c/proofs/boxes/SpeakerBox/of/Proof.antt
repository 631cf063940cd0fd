-- `of` takes over what the box owned.
use Rattle.zk_c.proofs.Boxed as boxed
use Rattle.zk_c.proofs.{Pointers.speaker, boxes.SpeakerBox.of.Statement.statement}
use Rattle.zk_c.specs.contracts.boxes.SpeakerBox.of.Key.{name as #self}
use Rattle.zk_c.proofs.boxes.SpeakerBox.of.Code as code

pub of_spec : {M : Type 1} → statement M
of_spec 𝓤 𝓛 𝓜 𝓡 wired = boxed.of speaker 𝓛 𝓜 𝓡 #self (code.unfolded 𝓤 𝓛.H 𝓜 𝓡 wired)
