-- `of` takes over what the box owned.
use Rattle.zk_c.proofs.Boxed as boxed
use Rattle.zk_c.proofs.{Pointers.passage, boxes.PassageBox.of.Statement.statement}
use Rattle.zk_c.specs.contracts.boxes.PassageBox.of.Key.{name as #self}
use Rattle.zk_c.proofs.boxes.PassageBox.of.Code as code

pub of_spec : {M : Type 1} → statement M
of_spec 𝓤 𝓛 𝓜 𝓡 wired = boxed.of passage 𝓛 𝓜 𝓡 #self (code.unfolded 𝓤 𝓛.H 𝓜 𝓡 wired)
