-- `none` owns nothing.
use Rattle.zk_c.proofs.Boxed as boxed
use Rattle.zk_c.proofs.{Pointers.passage, boxes.PassageBox.none.Statement.statement}
use Rattle.zk_c.specs.contracts.boxes.PassageBox.none.Key.{name as #self}
use Rattle.zk_c.proofs.boxes.PassageBox.none.Code as code

pub none_spec : {M : Type 1} → statement M
none_spec 𝓤 𝓛 𝓜 𝓡 wired = boxed.none passage 𝓛 𝓜 𝓡 #self (code.unfolded 𝓤 𝓛.H 𝓜 𝓡 wired)
