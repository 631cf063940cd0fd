use Rattle.zk_fields.specs.Written.{pairs}
use Rattle.zk_fields.proofs.Saying.{SoFar}
use Rattle.zk_fields.proofs.write.measure.Given as goal

abbrev pub invariant-loop-index : goal.invariant-loop-index
invariant-loop-index l = record { so_far : SoFar l.heads l.content (pairs l.fields) l.index l.start l.size }
