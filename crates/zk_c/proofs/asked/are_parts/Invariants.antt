use Rattle.std.proofs.Common.{take, List}
use Rattle.zk_records.specs.declared.op.PartOp.{PartOp}
use Rattle.zk_c.specs.Asked.{AreParts}
use Rattle.zk_c.proofs.asked.are_parts.Given as goal

abbrev pub invariant-loop-number : goal.invariant-loop-number
invariant-loop-number l = record {
  so_far : (parts : List PartOp) × AreParts (take l.number-index l.numbers) parts;
}
