use Rattle.std.proofs.Common.{◌≡◌, take, map}
use Rattle.zk_asks.specs.{Frames.parts_of_ask, Parts.op_of_part}
use Rattle.zk_answers.proofs.asked_form.form_of.Given as goal

abbrev pub invariant-loop-part : goal.invariant-loop-part
invariant-loop-part l = record {
  so_far : l.parts.items ≡ map op_of_part (take l.part-index (parts_of_ask l.ask));
}
