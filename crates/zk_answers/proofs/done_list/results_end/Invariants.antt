use Rattle.std.proofs.Common.{◌≤◌, length, take}
use Rattle.zk_jute.specs.Shown.{Stretch}
use Rattle.zk_answers.specs.Results.{done_items, AnswerAll}
use Rattle.zk_answers.proofs.done_list.results_end.Given as goal

abbrev pub invariant-loop-j : goal.invariant-loop-j
invariant-loop-j g l = record {
  within : l.at ≤ length l.payload;
  passed : Stretch done_items l.payload l.place l.at l.j;
  answers : AnswerAll (take l.j (g.F.Asked.part_ops l.form)) passed.values;
}
