use Rattle.std.proofs.Common.{take}
use Rattle.zk_answers.specs.Results.{AnswerAll}
use Rattle.zk_answers.proofs.reply_fits.answer_all.Given as goal

abbrev pub invariant-loop-j : goal.invariant-loop-j
invariant-loop-j g l = record {
  so_far : AnswerAll (take l.j (g.F.Asked.part_ops l.form)) (take l.j l.dones);
}
