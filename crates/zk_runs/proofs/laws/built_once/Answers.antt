use Rattle.zk_runs.proofs.{Builds.run_once, Splits.lines_once, Verdicts.messages_once, Verdicts.alike_once, Verdicts.same_once}
use Rattle.zk_runs.proofs.laws.built_once.Goals as goal

pub returns : goal.returns
returns c = record {
  lines = lines_once;
  messages = λ b. messages_once b.limits b.lines b.messages b.others b.built b.other b.one b.two;
  alike = λ b. alike_once b.limits b.lines b.messages b.others b.built b.other b.one b.two;
  same = λ b. same_once b.limits b.lines b.messages b.others b.built b.other b.one b.two;
  run = run_once;
}
