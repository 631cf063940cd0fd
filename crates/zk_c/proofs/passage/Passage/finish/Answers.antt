use Rattle.std.proofs.Common.{subst}
use Rattle.zk_c.specs.{Passage.PassageState, Passing.IsFinish}
use Rattle.zk_c.proofs.passage.Passage.finish.Goals as goal

pub returns : goal.returns
returns c = subst (λ (p : PassageState). IsFinish p c.finish.result) c.self.view_is (record { runs = c.finish.ensures.runs; refused = c.finish.ensures.refused })
