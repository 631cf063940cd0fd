use Rattle.zk_runs.proofs.Shown.{listed_again}
use Rattle.zk_runs.proofs.laws.built_is_listed.Goals as goal

pub returns : goal.returns
returns c = listed_again
