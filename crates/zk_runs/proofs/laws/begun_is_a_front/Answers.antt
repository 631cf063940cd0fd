use Rattle.zk_runs.proofs.Builds.{begun_of_known, begun_of_read}
use Rattle.zk_runs.proofs.laws.begun_is_a_front.Goals as goal

pub returns : goal.returns
returns c = record { known = begun_of_known; read = begun_of_read }
