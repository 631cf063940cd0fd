use Rattle.zk_runs.proofs.Migrates.{listed, listed-back, same}
use Rattle.zk_runs.proofs.laws.migrated_is_listed.Goals as goal

pub returns : goal.returns
returns c = record { listed = listed; back = listed-back; same = same }
