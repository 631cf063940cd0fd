use Rattle.std.proofs.Common.{rules}
use Rattle.zk_runs.proofs.run.run_settings.Goals as goal

pub returns-in-Ok-obey-clause-done : goal.returns-in-Ok-obey-clause-done
returns-in-Ok-obey-clause-done g c = search rules

pub returns-in-Ok-obey-clause-status : goal.returns-in-Ok-obey-clause-status
returns-in-Ok-obey-clause-status g c = search rules
