use Rattle.std.proofs.Common.{rules}
use Rattle.zk_c.proofs.through.zk_through_new.Goals as goal

pub returns-clause-status : goal.returns-clause-status
returns-clause-status c = record { in_use = search rules; limits = search rules; range = search rules; others = search rules }
