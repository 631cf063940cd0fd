use Rattle.std.proofs.Common.{arith}
use Rattle.zk_through.proofs.fate.room.Goals as goal

pub returns-clause-stands : goal.returns-clause-stands
returns-clause-stands c = λ h M v cr sr st g. omega (arith, c.saturating_sub.ensures, c.from.ensures, c.weight_waiting.ensures.stands h M v cr sr st g)
