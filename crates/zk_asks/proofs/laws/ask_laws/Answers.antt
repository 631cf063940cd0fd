use Rattle.zk_asks.proofs.Counted.{few_parts}
use Rattle.zk_asks.proofs.laws.ask_laws.Goals as goal

pub returns-clause-parts : goal.returns-clause-parts
returns-clause-parts c = few_parts
