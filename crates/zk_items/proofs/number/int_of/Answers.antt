use Rattle.zk_items.proofs.{Kept.on_none, Numerals.none_narrow}
use Rattle.zk_items.proofs.number.int_of.Goals as goal

pub returns-clause-none : goal.returns-clause-none
returns-clause-none c = on_none c.narrow.result (none_narrow c.args.run.now c.in_ok-n.n c.in_ok-n.ensures.found) c.narrow.ensures.none
