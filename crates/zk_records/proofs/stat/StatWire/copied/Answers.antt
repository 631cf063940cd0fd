use Rattle.std.proofs.Common.{subst}
use Rattle.std.specs.Prelude.{IsOk, IsTrue}
use Rattle.zk_jute.specs.{Layout.takes_none, Reading.items_at}
use Rattle.zk_records.specs.Ordered.{stat_in_order}
use Rattle.zk_records.proofs.stat.StatWire.copied.Goals as goal

pub copied-requires-clause-known : goal.copied-requires-clause-known
copied-requires-clause-known c = subst (λ l. IsOk (items_at l c.args.src.now c.args.place)) stat_in_order c.requires.known

pub returns-in_err-row-clause-plain : goal.returns-in_err-row-clause-plain
returns-in_err-row-clause-plain c plain = absurd let never = c.in_err-row.ensures.plain (subst (λ l. IsTrue (takes_none l)) stat_in_order plain) in cc

pub returns-clause-exact : goal.returns-clause-exact
returns-clause-exact c = rw (stat_in_order, c.stat_of.ensures) c.in_ok-row.ensures.exact
