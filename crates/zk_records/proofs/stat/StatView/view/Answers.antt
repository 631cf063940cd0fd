use Rattle.std.proofs.Common.{refl, subst}
use Rattle.std.specs.Prelude.{IsOk}
use Rattle.zk_jute.specs.Reading.{items_at}
use Rattle.zk_records.specs.Ordered.{stat_in_order}
use Rattle.zk_records.proofs.stat.StatView.view.Goals as goal

pub view-end-requires : goal.view-end-requires
view-end-requires c κs = ((refl, tt), (c.requires.place, subst (λ l. IsOk (items_at l c.args.src.now c.args.place)) stat_in_order c.requires.known))

pub returns-clause-exact : goal.returns-clause-exact
returns-clause-exact c = rw (stat_in_order, c.stat_of.ensures) c.view-end.ensures.exact
