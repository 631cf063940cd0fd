use Rattle.std.proofs.Common.{sym, subst}
use Rattle.zk_through.specs.{contracts.through.Through.the_view, Runs.ThroughState, Runs.KeepsWaiting}
use Rattle.zk_through.proofs.Given.{silenced_waits}
use Rattle.zk_through.proofs.through.Through.step.Goals as goal

pub returns-in-Err-clause-waits : goal.returns-in-Err-clause-waits
returns-in-Err-clause-waits c =
    rw c.drop_kept.ensures (silenced_waits c.args.side c.args.self.now (the_view c.self.inside) (subst (λ (z : ThroughState). KeepsWaiting c.args.self.now z) (sym c.self.view_is) c.in-Err.ensures.waits))
