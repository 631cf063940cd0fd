use Rattle.std.proofs.Common.{◌+◌, ap, arith}
use Rattle.zk_through.specs.contracts.through.Through.{the_view}
use Rattle.zk_through.proofs.Endings.{ends_whole}
use Rattle.zk_through.proofs.through.Through.finish.Goals as goal

pub returns-clause-runs : goal.returns-clause-runs
returns-clause-runs c =
    let T = the_view c.self.inside in
    rw (← c.self.view_is) (λ h came k M r.
    ends_whole T h came k M r (c.requests.result + c.left.result + c.unwelcomed.result) c.requests.result c.unwelcomed.result (omega (arith, c.held-got.ensures.count, c.if-got-gt0.false)) (omega (arith, c.held-got-2.ensures.count, c.if-got-gt0-2.false))
    c.requests.ensures.stands (c.unwelcomed.ensures.value _ M r.stands) (ap (λ z. c.requests.result + z + c.unwelcomed.result) c.left.ensures))
