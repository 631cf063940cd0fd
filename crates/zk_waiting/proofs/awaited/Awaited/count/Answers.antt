use Rattle.std.proofs.Common.{arith, ap}
use Rattle.zk_waiting.specs.Waiting.{Lanes}
use Rattle.zk_waiting.proofs.{Counted.numbered_weight, Weights.length_within_weight}
use Rattle.zk_waiting.proofs.awaited.Awaited.count.Goals as goal

pub overflow_add-result-3 : goal.overflow_add-result-3
overflow_add-result-3 c =
    let x = c.self.inside in
    omega (arith, c.len.ensures.len, c.len-2.ensures.len, c.len-3.ensures.len, c.len-4.ensures, c.self.invariant.0.is, c.self.invariant.0.within, c.self.invariant.0.small, numbered_weight x.max x.pings.items x.auths.items x.watches.items x.plain.requests, length_within_weight x.plain.requests)

pub overflow_cast-result : goal.overflow_cast-result
overflow_cast-result c =
    let x = c.self.inside in
    omega (arith, c.len.ensures.len, c.len-2.ensures.len, c.len-3.ensures.len, c.len-4.ensures, c.self.invariant.0.is, c.self.invariant.0.within, c.self.invariant.0.small, numbered_weight x.max x.pings.items x.auths.items x.watches.items x.plain.requests, length_within_weight x.plain.requests)

pub returns-clause-within : goal.returns-clause-within
returns-clause-within c =
    let x = c.self.inside in
    omega (arith, ap (λ (w : Lanes). w.max) c.self.view_is, c.len.ensures.len, c.len-2.ensures.len, c.len-3.ensures.len, c.len-4.ensures, c.self.invariant.0.is, c.self.invariant.0.within, numbered_weight x.max x.pings.items x.auths.items x.watches.items x.plain.requests, length_within_weight x.plain.requests)
