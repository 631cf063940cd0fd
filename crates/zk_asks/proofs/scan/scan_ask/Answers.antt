use Rattle.std.proofs.Common.{length, ap, arith, ◌∙◌}
use Rattle.zk_asks.specs.Frames as frames
use Rattle.zk_asks.proofs.Counted.{few_parts}
use Rattle.zk_asks.proofs.scan.scan_ask.Goals as goal

pub invariant_of-result : goal.invariant_of-result
invariant_of-result c =
    let found = c.in_ok-xid.ensures.found in
    record { bounded = omega (arith, few_parts c.in-Ask.xid c.in-Ask.ask, c.requires, ap length (found.3 ∙ ap frames.payload c.in-Ask.is)) }
