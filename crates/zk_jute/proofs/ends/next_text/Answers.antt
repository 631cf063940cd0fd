use Rattle.std.proofs.Common.{arith}
use Rattle.zk_jute.proofs.Reached.{low_more, looked_more}
use Rattle.zk_jute.proofs.ends.next_text.Goals as goal

pub returns-in-Some-clause-one : goal.returns-in-Some-clause-one
returns-in-Some-clause-one c = low_more c.args.payload.now c.args.from c.args.place (λ i. omega (arith, c.type_inv.payload i)) (omega (arith, c.requires)) c.in-Some.end c.in-Some.ensures.some c.requires.0

pub returns-then-are_text-clause-one : goal.returns-then-are_text-clause-one
returns-then-are_text-clause-one c first count so_far =
    looked_more c.args.payload.now c.args.from c.args.place (λ i. omega (arith, c.type_inv.payload i)) (omega (arith, c.requires)) _ c.in-Ok.end c.in-Ok.ensures.exact first count (so_far (c.are_text.ensures c.if-are_text.true))
