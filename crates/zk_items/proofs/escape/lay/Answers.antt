use Rattle.std.proofs.Common.{arith}
use Rattle.std.proofs.lemmas.Simd.{take_more_put_chunk}
use Rattle.zk_items.proofs.escape.lay.Goals as goal

pub returns-clause-written : goal.returns-clause-written
returns-clause-written c = take_more_put_chunk c.args.at c.args.room.now c.args.block _ (omega (arith, c.fits-block.0)) (omega arith)
