use Rattle.std.proofs.Common.{sym, ◌∙◌}
use Rattle.simdutf8.proofs.Lanes.{either_zero}
use Rattle.zk_jute.proofs.utf8.either.Goals as goal

pub returns : goal.returns
returns c = (either_zero c.args.a c.args.b (c.fits-a.0 ∙ sym c.fits-b.0) c.fits-a.1 c.fits-b.1).0
