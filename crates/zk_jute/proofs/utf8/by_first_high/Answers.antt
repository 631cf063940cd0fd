use Rattle.std.proofs.Common.{◌/◌, arith}
use Rattle.std.proofs.lemmas.Simd.{zip2_splat}
use Rattle.simdutf8.proofs.Lanes.{down}
use Rattle.zk_jute.specs.declared.utf8.TheConstants.{FIRST_HIGH}
use Rattle.zk_jute.proofs.Lookups.{high_ok, looked_up}
use Rattle.zk_jute.proofs.utf8.by_first_high.Goals as goal

pub swizzle : goal.swizzle
swizzle c = high_ok c.args.first c.fits-first

pub returns : goal.returns
returns c = let v = c.args.first in looked_up FIRST_HIGH (λ x. x / 16) v _ c.fits-first (zip2_splat down v 16 4 c.fits-first.0) (λ x h. omega arith)
