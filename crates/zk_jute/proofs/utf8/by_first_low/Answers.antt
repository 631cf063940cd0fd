use Rattle.std.proofs.Common.{bit_and, arith}
use Rattle.std.proofs.{lemmas.Nat.and_le_r, lemmas.Simd.zip2_splat}
use Rattle.zk_jute.specs.declared.utf8.TheConstants.{FIRST_LOW}
use Rattle.zk_jute.proofs.Lookups.{low_ok, looked_up}
use Rattle.zk_jute.proofs.utf8.by_first_low.Goals as goal

pub swizzle : goal.swizzle
swizzle c = low_ok c.args.first c.fits-first

pub returns : goal.returns
returns c = let v = c.args.first in looked_up FIRST_LOW (λ x. bit_and x 15) v _ c.fits-first (zip2_splat bit_and v 16 15 c.fits-first.0) (λ x h. omega (arith, and_le_r x 15))
