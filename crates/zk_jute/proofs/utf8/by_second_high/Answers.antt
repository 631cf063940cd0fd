use Rattle.std.proofs.Common.{◌/◌, arith}
use Rattle.std.proofs.lemmas.Simd.{zip2_splat}
use Rattle.simdutf8.proofs.Lanes.{down}
use Rattle.zk_jute.specs.declared.utf8.TheConstants.{SECOND_HIGH}
use Rattle.zk_jute.proofs.Lookups.{high_ok, looked_up}
use Rattle.zk_jute.proofs.utf8.by_second_high.Goals as goal

pub swizzle : goal.swizzle
swizzle c = high_ok c.args.second c.fits-second

pub returns : goal.returns
returns c = let v = c.args.second in looked_up SECOND_HIGH (λ x. x / 16) v _ c.fits-second (zip2_splat down v 16 4 c.fits-second.0) (λ x h. omega arith)
