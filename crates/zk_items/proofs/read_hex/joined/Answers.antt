use Rattle.std.proofs.Common.{◌≡◌, ℕ, length, refl, ap, arith}
use Rattle.std.proofs.{lemmas.List.length-map, lemmas.Simd.zip2_splat}
use Rattle.zk_items.specs.Leaf.{hex_digit}
use Rattle.zk_items.proofs.Joined.{joined_are, apart, hex_apart}
use Rattle.zk_items.proofs.read_hex.joined.Goals as goal

pub values-high-requires : goal.values-high-requires
values-high-requires c = hex_apart c.args.digits 16 0 (omega (arith, c.fits-digits.0)) c.requires

pub values-low-requires : goal.values-low-requires
values-low-requires c = hex_apart c.args.digits 16 1 (omega (arith, c.fits-digits.0)) c.requires

pub returns : goal.returns
returns c =
    let d = c.args.digits in
    let hi = c.values-high.result in
    let lo = c.values-low.result in
    let long : length hi ≡ 16 = omega (arith, length-map hi hex_digit, ap length c.values-high.ensures.value) in
    joined_are _ _ refl hi lo _ _ _ d (zip2_splat {Y = ℕ} _ hi 16 4 long) c.values-high.ensures.low c.values-low.ensures.low c.values-high.ensures.value c.values-low.ensures.value
    (apart d 16 0 (omega (arith, c.fits-digits.0)))
