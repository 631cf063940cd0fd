use Rattle.std.proofs.Common.{ℕ, refl, ap, map, ◌∙◌}
use Rattle.std.proofs.lemmas.Simd.{zip2_splat, map-map}
use Rattle.zk_items.specs.Leaf.{hex_digit}
use Rattle.zk_items.proofs.Lanes.{high, low, all_bytes, each_lane, each_below, side_by_side}
use Rattle.zk_items.proofs.write_hex.pairs.Goals as goal

pub digits-high-requires : goal.digits-high-requires
digits-high-requires c = each_below _ c.args.bytes _ refl (all_bytes c.args.bytes c.fits-bytes.1) (zip2_splat {Y = ℕ} _ c.args.bytes 16 4 c.fits-bytes.0)

pub digits-low-requires : goal.digits-low-requires
digits-low-requires c = each_below _ c.args.bytes _ refl (all_bytes c.args.bytes c.fits-bytes.1) (zip2_splat {Y = ℕ} _ c.args.bytes 16 15 c.fits-bytes.0)

pub returns : goal.returns
returns c =
    let v = c.args.bytes in
    let bytes = all_bytes v c.fits-bytes.1 in
    side_by_side c.digits-high.result c.digits-low.result v
    (c.digits-high.ensures ∙ ap (map hex_digit) (zip2_splat {Y = ℕ} _ v 16 4 c.fits-bytes.0) ∙ map-map hex_digit _ v ∙ each_lane 256 _ high v refl bytes)
    (c.digits-low.ensures ∙ ap (map hex_digit) (zip2_splat {Y = ℕ} _ v 16 15 c.fits-bytes.0) ∙ map-map hex_digit _ v ∙ each_lane 256 _ low v refl bytes)
    c.fits-bytes.0
