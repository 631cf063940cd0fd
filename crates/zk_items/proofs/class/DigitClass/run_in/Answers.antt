use Rattle.std.proofs.Common.{refl}
use Rattle.std.proofs.lemmas.Simd.{zip2_splat, zip2_splat_left, zip2_of_maps}
use Rattle.zk_items.specs.Leaf.{in_hex}
use Rattle.zk_items.proofs.Looks.{lanes_before}
use Rattle.zk_items.proofs.class.DigitClass.run_in.Goals as goal

pub returns : goal.returns
returns g c =
    let long = c.fits-v.0 in
    let between = zip2_of_maps _ _ _ _ (zip2_splat_left _ 58 _ _ long) (zip2_splat _ _ _ 97 long) in
    lanes_before in_hex _ _ _ _ long c.requires c.fits-v.1 (zip2_of_maps _ _ _ _ (zip2_of_maps _ _ _ _ (zip2_splat _ _ _ 48 long) between) (zip2_splat_left _ 103 _ _ long)) refl _ c.first_set.ensures
