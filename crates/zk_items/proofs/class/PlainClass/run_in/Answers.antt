use Rattle.std.proofs.Common.{refl}
use Rattle.std.proofs.lemmas.Simd.{zip2_splat, zip2_splat_left, zip2_of_maps}
use Rattle.zk_items.specs.Leaf.{is_plain}
use Rattle.zk_items.proofs.Looks.{lanes_before}
use Rattle.zk_items.proofs.class.PlainClass.run_in.Goals as goal

pub returns : goal.returns
returns g c =
    let long = c.fits-v.0 in
    let low = zip2_of_maps _ _ _ _ (zip2_splat _ _ _ 32 long) (zip2_splat _ _ _ 34 long) in
    lanes_before is_plain _ _ _ _ long c.requires c.fits-v.1 (zip2_of_maps _ _ _ _ (zip2_of_maps _ _ _ _ low (zip2_splat _ _ _ 92 long)) (zip2_splat_left _ 127 _ _ long)) refl _ c.first_set.ensures
