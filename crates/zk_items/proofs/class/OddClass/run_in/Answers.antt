use Rattle.std.proofs.Common.{refl}
use Rattle.std.proofs.lemmas.Simd.{zip2_splat, zip2_splat_left, zip2_of_maps}
use Rattle.zk_items.specs.Odd.{is_odd}
use Rattle.zk_items.proofs.Looks.{lanes_before}
use Rattle.zk_items.proofs.class.OddClass.run_in.Goals as goal

pub returns : goal.returns
returns g c =
    let long = c.fits-v.0 in
    let high = zip2_of_maps _ _ _ _ (zip2_splat_left _ 32 _ _ long) (zip2_splat _ _ _ 34 long) in
    lanes_before is_odd _ _ _ _ long c.requires c.fits-v.1 (zip2_of_maps _ _ _ _ (zip2_of_maps _ _ _ _ high (zip2_splat _ _ _ 92 long)) (zip2_splat _ _ _ 127 long)) refl _ c.first_set.ensures
