use Rattle.std.proofs.Common.{ℕ, refl}
use Rattle.std.proofs.lemmas.Simd.{zip2_splat, zip2_of_maps, splat_is_map}
use Rattle.zk_items.proofs.Joined.{valued, valued_low}
use Rattle.zk_items.proofs.read_hex.values.Goals as goal

pub returns-clause-value : goal.returns-clause-value
returns-clause-value c =
    let v = c.args.digits in
    let long = c.fits-digits.0 in
    valued _ refl v _ c.requires (zip2_of_maps _ _ _ v (zip2_splat {Y = ℕ} _ v 16 15 long) (zip2_of_maps _ _ _ v (zip2_splat {Y = ℕ} _ v 16 6 long) (splat_is_map v 16 9 long)))

pub returns-clause-low : goal.returns-clause-low
returns-clause-low c =
    let v = c.args.digits in
    let long = c.fits-digits.0 in
    valued_low _ refl v _ c.requires (zip2_of_maps _ _ _ v (zip2_splat {Y = ℕ} _ v 16 15 long) (zip2_of_maps _ _ _ v (zip2_splat {Y = ℕ} _ v 16 6 long) (splat_is_map v 16 9 long)))
