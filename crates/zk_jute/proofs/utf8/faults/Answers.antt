use Rattle.std.proofs.Common.{ℕ, ◌∙◌}
use Rattle.std.proofs.lemmas.Simd.{get_or-replicate}
use Rattle.zk_jute.proofs.Lookups.{faultless}
use Rattle.zk_jute.proofs.utf8.faults.Goals as goal

pub returns : goal.returns
returns c =
    faultless c.args.three_back c.args.two_back c.args.one_back c.args.block _ _ _ c.fits-three_back c.fits-two_back c.fits-one_back c.fits-block
    c.classes-pair.ensures.len c.excess-third.ensures.len c.excess-fourth.ensures.len c.classes-pair.ensures.lanes
    (λ i h. c.excess-third.ensures.lanes i h ∙ rw (get_or-replicate {A = ℕ} 16 i 96 0 h))
    (λ i h. c.excess-fourth.ensures.lanes i h ∙ rw (get_or-replicate {A = ℕ} 16 i 112 0 h))
