use Rattle.std.proofs.Common.{ap}
use Rattle.zk_listings.specs.Gathered.{SideBytes}
use Rattle.zk_listings.proofs.Gathering.{settle-turns, stays-turns}
use Rattle.zk_listings.proofs.read_long_frames.turn_to.Goals as goal

pub returns-then-eq-clause-turns : goal.returns-then-eq-clause-turns
returns-then-eq-clause-turns c = λ limits. stays-turns limits c.args.talk.now c.args.gathered.now

pub returns-clause-turns : goal.returns-clause-turns
returns-clause-turns c = λ limits.
    settle-turns limits c.args.talk.now c.settle.new.talk c.args.gathered.now c.settle.new.gathered c.settle.result
    (ap (λ (g : SideBytes). g.bytes) c.settle.ensures.empty) c.settle.ensures.limits c.settle.ensures.taken
