use Rattle.std.proofs.Common.{ap}
use Rattle.zk_listings.specs.Gathered.{SideBytes}
use Rattle.zk_listings.proofs.Gathering.{settle-gathers, waits-gathers}
use Rattle.zk_listings.proofs.read_long_frames.hand_over.Goals as goal

pub returns-then-may_wait-clause-gathers : goal.returns-then-may_wait-clause-gathers
returns-then-may_wait-clause-gathers c = waits-gathers c.args.limits.now c.args.talk.now c.args.gathered.now (rw (← c.side-side.ensures, ← c.bytes.ensures) (c.may_wait.ensures c.if-may_wait.true))

pub returns-clause-gathers : goal.returns-clause-gathers
returns-clause-gathers c =
    settle-gathers c.args.limits.now c.args.talk.now c.settle.new.talk c.args.gathered.now c.settle.new.gathered c.settle.result
    (ap (λ (g : SideBytes). g.bytes) c.settle.ensures.empty) c.settle.ensures.limits c.settle.ensures.taken
