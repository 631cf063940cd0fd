use Rattle.zk_jute.proofs.Followed.{first_block}
use Rattle.zk_jute.proofs.utf8.first_faults.Goals as goal

pub returns : goal.returns
returns c none i h =
    let s = c.faults.ensures none i h in
    first_block c.args.bytes.now i h (rw (c.three_back-three.ensures i h, c.two_back-two.ensures i h, c.one_back-one.ensures i h) at s)
