use Rattle.zk_jute.proofs.Followed.{window}
use Rattle.zk_jute.proofs.utf8.next_faults.Goals as goal

pub returns : goal.returns
returns c none i h = window c.args.bytes.now i h (c.faults.ensures none i h)
