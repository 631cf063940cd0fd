use Rattle.std.proofs.Common.{arith}
use Rattle.zk_talk.proofs.Framed.{framed}
use Rattle.zk_talk.proofs.payload.put_frame.Goals as goal

pub returns-in-Ok-clause-ok : goal.returns-in-Ok-clause-ok
returns-in-Ok-clause-ok c = framed c.args.out.now.items c.put_length.new.out.items c.extend_from_slice.new.self.items c.args.payload.now _ (omega arith) c.in_ok-put_length.ensures.ok c.in-Ok.ensures.items
