use Rattle.zk_talk.proofs.Framed.{framed_client}
use Rattle.zk_talk.proofs.say.put_client.Goals as goal

pub returns-clause-ok : goal.returns-clause-ok
returns-clause-ok c =
    framed_client c.args.message.now c.args.out.now.items c.put_length.new.out.items c.write_client.new.out.items c.args.size c.requires.size c.in-Ok.ensures.ok c.in-Ok-write_client.ensures.ok
