use Rattle.zk_talk.proofs.Start.{start}
use Rattle.zk_talk.proofs.talk.Talk.new.Goals as goal

pub returns-clause-stands : goal.returns-clause-stands
returns-clause-stands c = rw (c.in_ok-client.ensures, c.in_ok-server.ensures, c.in_ok-waiting.ensures, c.waiting.ensures) (start c.args.limits)
