use Rattle.zk_talk.proofs.Start.{start}
use Rattle.zk_talk.proofs.talk.Talk.renew.Goals as goal

pub returns-clause-stands : goal.returns-clause-stands
returns-clause-stands c = rw (c.renew.ensures, c.renew-2.ensures, c.renew-3.ensures, c.self.invariant.2) (start c.self.inside.limits)
