use Rattle.zk_talk.proofs.Exclusions.{may_or_not, refused_once}
use Rattle.zk_talk.proofs.saying_laws.say_laws.Goals as goal

pub returns-clause-exact : goal.returns-clause-exact
returns-clause-exact c = may_or_not

pub returns-clause-once : goal.returns-clause-once
returns-clause-once c = refused_once
