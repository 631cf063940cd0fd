use Rattle.zk_answers.proofs.Heads.{head_unique, head_excludes, head_fault_unique}
use Rattle.zk_answers.proofs.laws.head_laws.Goals as goal

pub returns-clause-unique : goal.returns-clause-unique
returns-clause-unique c = head_unique

pub returns-clause-excludes : goal.returns-clause-excludes
returns-clause-excludes c = λ bytes header rest is place reason. head_excludes bytes header rest place reason is

pub returns-clause-fault : goal.returns-clause-fault
returns-clause-fault c = head_fault_unique
