use Rattle.zk_answers.proofs.write.BodySpell.put.Goals as goal

pub returns-in-GetData-clause-ok : goal.returns-in-GetData-clause-ok
returns-in-GetData-clause-ok g c = rw c.in-GetData.is c.put-in-GetData.ensures.ok

pub returns-in-SetData-clause-ok : goal.returns-in-SetData-clause-ok
returns-in-SetData-clause-ok g c = rw c.in-SetData.is c.put-in-SetData.ensures.ok

pub returns-in-GetAcl-clause-ok : goal.returns-in-GetAcl-clause-ok
returns-in-GetAcl-clause-ok g c = rw c.in-GetAcl.is c.put-in-GetAcl.ensures.ok

pub returns-in-GetAcl-clause-err : goal.returns-in-GetAcl-clause-err
returns-in-GetAcl-clause-err g c = rw c.in-GetAcl.is c.put-in-GetAcl.ensures.err

pub returns-in-SetAcl-clause-ok : goal.returns-in-SetAcl-clause-ok
returns-in-SetAcl-clause-ok g c = rw c.in-SetAcl.is c.put-in-SetAcl.ensures.ok

pub returns-in-GetChildren2-clause-ok : goal.returns-in-GetChildren2-clause-ok
returns-in-GetChildren2-clause-ok g c = rw c.in-GetChildren2.is c.put-in-GetChildren2.ensures.ok

pub returns-in-GetChildren2-clause-err : goal.returns-in-GetChildren2-clause-err
returns-in-GetChildren2-clause-err g c = rw c.in-GetChildren2.is c.put-in-GetChildren2.ensures.err

pub returns-in-Create2-clause-ok : goal.returns-in-Create2-clause-ok
returns-in-Create2-clause-ok g c = rw c.in-Create2.is c.put-in-Create2.ensures.ok

pub returns-in-Reconfig-clause-ok : goal.returns-in-Reconfig-clause-ok
returns-in-Reconfig-clause-ok g c = rw c.in-Reconfig.is c.put-in-Reconfig.ensures.ok

pub returns-in-CreateContainer-clause-ok : goal.returns-in-CreateContainer-clause-ok
returns-in-CreateContainer-clause-ok g c = rw c.in-CreateContainer.is c.put-in-CreateContainer.ensures.ok

pub returns-in-CreateTtl-clause-ok : goal.returns-in-CreateTtl-clause-ok
returns-in-CreateTtl-clause-ok g c = rw c.in-CreateTtl.is c.put-in-CreateTtl.ensures.ok
