use Rattle.zk_listings.proofs.progress.judge.Goals as goal

pub returns-in-Client-clause-taken : goal.returns-in-Client-clause-taken
returns-in-Client-clause-taken c = rw c.in-Client.is c.pass_all.ensures.taken

pub returns-in-Server-clause-taken : goal.returns-in-Server-clause-taken
returns-in-Server-clause-taken c = rw c.in-Server.is c.pass_all-in-Server.ensures.taken
