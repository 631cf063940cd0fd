use Rattle.zk_listings.proofs.progress.take.Goals as goal

pub returns-in-All-clause-taken : goal.returns-in-All-clause-taken
returns-in-All-clause-taken c = rw c.in-All.is c.list.ensures.taken

pub returns-in-Last-clause-taken : goal.returns-in-Last-clause-taken
returns-in-Last-clause-taken c = rw c.in-Last.is (c.judge.ensures.taken c.args.lines.now.items)
