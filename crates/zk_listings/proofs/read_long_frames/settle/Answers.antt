use Rattle.zk_listings.proofs.read_long_frames.settle.Goals as goal

pub returns-clause-taken : goal.returns-clause-taken
returns-clause-taken c = rw (← c.side.ensures, ← c.bytes.ensures) c.judge-refused.ensures.taken
