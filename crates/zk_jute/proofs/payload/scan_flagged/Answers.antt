use Rattle.zk_jute.proofs.Flagged.{flagged_only, read_is_all}
use Rattle.zk_jute.proofs.payload.scan_flagged.Goals as goal

pub returns-clause-only : goal.returns-clause-only
returns-clause-only g c = λ x flag have e.
    let w = g.T.Ends.wired in
    let r = c.with_flag.result in
    let read = flagged_only w.layout w.items w.unfolds w.tells_apart c.args.payload.now r c.with_flag.ensures.found c.with_flag.ensures.fault x flag have e in
    read_is_all (x, flag) r read (c.with_flag.ensures.plain c.read_ref.ensures.fault)
