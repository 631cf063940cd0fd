use Rattle.zk_jute.proofs.{Chains.plain_parts, Known.then_known, Known.then_known_later}
use Rattle.zk_jute.proofs.pair.Tuple2Wire.copied.Goals as goal

pub copied-requires-clause-known : goal.copied-requires-clause-known
copied-requires-clause-known g c = then_known g.A.Ends.wired.layout g.B.Ends.wired.layout c.args.src.now c.args.place c.requires.known

pub copied-requires-2-clause-known : goal.copied-requires-2-clause-known
copied-requires-2-clause-known g c =
    let first = c.in_ok-first in
    then_known_later g.A.Ends.wired.layout g.B.Ends.wired.layout c.args.src.now c.args.place c.requires.known (g.A.Ends.wired.items first.first) first.place first.ensures.exact

pub returns-in_err-first-clause-plain : goal.returns-in_err-first-clause-plain
returns-in_err-first-clause-plain g c plain = absurd let never = c.in_err-first.ensures.plain (plain_parts g.A.Ends.wired.layout g.B.Ends.wired.layout plain).0 in cc

pub returns-in_err-second-clause-plain : goal.returns-in_err-second-clause-plain
returns-in_err-second-clause-plain g c plain = absurd let never = c.in_err-second.ensures.plain (plain_parts g.A.Ends.wired.layout g.B.Ends.wired.layout plain).1 in cc
