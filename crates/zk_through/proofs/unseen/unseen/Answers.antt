use Rattle.std.proofs.Common.{rules}
use Rattle.std.proofs.lemmas.Option.{IfSome_then}
use Rattle.zk_through.specs.Turns.{IsEarlier}
use Rattle.zk_through.proofs.unseen.unseen.Goals as goal

pub returns-clause-some : goal.returns-clause-some
returns-clause-some c =
    let earlier : IsEarlier c.args.matched.now c.args.turns.now c.args.ahead = search rules in
    IfSome_then c.header.result c.header.ensures.some (λ head e. (earlier, e))
