use Rattle.zk_jute.proofs.{Fields.long_is, Judged.one_judged}
use Rattle.zk_jute.specs.{Item.ALong, Reading.long_at}
use Rattle.std.proofs.Common.{◌∷◌, []}
use Rattle.zk_jute.proofs.ends.I64Ends.find.Goals as goal

pub returns-clause-exact : goal.returns-clause-exact
returns-clause-exact g c =
    rw long_is (one_judged g.V.Verdict.tells (λ x. ALong x ∷ []) (λ x. x) (long_at c.args.payload.now c.args.place) c.long_at.result c.long_at.ensures.exact c.behind.result c.behind.ensures)
