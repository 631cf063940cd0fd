use Rattle.zk_jute.proofs.{Fields.int_is, Judged.one_judged}
use Rattle.zk_jute.specs.{Item.AnInt, Reading.int_at}
use Rattle.std.proofs.Common.{◌∷◌, []}
use Rattle.zk_jute.proofs.ends.I32Ends.find.Goals as goal

pub returns-clause-exact : goal.returns-clause-exact
returns-clause-exact g c =
    rw int_is (one_judged g.V.Verdict.tells (λ x. AnInt x ∷ []) (λ x. x) (int_at c.args.payload.now c.args.place) c.int_at.result c.int_at.ensures.exact c.behind.result c.behind.ensures)
