use Rattle.zk_jute.proofs.{Fields.bool_is, Judged.one_judged}
use Rattle.zk_jute.specs.{Item.ABoolean, Reading.bool_at}
use Rattle.std.proofs.Common.{◌∷◌, []}
use Rattle.zk_jute.proofs.ends.BoolEnds.find.Goals as goal

pub returns-clause-exact : goal.returns-clause-exact
returns-clause-exact g c =
    rw bool_is (one_judged g.V.Verdict.tells (λ x. ABoolean x ∷ []) (λ x. x) (bool_at c.args.payload.now c.args.place) c.bool_at.result c.bool_at.ensures.exact c.behind.result c.behind.ensures)
