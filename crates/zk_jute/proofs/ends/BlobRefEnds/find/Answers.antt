use Rattle.zk_jute.proofs.{Fields.run_is, Judged.one_judged}
use Rattle.zk_jute.specs.{Item.ABuffer, Reading.run_at}
use Rattle.std.proofs.Common.{◌∷◌, []}
use Rattle.std.specs.Prelude.{option_copied}
use Rattle.zk_jute.proofs.ends.BlobRefEnds.find.Goals as goal

pub returns-clause-exact : goal.returns-clause-exact
returns-clause-exact g c =
    rw run_is (one_judged g.V.Verdict.tells (λ x. ABuffer x ∷ []) (λ x. option_copied x) (run_at c.args.payload.now c.args.place) c.run_at.result c.run_at.ensures.exact c.behind.result c.behind.ensures)
