use Rattle.zk_jute.proofs.{Fields.text_is, Judged.one_judged}
use Rattle.zk_jute.specs.{Item.AUstring, Reading.text_at}
use Rattle.std.proofs.Common.{◌∷◌, []}
use Rattle.std.specs.Prelude.{option_copied}
use Rattle.zk_jute.proofs.ends.TextEnds.find.Goals as goal

pub returns-clause-exact : goal.returns-clause-exact
returns-clause-exact g c =
    rw text_is (one_judged g.V.Verdict.tells (λ x. AUstring x ∷ []) (λ x. option_copied x) (text_at c.args.payload.now c.args.place) c.text_at.result c.text_at.ensures.exact c.behind.result c.behind.ensures)
