use Rattle.std.proofs.Common.{subst}
use Rattle.zk_listings.specs.{Earliest.TellsBody, Following.HasRefused}
use Rattle.zk_listings.proofs.progress.Progress.refused_body.Goals as goal

pub returns-in-Some-clause-tells : goal.returns-in-Some-clause-tells
returns-in-Some-clause-tells c = λ limits h messages fault has.
    let r = subst (λ t. HasRefused limits t h messages fault) c.in-Some.is has in
    subst (λ l. TellsBody l h fault c.refused_body.result) r.1 (r.0.is, c.refused_body.ensures.refuses h messages fault r.0)

pub returns-in-None-clause-tells : goal.returns-in-None-clause-tells
returns-in-None-clause-tells c = λ limits h messages fault has. absurd (subst (λ t. HasRefused limits t h messages fault) c.in-None.is has)
