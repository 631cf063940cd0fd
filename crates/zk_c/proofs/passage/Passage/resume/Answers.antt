use Rattle.std.proofs.Common.{subst}
use Rattle.zk_c.specs.{Passage.PassageState, PassingOn.IsResuming}
use Rattle.zk_c.proofs.passage.Passage.resume.Goals as goal

pub returns : goal.returns
returns c =
    let was = c.self.inside in
    let after : PassageState = record { through = c.resume.new.self; client = was.client; server = was.server } in
    subst (λ (p : PassageState). IsResuming p c.resume.result after) c.self.view_is (record {
      limits = c.resume.ensures.limits;
      none = λ e. ((c.resume.ensures.none e).0, λ i. record { through = (c.resume.ensures.none e).1 i; client = was.client; server = was.server });
      stays = λ f is ends. ((c.resume.ensures.stays f is ends).0, λ i. record { through = (c.resume.ensures.stays f is ends).1 i; client = was.client; server = was.server });
      late = c.resume.ensures.late;
      used = c.resume.ensures.used;
    })
