use Rattle.std.proofs.Common.{◌∙◌, ap}
use Rattle.zk_c.specs.PassingOn.{let_go}
use Rattle.zk_c.proofs.passage.Passage.pass.Goals as goal

pub returns : goal.returns
returns c =
    let was = c.self.inside in
    record {
      stepped = c.advance-passed.new.self;
      steps = c.advance-passed.ensures;
      keeps = (λ i. record { through = c.let_go.ensures i; client = was.client; server = was.server }) ∙ ap (let_go c.args.side) c.self.view_is;
    }
