use Rattle.std.proofs.Common.{refl}
use Rattle.zk_listings.proofs.Steps.{steps-lasting}
use Rattle.zk_listings.proofs.progress.Progress.advance.Goals as goal

pub returns-clause-steps : goal.returns-clause-steps
returns-clause-steps c =
    steps-lasting c.args.listing c.args.self.now (record c.args.self.now { reader = c.next-run.new.self; talk = c.take_content.new.talk }) c.args.lines.now.items _ c.args.block.now _ _ _ _ refl
    c.next-run.ensures.reads c.limits-limits.ensures c.in_ok-refused.ensures.gives c.in_ok-refused.ensures.same _ _ refl c.lasting_summary.ensures
