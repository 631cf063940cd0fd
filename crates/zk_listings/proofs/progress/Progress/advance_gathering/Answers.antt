use Rattle.std.proofs.Common.{refl, arith}
use Rattle.zk_listings.proofs.Runs.{run-lasting}
use Rattle.zk_listings.proofs.progress.Progress.advance_gathering.Goals as goal

pub returns-clause-steps : goal.returns-clause-steps
returns-clause-steps c = λ lines.
    run-lasting c.args.gathered.now c.gather_run.new.gathered c.args.self.now (record c.args.self.now { reader = c.next-run.new.self; talk = c.gather_run.new.talk }) lines c.args.block.now _ _ _ _ c.requires.begun
    (omega (arith, c.next-run.ensures.used)) refl c.next-run.ensures.reads c.limits-limits.ensures c.in_ok-refused.ensures.gathers _ _ refl c.lasting_summary.ensures
