use Rattle.std.proofs.Common.{refl, sym, ◌∙◌}
use Rattle.zk_answers.specs.declared.frame.OutcomeOf.TheVariants as outcome
use Rattle.zk_answers.proofs.Ends.{int_again, body_outcome}
use Rattle.zk_answers.proofs.judge.outcome_end.Goals as goal

pub returns-in-Some-clause-found : goal.returns-in-Some-clause-found
returns-in-Some-clause-found g c = (outcome.Failed (g.F.Asked.operation c.args.form.now) c.args.err, (refl, λ e. c.in-Some.ensures.some.1 (int_again c.args.err c.ranges.err.sfits ∙ e), refl, tt, (refl, refl)))

pub returns-in-None-clause-found : goal.returns-in-None-clause-found
returns-in-None-clause-found g c = body_outcome c.args.payload.now (g.F.Asked.operation c.args.form.now) (g.F.Asked.part_ops c.args.form.now) c.args.err (sym (int_again c.args.err c.ranges.err.sfits) ∙ c.in-None.ensures.none) c.body_end.result c.body_end.ensures.found
