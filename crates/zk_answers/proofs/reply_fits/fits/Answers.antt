use Rattle.std.proofs.Common.{◌≡◌, List, sym, ◌∙◌}
use denote.Enum.Bare.{differs_true}
use Rattle.zk_records.specs.contracts.op.Op.{the_type}
use Rattle.zk_records.specs.{declared.op.Op.Op, declared.op.PartOp.PartOp}
use Rattle.zk_answers.specs.{Held.Outcome, Frames.OutcomeFits, Frames.op_of_outcome}
use Rattle.zk_answers.specs.declared.frame.OutcomeOf.TheVariants as outcome
use Rattle.zk_answers.proofs.reply_fits.fits.Goals as goal

-- a reply that fits a request is to its operation
of_fit : (op : Op) (parts : List PartOp) (o : Outcome) → OutcomeFits op parts o → op_of_outcome o ≡ op
of_fit op parts (outcome.Done b) fit = fit.0
of_fit op parts (outcome.Failed o e) fit = fit

pub returns-then-ne : goal.returns-then-ne
returns-then-ne g c = (
  λ yes. absurd cc,
  λ fit.
      let same = of_fit (g.F.Asked.operation c.args.form.now) (g.F.Asked.part_ops c.args.form.now) c.args.reply.now.outcome fit in
      absurd (differs_true the_type c.op.result c.op-2.result (sym c.ne.ensures ∙ c.if-ne.true) (c.op.ensures ∙ same ∙ sym c.op-2.ensures)),
)
