use Rattle.std.proofs.Common.{◌∙◌, sym}
use Rattle.std.proofs.{lemmas.Bool.false≢true, lemmas.Slice.Eq.bytes_eq-Decides}
use Rattle.std.specs.Io.KnownBytes.{append_known}
use Rattle.zk_listings.specs.declared.listing.RunFault.TheVariants.{Memory}
use Rattle.zk_listings.proofs.Exits.{if-err}
use Rattle.zk_runs.specs.declared.builder.Halt.TheVariants.{Fails}
use Rattle.zk_runs.proofs.Accepted.{stops-here, took-ending, halts-not_due}
use Rattle.zk_runs.proofs.builder.Scribe.end.Goals as goal

pub returns-in_err-due-clause-halts : goal.returns-in_err-due-clause-halts
returns-in_err-due-clause-halts c =
    if-err _ (Fails Memory) _ c.from_residual.ensures.1 (λ limits lines before now t. stops-here limits lines before now _ _ (rw c.requires.going at t))

pub returns-clause-halts : goal.returns-clause-halts
returns-clause-halts c = λ limits lines before now t.
    rw c.at_line.ensures (halts-not_due limits lines before now _ _ (rw c.requires.going at t) c.args.line.now c.unanswered-unanswered.result c.unanswered-unanswered.ensures c.requires.dotted
    (λ e. false≢true (sym c.if-eq.false ∙ c.eq.ensures ∙ (bytes_eq-Decides c.args.line.now c.as_slice.result.now).1 (e ∙ sym c.in_ok-due.ensures ∙ sym c.as_slice.ensures.value))))

pub returns-then-eq-clause-goes_on : goal.returns-then-eq-clause-goes_on
returns-then-eq-clause-goes_on c = λ due limits lines before written t.
    took-ending limits lines before (append_known written due) _ _ (rw c.requires.going at t) c.args.line.now c.unanswered-unanswered.result c.unanswered-unanswered.ensures
    ((bytes_eq-Decides c.args.line.now c.as_slice.result.now).0 (sym c.eq.ensures ∙ c.if-eq.true) ∙ c.as_slice.ensures.value ∙ c.in_ok-due.ensures)
