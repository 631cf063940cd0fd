use Rattle.std.proofs.Common.{◌∙◌, sym}
use Rattle.std.proofs.lemmas.Bool.{false≢true}
use Rattle.zk_runs.proofs.Accepted.{halts-behind}
use Rattle.zk_runs.proofs.builder.Scribe.close.Goals as goal

pub returns-then-self-clause-halts : goal.returns-then-self-clause-halts
returns-then-self-clause-halts c = λ limits lines before now t. rw c.at_line.ensures (halts-behind limits lines before now _ _ c.args.line.now (rw c.if-self.true at t))

pub say-requires-clause-plain : goal.say-requires-clause-plain
say-requires-clause-plain c = λ dotted. false≢true (sym c.if-is_dotted.false ∙ c.is_dotted.ensures.1 dotted)
