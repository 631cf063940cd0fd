use Rattle.zk_runs.proofs.{Accepted.took-nothing, Taken.taken-nothing}
use Rattle.zk_runs.proofs.builder.Builder.new.Goals as goal

pub returns-clause-start : goal.returns-clause-start
returns-clause-start c = λ before now written.
    taken-nothing c.args.limits before now _ _ c.new-2.ensures.items (took-nothing c.args.limits before now c.in_ok-speaker.speaker c.in_ok-speaker.ensures.says c.in_ok-speaker.ensures.limits written)
