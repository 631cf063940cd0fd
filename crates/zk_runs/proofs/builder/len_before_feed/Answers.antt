use Rattle.std.proofs.Common.{eqb-true, arith}
use Rattle.zk_runs.proofs.Known.{plain-before}
use Rattle.zk_runs.proofs.builder.len_before_feed.Goals as goal

pub returns-in-Some-clause-before : goal.returns-in-Some-clause-before
returns-in-Some-clause-before c = plain-before c.args.bytes.now c.in-Some.at c.in-Some.ensures.0.before

pub returns-in-Some-clause-within : goal.returns-in-Some-clause-within
returns-in-Some-clause-within c = omega (arith, c.in-Some.ensures.0.high)

pub returns-in-Some-clause-found : goal.returns-in-Some-clause-found
returns-in-Some-clause-found c = λ _. eqb-true _ _ c.in-Some.ensures.1

pub returns-in-None-clause-before : goal.returns-in-None-clause-before
returns-in-None-clause-before c = plain-before c.args.bytes.now _ c.in-None.ensures
