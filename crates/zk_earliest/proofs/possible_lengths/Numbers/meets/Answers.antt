use Rattle.std.proofs.Common.{refl, arith}
use Rattle.zk_earliest.proofs.Meets.{by_null, by_range, by_also, by_none}
use Rattle.zk_earliest.proofs.possible_lengths.Numbers.meets.Goals as goal

pub returns-then-is_null : goal.returns-then-is_null
returns-then-is_null c = (λ _. by_null c.args.self c.args.low c.args.high c.requires.order (c.if-is_null.ensures.0 refl), λ _. refl)

pub returns-then-overlaps : goal.returns-then-overlaps
returns-then-overlaps c = (λ _. by_range c.args.self c.args.low c.args.high c.requires.order c.requires.some (c.if-overlaps.ensures.0 refl), λ _. refl)

pub returns : goal.returns
returns c = (
  λ t. by_also c.args.self c.args.low c.args.high c.requires.order (c.overlaps-2.ensures.0 t),
  λ m. c.overlaps-2.ensures.1 (by_none c.args.self c.args.low c.args.high c.requires.order (omega arith) (λ p. let e = c.if-is_null.ensures.1 p in absurd cc) (λ p. let e = c.if-overlaps.ensures.1 p in absurd cc) m),
)
