use Rattle.std.proofs.Common.{◌≤◌, ◌+◌, ◌*◌, ℕ, get_or, ap, ◌∙◌, arith}
use Rattle.zk_items.proofs.Numerals.{one_more_fits, next_digit}
use Rattle.zk_items.proofs.decimal.digits_ahead.Goals as goal

pub overflow_mul-value : goal.overflow_mul-value
overflow_mul-value c =
    let l = c.loop-count in
    let small = one_more_fits c.args.bytes.now l.count l.value l.invariant.digits (omega arith) (omega arith) l.invariant.value in
    record { fits = omega (arith, small) }

pub overflow_add-value : goal.overflow_add-value
overflow_add-value c =
    let l = c.loop-count in
    let small = one_more_fits c.args.bytes.now l.count l.value l.invariant.digits (omega arith) (omega arith) l.invariant.value in
    record { fits = omega (arith, small) }

pub loop-count-preserved : goal.loop-count-preserved
loop-count-preserved c =
    let l = c.loop-count in
    let low : 48 ≤ get_or c.args.bytes.now l.count 0 = grind (arith, c.is_ascii_digit.ensures.cases) in
    let high : get_or c.args.bytes.now l.count 0 ≤ 57 = grind (arith, c.is_ascii_digit.ensures.cases) in
    let next = next_digit c.args.bytes.now l.count l.value l.invariant.digits (omega arith) l.invariant.value low high in
    record { within = omega arith; digits = next.digits; value = ap (λ (d : ℕ). l.value * 10 + d) c.from.ensures ∙ next.value }
