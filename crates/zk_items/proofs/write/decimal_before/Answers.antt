use Rattle.std.proofs.Common.{rules, ◌≤◌, ◌^◌, ◌∙◌, ℕ, length, take, arith, ap, sym}
use Rattle.std.specs.Fmt.{decimal}
use Rattle.std.proofs.{lemmas.Fmt.decimal_nonempty, lemmas.Fmt.length-decimal-le, lemmas.List.take-take}
use Rattle.zk_items.proofs.write.decimal_before.Goals as goal

-- the digits of the longest number
nineteen : (n : ℕ) → n ≤ 2 ^ 63 → length (decimal n) ≤ 19
nineteen n most = length-decimal-le 19 n (omega arith) (omega (arith, most)) (omega (arith, most))

some : (n : ℕ) → n ≤ 2 ^ 63 → 1 ≤ length (decimal n)
some n most = decimal_nonempty n (omega (arith, most))

pub write_digits-start-requires : goal.write_digits-start-requires
write_digits-start-requires c = (omega (arith, nineteen _ c.unsigned_abs.ensures.bound, c.requires.room.0), c.requires.room.1)

pub byte_before-requires : goal.byte_before-requires
byte_before-requires c = search (rules, nineteen _ c.unsigned_abs.ensures.bound, some _ c.unsigned_abs.ensures.bound)

pub returns-then-n-lt0-clause-near : goal.returns-then-n-lt0-clause-near
returns-then-n-lt0-clause-near c = search (rules, nineteen _ c.unsigned_abs.ensures.bound, some _ c.unsigned_abs.ensures.bound)

pub returns-then-n-lt0-clause-before : goal.returns-then-n-lt0-clause-before
returns-then-n-lt0-clause-before c =
    let at = c.byte_before.result in
    let w = c.write_digits-start in
    let less : at ≤ w.result = omega (arith, c.byte_before.ensures.begins) in
    c.byte_before.ensures.before ∙ sym (take-take at w.result w.new.buf less) ∙ ap (take at) w.ensures.before ∙ take-take at w.result c.args.room.now less

pub returns-else-n-lt0-clause-near : goal.returns-else-n-lt0-clause-near
returns-else-n-lt0-clause-near c = search (rules, nineteen _ c.unsigned_abs.ensures.bound, some _ c.unsigned_abs.ensures.bound)
