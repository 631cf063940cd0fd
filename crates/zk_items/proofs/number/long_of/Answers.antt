use Rattle.std.proofs.Common.{◌≡◌, sym, ◌∙◌, Bool, true, false, bytes_eq, arith}
use Rattle.std.proofs.lemmas.Int.{ints}
use Rattle.std.specs.Fmt.{signed_decimal}
use Rattle.zk_items.proofs.Numbers.{number_text, parse_long, equal_bytes}
use Rattle.zk_items.proofs.number.long_of.Goals as goal

no_both : (r b : Bool) → r ≡ b → b ≡ true → r ≡ false → ⊥
no_both r b e t f = cc

pub returns-in-Err-clause-none : goal.returns-in-Err-clause-none
returns-in-Err-clause-none c = λ z fit e. c.in-Err.ensures.cases.0 (number_text z c.args.run.now fit e)

pub returns-in-Err-parse-clause-none : goal.returns-in-Err-parse-clause-none
returns-in-Err-parse-clause-none c = λ z fit e.
    let h = parse_long z c.in-Ok.text.now c.parse.result fit (c.in-Ok.ensures.cases.0 ∙ e) c.parse.ensures.value.0 in
    let k = sym c.in-Err-parse.is ∙ h in cc

pub returns-then-not-is_long-clause-none : goal.returns-then-not-is_long-clause-none
returns-then-not-is_long-clause-none c = λ z fit e.
    let h = parse_long z c.in-Ok.text.now c.parse.result fit (c.in-Ok.ensures.cases.0 ∙ e) c.parse.ensures.value.0 in
    let k : c.in-Ok-parse.n ≡ z = let j = sym c.in-Ok-parse.is ∙ h in cc in
    let b : bytes_eq (signed_decimal z) c.args.run.now ≡ true = equal_bytes (signed_decimal z) c.args.run.now (sym e) in
    no_both c.is_long.result _ (c.is_long.ensures z (omega (arith, ints))) b c.if-not-is_long.true
