use Rattle.std.proofs.Common.{◌≡◌, None, Ok, subst, arith}
use Rattle.std.specs.Prelude.{Option, ℕ}
use Rattle.zk_jute.specs.{Reading.size_at, Values.text_items}
use Rattle.zk_jute.proofs.{Stretches.none_passed, Reached.one_more, Reached.null_text}
use Rattle.zk_jute.proofs.ends.nulls_end.Goals as goal

pub loop-passed-init : goal.loop-passed-init
loop-passed-init c = record { within = c.requires; so_far = none_passed text_items c.args.payload.now c.args.place c.requires }

pub loop-passed-preserved : goal.loop-passed-preserved
loop-passed-preserved c =
    let src = c.args.payload.now in
    let at = c.loop-passed.at in
    let here = c.in-Ok-None-default in
    let size : size_at src at ≡ Ok (None, here.end) = subst (λ (o : Option ℕ). size_at src at ≡ Ok (o, here.end)) here.field-0-0-is here.ensures.exact in
    record {
      within = omega (arith, here.ensures.within);
      so_far = one_more text_items src c.args.place at here.end c.loop-passed.passed c.loop-passed.invariant.so_far (null_text src at here.end (λ i. omega (arith, c.type_inv.payload i)) c.loop-passed.invariant.within size);
    }
