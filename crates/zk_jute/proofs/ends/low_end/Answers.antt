use Rattle.std.proofs.Common.{ℤ, ◌∙◌, ap}
use Rattle.std.specs.Int.{w32, cast_unsigned}
use Rattle.std.proofs.lemmas.Int.{to_z-of_z}
use Rattle.zk_jute.proofs.Reached.{int_size, low_run}
use Rattle.zk_jute.proofs.ends.low_end.Goals as goal

pub returns-then-end-payload-clause-some : goal.returns-then-end-payload-clause-some
returns-then-end-payload-clause-some c =
    let number = c.in-Ok.number in
    let n = c.cast_unsigned-size.result in
    let low = c.is_low_size.ensures c.if-is_low_size.true in
    let fits = c.in-Ok.ensures.found.0.1.0 in
    let is = c.cast_unsigned-size.ensures ∙ ap (λ (z : ℤ). cast_unsigned w32 z) (to_z-of_z w32 number fits) in
    low_run c.args.payload.now c.args.place c.in-Ok.after n number c.in-Ok.ensures.exact (int_size number n fits is low.0) low.0 low.1 c.if-end-payload.true
