use Rattle.std.proofs.Common.{◌-◌, ◌<◌, ◌∙◌, length, FitsSigned, ap, arith, inr, rules, sym, w32}
use Rattle.std.proofs.{lemmas.Bool.ltb-true, lemmas.Int.to_z-of_z}
use Rattle.zk_frames.specs.Framing.{int_bytes}
use Rattle.zk_listings.proofs.Bytes.{int-front}
use Rattle.zk_listings.proofs.read_long_frames.begins_long.Goals as goal

pub returns-in-Some : goal.returns-in-Some
returns-in-Some c = λ less.
    let n = c.in-Ok.length in
    let within : length c.args.bytes.now - c.in-Ok.place < c.in-Some.length = ltb-true (length c.args.bytes.now - c.in-Ok.place) c.in-Some.length less in
    let front = int-front c.args.bytes.now n c.in-Ok.place c.in-Ok.ensures.found.1 in
    let fits : FitsSigned w32 n = search rules in
    let is = sym (to_z-of_z w32 n fits) ∙ c.in-Some.ensures.0 in
    inr (c.in-Some.length, front.0 ∙ ap int_bytes is, c.in-Some.ensures.1, omega (arith, within, front.1, c.in-Ok.ensures.within))
