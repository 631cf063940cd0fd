use Rattle.std.proofs.Common.{◌≡◌, ◌+◌, ◌-◌, take, drop, length, ℕ, ap, ◌∙◌, arith, SFits, w64}
use Rattle.std.proofs.lemmas.Int.{ints, to_z-of_z}
use Rattle.std.specs.Fmt.{signed_decimal}
use Rattle.zk_items.proofs.{Lanes.front_of, Escapes.on_piece}
use Rattle.zk_items.proofs.write.put_long.Goals as goal

pub returns-clause-spelled : goal.returns-clause-spelled
returns-clause-spelled c =
    let w = c.decimal_before-start in
    let count = 20 - w.result in
    let ahead = drop w.result w.new.room in
    let fits : SFits w64 c.args.n = c.ranges.n in
    let is = simp to_z-of_z at w.ensures.written in
    let long : count ≡ length (signed_decimal c.args.n) = search (arith, ints, to_z-of_z, w.ensures.begins) in
    let digits : take count (take 20 ahead) ≡ signed_decimal c.args.n = front_of 20 count ahead (signed_decimal c.args.n) _ is long (omega arith) in
    let twenty : w.result + 20 - w.result ≡ 20 = omega arith in
    on_piece c.append_first.result c.args.out.now.items c.append_first.new.out.items _ _ (ap (λ (k : ℕ). take count (take k ahead)) twenty ∙ digits) c.append_first.ensures.appended
