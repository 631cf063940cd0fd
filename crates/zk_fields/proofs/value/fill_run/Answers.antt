use Rattle.std.proofs.Common.{rules, FitsSigned, w32, subst, ℤ}
use Rattle.std.proofs.lemmas.Int.{to_z-of_z}
use Rattle.zk_jute.specs.Item.{int_bytes}
use Rattle.zk_fields.specs.Values.{Fills}
use Rattle.zk_fields.proofs.Filling.{fills_both}
use Rattle.zk_fields.proofs.value.fill_run.Goals as goal

pub returns : goal.returns
returns c =
    let n = c.args.length in
    let fits : FitsSigned w32 n = search rules in
    let first : Fills (int_bytes n) c.args.at c.args.room.now c.fill_int-at.result c.fill_int-at.new.room = subst (λ (z : ℤ). Fills (int_bytes z) c.args.at c.args.room.now c.fill_int-at.result c.fill_int-at.new.room) (to_z-of_z w32 n fits) c.fill_int-at.ensures in
    fills_both c.args.at c.fill_int-at.result c.fill.result c.args.room.now c.fill_int-at.new.room c.fill.new.room (int_bytes n) c.args.bytes.now first c.fill.ensures
