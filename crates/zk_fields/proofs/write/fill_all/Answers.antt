use Rattle.std.proofs.Common.{List, subst, arith, ◌∙◌}
use Rattle.zk_jute.specs.Item.{Item, bytes_of}
use Rattle.zk_fields.specs.{Values.Fills, Written.pairs}
use Rattle.zk_fields.proofs.{Filling.fills_nothing, Saying.some_is, Saying.no_field, Saying.pairs_length, Saying.fills_next, Saying.at_end}
use Rattle.zk_fields.proofs.write.fill_all.Goals as goal

pub loop-index-init : goal.loop-index-init
loop-index-init c = record { so_far = λ items e. subst (λ (z : List Item). Fills (bytes_of z) c.args.at c.args.room.now c.args.at c.args.room.now) (some_is e) (fills_nothing c.args.at c.args.room.now) }

pub loop-index-preserved : goal.loop-index-preserved
loop-index-preserved c =
    let l = c.loop-index in
    let fields = c.args.fields.now in
    record { so_far = fills_next c.args.heads c.args.content.now (pairs fields) l.index c.args.at l.at c.fill_one-at.result c.args.room.now l.room c.fill_one-at.new.room (omega (arith, c.loop-index-test.true, pairs_length fields)) l.invariant.so_far (c.fill_one-at.ensures no_field) }

pub returns : goal.returns
returns c =
    let l = c.loop-index in
    let fields = c.args.fields.now in
    λ items e. l.invariant.so_far items (at_end c.args.heads c.args.content.now (pairs fields) l.index (omega (arith, c.loop-index-test.false, pairs_length fields)) ∙ e)
