use Rattle.std.proofs.Common.{◌≡◌, ◌∙◌, ◌++◌, false, ap, sym, subst}
use Rattle.std.specs.List.{AllByRecursion, flat_map}
use Rattle.zk_items.specs.Leaf.{is_plain, symbol_spell}
use Rattle.zk_items.proofs.Escapes.{odd_run, odd_some}
use Rattle.zk_items.proofs.write.put_odd.Goals as goal

pub put_few-requires : goal.put_few-requires
put_few-requires c = (odd_run c.args.bytes.now c.odd_len-run.result c.odd_len-run.ensures).odd

pub put_escapes-requires-clause-few : goal.put_escapes-requires-clause-few
put_escapes-requires-clause-few c = (odd_run c.args.bytes.now c.odd_len-run.result c.odd_len-run.ensures).few

pub put_escapes-requires-clause-odd : goal.put_escapes-requires-clause-odd
put_escapes-requires-clause-odd c =
    let o = odd_run c.args.bytes.now c.odd_len-run.result c.odd_len-run.ensures in
    subst (AllByRecursion (λ b. is_plain b ≡ false)) (sym (c.block_of.ensures c.odd_len-run.result o.few o.within)) o.odd

pub returns-in_ok-put_escapes-clause-many : goal.returns-in_ok-put_escapes-clause-many
returns-in_ok-put_escapes-clause-many c =
    let o = odd_run c.args.bytes.now c.odd_len-run.result c.odd_len-run.ensures in
    (odd_some c.args.bytes.now c.odd_len-run.result c.odd_len-run.ensures c.requires.some c.requires.odd, o.within)

pub returns-in_ok-put_escapes-clause-spelled : goal.returns-in_ok-put_escapes-clause-spelled
returns-in_ok-put_escapes-clause-spelled c =
    let o = odd_run c.args.bytes.now c.odd_len-run.result c.odd_len-run.ensures in
    c.in_ok-put_escapes.ensures.spelled ∙ ap (λ l. c.args.out.now.items ++ flat_map symbol_spell l) (c.block_of.ensures c.odd_len-run.result o.few o.within)
