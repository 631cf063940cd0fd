use Rattle.std.proofs.Common.{rules, ◌≡◌, ◌++◌}
use Rattle.std.specs.Prelude.{codes}
use Rattle.std.specs.Fmt.{signed_decimal}
use Rattle.zk_items.proofs.Kept.{then_spelled}
use Rattle.zk_lines.specs.{Words.word_of, declared.word.Word.TheVariants.Blank}
use Rattle.zk_lines.proofs.ask.put_request.Goals as goal

pub returns-clause-spelled : goal.returns-clause-spelled
returns-clause-spelled g c =
    let r = c.put_field.result in
    let first : c.extend_from_slice.new.self.items ≡ c.args.out.now.items ++ codes "C " = search rules in
    let number : c.put_int.new.out.items ≡ c.extend_from_slice.new.self.items ++ signed_decimal c.args.xid = search rules in
    let xid = signed_decimal c.args.xid in
    let ask = word_of Blank ++ g.A.Put.form.spell c.args.ask.now in
    let one = c.extend_from_slice.new.self.items in
    let two = c.put_int.new.out.items in
    let all = c.put_field.new.out.items in
    then_spelled r c.args.out.now.items one all (codes "C ") (xid ++ ask) first (then_spelled r one two all xid ask number c.put_field.ensures.spelled)
