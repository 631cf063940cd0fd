use Rattle.std.proofs.Common.{rules, ◌≡◌, ◌++◌, OnOk}
use Rattle.std.specs.Prelude.{codes}
use Rattle.std.specs.Fmt.{signed_decimal}
use Rattle.zk_items.proofs.Kept.{then_spelled}
use Rattle.zk_lines.proofs.ending.put_order.Goals as goal

pub returns-in_ok-extend_from_slice-in-XidOrder-2 : goal.returns-in_ok-extend_from_slice-in-XidOrder-2
returns-in_ok-extend_from_slice-in-XidOrder-2 c =
    let r = c.put_int-in-XidOrder.result in
    let first : c.extend_from_slice.new.self.items ≡ c.args.out.now.items ++ codes " expected=" = search rules in
    let second : c.put_int.new.out.items ≡ c.extend_from_slice.new.self.items ++ signed_decimal c.in-XidOrder.expected = search rules in
    let third : c.extend_from_slice-in-XidOrder.new.self.items ≡ c.put_int.new.out.items ++ codes " got=" = search rules in
    let last : OnOk r (c.put_int-in-XidOrder.new.out.items ≡ c.extend_from_slice-in-XidOrder.new.self.items ++ signed_decimal c.in-XidOrder.got) = search rules in
    let one = c.extend_from_slice.new.self.items in
    let two = c.put_int.new.out.items in
    let three = c.extend_from_slice-in-XidOrder.new.self.items in
    let all = c.put_int-in-XidOrder.new.out.items in
    let expected = signed_decimal c.in-XidOrder.expected in
    let got = signed_decimal c.in-XidOrder.got in
    rw c.in-XidOrder.is (then_spelled r c.args.out.now.items one all (codes " expected=") (expected ++ (codes " got=" ++ got)) first
    (then_spelled r one two all expected (codes " got=" ++ got) second (then_spelled r two three all (codes " got=") got third last)))
