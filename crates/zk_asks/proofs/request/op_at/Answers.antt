use Rattle.std.proofs.Common.{sym, ◌∙◌, ap, arith, Some, ◌≡◌}
use Rattle.std.specs.Prelude.{slice_get, map}
use Rattle.zk_asks.specs.Parts.{op_of_part}
use Rattle.zk_asks.proofs.Lying.{one_less, none_at, op_at}
use Rattle.zk_asks.proofs.request.op_at.Goals as goal

pub returns-in_err-next : goal.returns-in_err-next
returns-in_err-next c =
    let l = c.loop-passed in
    c.from_residual.ensures ∙ none_at c.args.list.now l.passed c.args.j (sym l.invariant.items ∙ c.in_err-next.ensures.steps.0) (omega (arith, l.invariant.within))

pub loop-passed-preserved : goal.loop-passed-preserved
loop-passed-preserved c =
    let l = c.loop-passed in
    record {
      items = one_less c.args.list.now l.passed c.in_ok-next.field-0 c.next.new.self (sym l.invariant.items ∙ c.in_ok-next.ensures.steps);
      within = omega (arith, c.loop-passed-test.true);
    }

pub returns-in_err-next-2 : goal.returns-in_err-next-2
returns-in_err-next-2 c =
    let l = c.loop-passed in
    c.from_residual-in_err-next-2.ensures ∙ none_at c.args.list.now l.passed c.args.j (sym l.invariant.items ∙ c.in_err-next-2.ensures.steps.0) (omega (arith, l.invariant.within))

pub returns : goal.returns
returns c =
    let l = c.loop-passed in
    let ps = c.args.list.now in
    let there : l.passed ≡ c.args.j = omega (arith, l.invariant.within, c.loop-passed-test.false) in
    ap Some c.op.ensures ∙ op_at ps l.passed c.in_ok-next-2.field-0 c.next-2.new.self (sym l.invariant.items ∙ c.in_ok-next-2.ensures.steps) ∙ ap (slice_get (map op_of_part ps)) there
