use Rattle.std.proofs.Common.{inr, subst, arith}
use Rattle.std.proofs.lemmas.Result.{err_from_is_err_and}
use Rattle.zk_jute.specs.{Layout.IsValueOf, Told.StandsAt, Told.HasSureFault}
use Rattle.zk_jute.proofs.Judged.{says_more, says_told, says_one}
use Rattle.zk_records.specs.{Records.multi_header, declared.header.MultiHeader.MultiHeader}
use Rattle.zk_asks.specs.Parts.{marked, part_header}
use Rattle.zk_asks.proofs.{Knowing.of_answer, Parts.multi_mark, Parts.multi_bad, Parts.multi_part, Lying.part_passed, Lying.all_found, Parted.nine}
use Rattle.zk_asks.proofs.part_list.multi_end.Goals as goal

pub returns-in_err-header-clause-fault : goal.returns-in_err-header-clause-fault
returns-in_err-header-clause-fault g c =
    let p = err_from_is_err_and c.from_residual.result c.from_residual.ensures.1 in
    let i = c.loop-header.invariant.passed in
    let tells = g.V.Verdict.tells in
    let v = c.in_err-header.field-0.0 in
    let src = c.args.payload.now in
    let at = c.loop-header.at in
    let fault = says_told tells (HasSureFault (IsValueOf multi_header.layout) src at) c.read_ref.result c.read_ref.ensures.fault v c.in_err-header.ensures in
    rw (p.1, p.2) (says_more tells _ _ (λ e f. (multi_mark i.values src c.args.place at i.have i.stands e (inr f.0), f.1)) v fault)

pub returns-in_err-next-in-Part-clause-fault : goal.returns-in_err-next-in-Part-clause-fault
returns-in_err-next-in-Part-clause-fault g c =
    let p = err_from_is_err_and c.from_residual-in_err-next-in-Part.result c.from_residual-in_err-next-in-Part.ensures.1 in
    let i = c.loop-header.invariant.passed in
    let src = c.args.payload.now in
    let at = c.loop-header.at in
    let h = of_answer (λ x. IsValueOf multi_header.layout (marked x.0) × StandsAt (marked x.0) src at x.1) c.read_ref.result (c.in_ok-header.header, c.in_ok-header.after) c.in_ok-header.ensures c.read_ref.ensures.found in
    rw (p.1, p.2) (says_more g.V.Verdict.tells _ _
    (λ e f. (multi_part i.values src c.args.place at i.have i.stands c.in_ok-header.header c.in-Part.op c.in_ok-header.after e h.1 c.in-Part.ensures (inr f.0), f.1))
    c.in_err-next-in-Part.field-0.0 c.in_err-next-in-Part.ensures.fault)

pub returns-in-Bad-clause-fault : goal.returns-in-Bad-clause-fault
returns-in-Bad-clause-fault g c =
    let i = c.loop-header.invariant.passed in
    let src = c.args.payload.now in
    let at = c.loop-header.at in
    let h = of_answer (λ x. IsValueOf multi_header.layout (marked x.0) × StandsAt (marked x.0) src at x.1) c.read_ref.result (c.in_ok-header.header, c.in_ok-header.after) c.in_ok-header.ensures c.read_ref.ensures.found in
    says_one g.V.Verdict.tells _ _ (multi_bad i.values src c.args.place at i.have i.stands c.in_ok-header.header c.in_ok-header.after h.0 h.1 c.in-Bad.ensures, λ e. cc) c.at.result c.at.ensures

pub loop-header-preserved : goal.loop-header-preserved
loop-header-preserved g c =
    let i = c.loop-header.invariant in
    let src = c.args.payload.now in
    let at = c.loop-header.at in
    let h = of_answer (λ x. IsValueOf multi_header.layout (marked x.0) × StandsAt (marked x.0) src at x.1) c.read_ref.result (c.in_ok-header.header, c.in_ok-header.after) c.in_ok-header.ensures c.read_ref.ensures.found in
    let f = c.in_ok-next-in-Part.ensures.found in
    let mark : StandsAt (marked (part_header c.in-Part.op)) src at c.in_ok-header.after = subst (λ (x : MultiHeader). StandsAt (marked x) src at c.in_ok-header.after) c.in-Part.ensures h.1 in
    record {
      within = c.in_ok-next-in-Part.ensures.within;
      few = omega (arith, i.few, mark.1, nine (part_header c.in-Part.op), f.3.1);
      passed = part_passed src c.args.place at c.loop-header.count i.passed c.in_ok-header.header c.in_ok-header.after h.0 h.1 c.in-Part.op f.0 c.in_ok-next-in-Part.next c.in-Part.ensures f.1 f.2 f.3;
    }

pub returns-in-End-clause-found : goal.returns-in-End-clause-found
returns-in-End-clause-found g c =
    let i = c.loop-header.invariant in
    let src = c.args.payload.now in
    let at = c.loop-header.at in
    let h = of_answer (λ x. IsValueOf multi_header.layout (marked x.0) × StandsAt (marked x.0) src at x.1) c.read_ref.result (c.in_ok-header.header, c.in_ok-header.after) c.in_ok-header.ensures c.read_ref.ensures.found in
    all_found src c.args.place at c.loop-header.count i.passed c.in_ok-header.header c.in_ok-header.after h.0 h.1 c.in-End.ensures
