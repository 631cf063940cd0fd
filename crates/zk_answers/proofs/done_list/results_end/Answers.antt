use Rattle.std.proofs.Common.{◌≡◌, ◌+◌, ◌∷◌, ◌++◌, List, Bool, true, false, inr, take, drop, [], sym, subst, ◌∙◌, arith}
use Rattle.std.proofs.lemmas.Result.{err_from_is_err_and}
use Rattle.zk_jute.specs.{Reading.told_place, Layout.IsValueOf, Told.StandsAt, Told.HasSureFault, Told.IsToldAt, declared.fault.Reason.TheVariants.BadPart}
use Rattle.zk_jute.proofs.{Stretches.none_passed, Stretches.one_passed, Judged.says_more, Judged.says_told, Judged.says_one}
use Rattle.zk_records.specs.{Records.multi_header, declared.op.PartOp.PartOp}
use Rattle.zk_asks.specs.Parts.{marked, end_header}
use Rattle.zk_asks.proofs.Knowing.{of_answer}
use Rattle.zk_answers.specs.Results.{done_items, AnswerAll, MayAnswer, IsDoneFault}
use Rattle.zk_answers.proofs.Outcomes.{result_mark, result_bad, loop_fault, drop_all, drop_some, take_all, take_some, answers_push}
use Rattle.zk_answers.proofs.Lying.{dones_passed}
use Rattle.zk_answers.proofs.done_list.results_end.Goals as goal

pub loop-j-init : goal.loop-j-init
loop-j-init g c = record { within = c.requires; passed = none_passed done_items c.args.payload.now c.args.place c.requires; answers = tt }

pub returns-in_err-next-clause-fault : goal.returns-in_err-next-clause-fault
returns-in_err-next-clause-fault g c =
    let p = err_from_is_err_and c.from_residual.result c.from_residual.ensures.1 in
    let i = c.loop-j.invariant in
    let n = c.loop-j.j in
    let ops = g.F.Asked.part_ops c.args.form.now in
    let src = c.args.payload.now in
    let some = sym c.part.ensures ∙ c.unwrap-op.ensures in
    rw (p.1, p.2) (says_more g.V.Verdict.tells _ _
    (λ e f. let told = subst (λ (o : List PartOp). IsToldAt (IsDoneFault o) src c.loop-j.at e) (sym (drop_some ops n c.unwrap-op.result some)) (f.0 (drop (n + 1) ops)) in
    (loop_fault ops n i.passed.values src c.args.place c.loop-j.at i.answers i.passed.have i.passed.stands e told, f.1))
    c.in_err-next.field-0.0 c.in_err-next.ensures.fault)

pub loop-j-preserved : goal.loop-j-preserved
loop-j-preserved g c =
    let f = c.in_ok-next.ensures.found in
    let i = c.loop-j.invariant in
    let n = c.loop-j.j in
    let ops = g.F.Asked.part_ops c.args.form.now in
    let op = c.unwrap-op.result in
    let ds = i.passed.values in
    let d = f.0 in
    let more = take_some ops n op (sym c.part.ensures ∙ c.unwrap-op.ensures) in
    record {
      within = c.in_ok-next.ensures.within;
      passed = one_passed done_items c.args.payload.now c.args.place c.loop-j.at c.in_ok-next.next n i.passed d f.2 f.3;
      answers = subst (λ (o : List PartOp). AnswerAll o (ds ++ d ∷ [])) (sym more) (answers_push (take n ops) op ds d i.answers f.1);
    }

pub returns-in_err-header-clause-fault : goal.returns-in_err-header-clause-fault
returns-in_err-header-clause-fault g c =
    let p = err_from_is_err_and c.from_residual-in_err-header.result c.from_residual-in_err-header.ensures.1 in
    let i = c.loop-j.invariant in
    let n = c.loop-j.j in
    let ops = g.F.Asked.part_ops c.args.form.now in
    let src = c.args.payload.now in
    let tells = g.V.Verdict.tells in
    let v = c.in_err-header.field-0.0 in
    let fault = says_told tells (HasSureFault (IsValueOf multi_header.layout) src c.loop-j.at) c.read_ref.result c.read_ref.ensures.fault v c.in_err-header.ensures in
    rw (p.1, p.2) (says_more tells _ _ (λ e f. (loop_fault ops n i.passed.values src c.args.place c.loop-j.at i.answers i.passed.have i.passed.stands e (result_mark (drop n ops) src c.loop-j.at e (inr f.0)), f.1)) v fault)

pub returns-then-not-is_end-clause-fault : goal.returns-then-not-is_end-clause-fault
returns-then-not-is_end-clause-fault g c =
    let i = c.loop-j.invariant in
    let n = c.loop-j.j in
    let ops = g.F.Asked.part_ops c.args.form.now in
    let src = c.args.payload.now in
    let h = c.in_ok-header.header in
    let f = of_answer (λ x. IsValueOf multi_header.layout (marked x.0) × StandsAt (marked x.0) src c.loop-j.at x.1) c.read_ref.result (h, c.in_ok-header.end) c.in_ok-header.ensures c.read_ref.ensures.found in
    let none = drop_all ops n (omega (arith, c.loop-j-test.false, c.parts-j-end.ensures)) in
    let test = c.if-not-is_end.true in
    let not : (MayAnswer (drop n ops) h → ⊥) = λ may. let m : h ≡ end_header = subst (λ (o : List PartOp). MayAnswer o h) none may in let e : ◌≡◌ {A = Bool} true false = sym (c.is_end.ensures.1 m) ∙ test in absurd cc in
    let told = result_bad (drop n ops) src c.loop-j.at c.in_ok-header.end h f.0 f.1 not in
    says_one g.V.Verdict.tells _ _ (loop_fault ops n i.passed.values src c.args.place c.loop-j.at i.answers i.passed.have i.passed.stands (record { place = told_place c.loop-j.at; reason = BadPart }) told, λ e. cc) c.at.result c.at.ensures

pub returns-clause-found : goal.returns-clause-found
returns-clause-found g c =
    let i = c.loop-j.invariant in
    let n = c.loop-j.j in
    let src = c.args.payload.now in
    let ops = g.F.Asked.part_ops c.args.form.now in
    let h = c.in_ok-header.header in
    let f = of_answer (λ x. IsValueOf multi_header.layout (marked x.0) × StandsAt (marked x.0) src c.loop-j.at x.1) c.read_ref.result (h, c.in_ok-header.end) c.in_ok-header.ensures c.read_ref.ensures.found in
    let all = subst (λ (o : List PartOp). AnswerAll o i.passed.values) (take_all ops n (omega (arith, c.loop-j-test.false, c.parts-j-end.ensures))) i.answers in
    dones_passed src c.args.place c.loop-j.at n c.in_ok-header.end h ops i.passed all f.0.1 f.1 (c.is_end.ensures.0 c.if-not-is_end.false)
