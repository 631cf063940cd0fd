use Rattle.std.specs.Int.{w32}
use Rattle.std.proofs.Common.{of_z, to_z, ◌∷◌, [], inl, inr, ap, sym, ◌∙◌}
use Rattle.std.proofs.{lemmas.Int.to_z-of_z, lemmas.Result.err_from_is_err_and}
use Rattle.zk_jute.specs.{Item.AnInt, Layout.IsValueOf, Told.StandsAt, Told.HasSureFault, Wired.int}
use Rattle.zk_jute.proofs.Judged.{says_more, errs_more, says_told, says_one}
use Rattle.zk_records.specs.Records.{multi_header}
use Rattle.zk_asks.specs.Parts.{marked}
use Rattle.zk_asks.proofs.Knowing.{of_answer}
use Rattle.zk_answers.proofs.{Outcomes.result_mark, Outcomes.result_bad, Outcomes.error_inside, Outcomes.error_differs, Lying.own_found, Lying.own_fault, Lying.error_found}
use Rattle.zk_answers.proofs.done_list.done_end.Goals as goal

pub returns-in_err-header-clause-fault : goal.returns-in_err-header-clause-fault
returns-in_err-header-clause-fault g c =
    let p = err_from_is_err_and c.from_residual.result c.from_residual.ensures.1 in
    let tells = g.V.Verdict.tells in
    let src = c.args.payload.now in
    let v = c.in_err-header.field-0.0 in
    let fault = says_told tells (HasSureFault (IsValueOf multi_header.layout) src c.args.place) c.read_ref.result c.read_ref.ensures.fault v c.in_err-header.ensures in
    rw (p.1, p.2) (says_more tells _ _ (λ e f. (λ ops. result_mark (c.args.op ∷ ops) src c.args.place e (inr f.0), f.1)) v fault)

pub returns-in_err-number-in-Error-clause-fault : goal.returns-in_err-number-in-Error-clause-fault
returns-in_err-number-in-Error-clause-fault g c =
    let p = err_from_is_err_and c.from_residual-in_err-number-in-Error.result c.from_residual-in_err-number-in-Error.ensures.1 in
    let tells = g.V.Verdict.tells in
    let src = c.args.payload.now in
    let h = c.in_ok-header.header in
    let f = of_answer (λ x. IsValueOf multi_header.layout (marked x.0) × StandsAt (marked x.0) src c.args.place x.1) c.read_ref.result (h, c.in_ok-header.after) c.in_ok-header.ensures c.read_ref.ensures.found in
    let v = c.in_err-number-in-Error.field-0.0 in
    let r = c.read_ref-in-Error in
    let fault = says_told tells (HasSureFault (IsValueOf int.layout) src c.in_ok-header.after) r.result r.ensures.fault v c.in_err-number-in-Error.ensures in
    rw (p.1, p.2) (says_more tells _ _ (λ e k. (λ ops. error_inside c.args.op ops src c.args.place c.in_ok-header.after h h.err e f.0.1 f.1 c.in-Error.ensures (inr k.0), k.1)) v fault)

pub returns-then-number-header-clause-fault : goal.returns-then-number-header-clause-fault
returns-then-number-header-clause-fault g c =
    let src = c.args.payload.now in
    let h = c.in_ok-header.header in
    let f = of_answer (λ x. IsValueOf multi_header.layout (marked x.0) × StandsAt (marked x.0) src c.args.place x.1) c.read_ref.result (h, c.in_ok-header.after) c.in_ok-header.ensures c.read_ref.ensures.found in
    let n = c.in_ok-number-in-Error in
    let r = c.read_ref-in-Error in
    let k = of_answer (λ x. IsValueOf int.layout (AnInt x.0 ∷ []) × StandsAt (AnInt x.0 ∷ []) src c.in_ok-header.after x.1) r.result (n.number, n.end) n.ensures r.ensures.found in
    says_one g.V.Verdict.tells _ _
    (λ ops. error_differs c.args.op ops src c.args.place c.in_ok-header.after n.end h h.err n.number f.0.1 f.1 c.in-Error.ensures k.0.1 k.1 (λ e. c.if-number-header.true (ap (of_z w32) e)), λ e. cc)
    c.at-then-number-header.result c.at-then-number-header.ensures

pub returns-in-Bad-clause-fault : goal.returns-in-Bad-clause-fault
returns-in-Bad-clause-fault g c =
    let src = c.args.payload.now in
    let h = c.in_ok-header.header in
    let f = of_answer (λ x. IsValueOf multi_header.layout (marked x.0) × StandsAt (marked x.0) src c.args.place x.1) c.read_ref.result (h, c.in_ok-header.after) c.in_ok-header.ensures c.read_ref.ensures.found in
    let b = c.in-Bad.ensures in
    says_one g.V.Verdict.tells _ _ (λ ops. result_bad (c.args.op ∷ ops) src c.args.place c.in_ok-header.after h f.0 f.1 (λ m. elim m [ inl x ↦ b.0 x | inr x ↦ b.1 x.0 x.1 ]), λ e. cc) c.at.result c.at.ensures

pub returns-in-Result-clause-fault : goal.returns-in-Result-clause-fault
returns-in-Result-clause-fault g c =
    let src = c.args.payload.now in
    let h = c.in_ok-header.header in
    let f = of_answer (λ x. IsValueOf multi_header.layout (marked x.0) × StandsAt (marked x.0) src c.args.place x.1) c.read_ref.result (h, c.in_ok-header.after) c.in_ok-header.ensures c.read_ref.ensures.found in
    errs_more g.V.Verdict.tells _ _ (own_fault c.args.op src c.args.place c.in_ok-header.after h f.1 c.in-Result.ensures) c.result_end.result c.result_end.ensures.fault

pub returns-in-Result-clause-found : goal.returns-in-Result-clause-found
returns-in-Result-clause-found g c =
    let src = c.args.payload.now in
    let h = c.in_ok-header.header in
    let f = of_answer (λ x. IsValueOf multi_header.layout (marked x.0) × StandsAt (marked x.0) src c.args.place x.1) c.read_ref.result (h, c.in_ok-header.after) c.in_ok-header.ensures c.read_ref.ensures.found in
    own_found c.args.op src c.args.place c.in_ok-header.after h f.0.1 f.1 c.in-Result.ensures c.result_end.result c.result_end.ensures.found

pub returns-else-number-header-clause-found : goal.returns-else-number-header-clause-found
returns-else-number-header-clause-found g c =
    let src = c.args.payload.now in
    let h = c.in_ok-header.header in
    let f = of_answer (λ x. IsValueOf multi_header.layout (marked x.0) × StandsAt (marked x.0) src c.args.place x.1) c.read_ref.result (h, c.in_ok-header.after) c.in_ok-header.ensures c.read_ref.ensures.found in
    let n = c.in_ok-number-in-Error in
    let r = c.read_ref-in-Error in
    let k = of_answer (λ x. IsValueOf int.layout (AnInt x.0 ∷ []) × StandsAt (AnInt x.0 ∷ []) src c.in_ok-header.after x.1) r.result (n.number, n.end) n.ensures r.ensures.found in
    let same = sym (to_z-of_z w32 n.number k.0.1.0) ∙ ap (to_z w32) c.if-number-header.false ∙ to_z-of_z w32 h.err f.0.1.1.1.0 in
    error_found c.args.op src c.args.place c.in_ok-header.after n.end h n.number f.0.1 f.1 c.in-Error.ensures k.0.1 k.1 same
