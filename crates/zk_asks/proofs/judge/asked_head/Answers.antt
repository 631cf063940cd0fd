use Rattle.std.proofs.Common.{◌≡◌, Bool, true, false, inr, sym, subst, ◌∙◌}
use Rattle.std.specs.Prelude.{ℤ}
use Rattle.std.specs.Int.{w32}
use Rattle.std.proofs.{lemmas.Int.to_z-of_z, lemmas.Result.err_from_is_err_and}
use Rattle.zk_jute.specs.{Layout.IsValueOf, Told.StandsAt, Told.HasSureFault}
use Rattle.zk_jute.proofs.Judged.{says_more, says_told, says_one}
use Rattle.zk_records.specs.Records.{request_header}
use Rattle.zk_asks.specs.Codes.{IsAllowed}
use Rattle.zk_asks.proofs.{Asks.refused_header, Asks.refused_op, Asks.refused_xid, Knowing.of_answer}
use Rattle.zk_asks.proofs.judge.asked_head.Goals as goal

pub returns-in_err-header-clause-fault : goal.returns-in_err-header-clause-fault
returns-in_err-header-clause-fault g c =
    let p = err_from_is_err_and c.from_residual.result c.from_residual.ensures.1 in
    let tells = g.V.Verdict.tells in
    let v = c.in_err-header.field-0.0 in
    let src = c.args.payload.now in
    let fault = says_told tells (HasSureFault (IsValueOf request_header.layout) src 0) c.read_ref.result c.read_ref.ensures.fault v c.in_err-header.ensures in
    rw (p.1, p.2) (says_more tells _ _ (λ e f. (refused_header c.args.profile src e (inr f.0), f.1)) v fault)

pub returns-in_default-clause-fault : goal.returns-in_default-clause-fault
returns-in_default-clause-fault g c =
    let src = c.args.payload.now in
    let h = c.in_ok-header.header in
    let f = of_answer (λ x. IsValueOf request_header.layout (request_header.items x.0) × StandsAt (request_header.items x.0) src 0 x.1) c.read_ref.result (h, c.in_ok-header.place) c.in_ok-header.ensures c.read_ref.ensures.found in
    let k = to_z-of_z w32 h.kind f.0.1.1.0 in
    says_one g.V.Verdict.tells _ _ (refused_op c.args.profile src h.xid h.kind c.in_ok-header.place f.0 f.1 (λ op has e. c.in_default.ensures op has (k ∙ e)), λ e. cc) c.at.result c.at.ensures

pub returns-then-not-allowed-clause-fault : goal.returns-then-not-allowed-clause-fault
returns-then-not-allowed-clause-fault g c =
    let src = c.args.payload.now in
    let h = c.in_ok-header.header in
    let f = of_answer (λ x. IsValueOf request_header.layout (request_header.items x.0) × StandsAt (request_header.items x.0) src 0 x.1) c.read_ref.result (h, c.in_ok-header.place) c.in_ok-header.ensures c.read_ref.ensures.found in
    let k = to_z-of_z w32 h.kind f.0.1.1.0 in
    let x = to_z-of_z w32 h.xid f.0.1.0 in
    let t = c.if-not-allowed.true in
    let not : IsAllowed h.xid c.in-Some.op → ⊥ = λ may. let b = c.allowed.ensures.1 (subst (λ (z : ℤ). IsAllowed z c.in-Some.op) (sym x) may) in let e : ◌≡◌ {A = Bool} true false = sym b ∙ t in absurd cc in
    says_one g.V.Verdict.tells _ _ (refused_xid c.args.profile src h.xid h.kind c.in_ok-header.place f.0 f.1 c.in-Some.op c.in-Some.ensures.0 (sym k ∙ c.in-Some.ensures.1) not, λ e. cc) c.at-then-not-allowed.result c.at-then-not-allowed.ensures
