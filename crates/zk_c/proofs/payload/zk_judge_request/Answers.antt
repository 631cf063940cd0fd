use Rattle.std.proofs.Common.{◌≡◌, ◌∙◌, ℕ, List, Result, Ok, Err, ap, sym, subst, arith}
use Rattle.std.specs.Prelude.{IfOk, IfErr, MatchResult}
use Rattle.zk_jute.specs.{declared.fault.Reason.Reason, declared.fault.ItemFault.ItemFault, Told.IsSurelyTold}
use Rattle.zk_jute.specs.declared.fault.Reason.TheVariants as reasons
use Rattle.zk_records.specs.declared.profile.Profile.{Profile}
use Rattle.zk_records.proofs.Numbers.{profile_apart}
use Rattle.zk_asks.specs.{Held.ClientFrame, Faults.IsAskFault, Frames.IsLater, Frames.IsSent, Frames.IsOfProfile, Frames.payload}
use Rattle.zk_c.specs.{declared.payload.PayloadAnswer.PayloadAnswer, Numbers.reason_number, Judged.Judges, Judged.IsRequest, Judged.TellsFault, Judged.payload_answer}
use Rattle.zk_c.proofs.payload.zk_judge_request.Goals as goal

-- no reason has the number of none
numbered : (r : Reason) → reason_number r ≡ 0 → ⊥
numbered reasons.Short e = omega (arith, e)
numbered reasons.BadBool e = omega (arith, e)
numbered reasons.BadLength e = omega (arith, e)
numbered reasons.BadText e = omega (arith, e)
numbered reasons.NoMemory e = omega (arith, e)
numbered reasons.Trailing e = omega (arith, e)
numbered reasons.UnknownOp e = omega (arith, e)
numbered reasons.XidOp e = omega (arith, e)
numbered reasons.BadPart e = omega (arith, e)
numbered reasons.EventErr e = omega (arith, e)
numbered reasons.LengthRange e = omega (arith, e)
numbered reasons.QueueFull e = omega (arith, e)
numbered reasons.Unasked e = omega (arith, e)
numbered (reasons.XidOrder expected got) e = omega (arith, e)
numbered reasons.StreamEnd e = omega (arith, e)

judges : {profile : Profile} {bytes : List ℕ} {answer : PayloadAnswer} (read : Result ClientFrame ItemFault) →
    IfOk read (λ f. IsLater f × IsOfProfile profile f × IsSent f × (bytes ≡ payload f)) →
    ((f : ClientFrame) → IsLater f → IsOfProfile profile f → IsSent f → bytes ≡ payload f → read ≡ Ok f) →
    IfErr read (IsSurelyTold (IsAskFault profile bytes)) →
    MatchResult read (λ f. answer ≡ payload_answer 0 0) (λ fault. TellsFault fault answer) → Judges (IsRequest profile bytes) (IsAskFault profile bytes) answer
judges (Ok f) found only told is = record {
  found = λ zero. (f, record { form = (found.0, found.1); sent = found.2; is = found.3 });
  only = λ x of. is;
  fault = λ bad. absurd (bad (ap (λ (a : PayloadAnswer). a.status) is));
}
judges (Err fault) found only told is = record {
  found = λ zero. absurd (numbered fault.reason (sym (ap (λ (a : PayloadAnswer). a.status) is) ∙ zero));
  only = λ x of. let e : ◌≡◌ {A = Result ClientFrame ItemFault} (Err fault) (Ok x) = only x of.form.0 of.form.1 of.sent of.is in absurd (cc);
  fault = λ bad. record { fault = fault; is = told.0; ample = told.1; told = is };
}

pub returns-clause-judges : goal.returns-clause-judges
returns-clause-judges c = λ p number.
    subst (λ (q : Profile). Judges (IsRequest q c.args.bytes.now) (IsAskFault q c.args.bytes.now) c.judged.result) (profile_apart c.in-Some.profile p (sym c.in-Some.ensures ∙ number))
    (judges c.borrow_ask.result c.borrow_ask.ensures.found c.borrow_ask.ensures.only c.borrow_ask.ensures.fault c.judged.ensures)
