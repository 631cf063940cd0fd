-- What has the form is read: so it follows where what is read has it, and where a fault excludes it.
use Rattle.std.proofs.Common.{◌≡◌, ℕ, inl, inr, List, Ok, Err, Result, sym, ap, subst, ◌∙◌}
use Rattle.std.specs.Prelude.{◌≢◌, IfOk, IfErr}
use Rattle.zk_jute.specs.{declared.fault.Reason.Reason, declared.fault.Reason.TheVariants.NoMemory, declared.fault.ItemFault.ItemFault, Told.IsTold, Told.IsSurelyTold}
use Rattle.zk_answers.specs.{Held.ServerFrame, Frames.IsSent, Frames.payload}

scan_only : (Form : ServerFrame → Type 0) (F : ℕ → Reason → Type 0) (answer : Result ServerFrame ItemFault) → IfOk answer Form → IfErr answer (λ e. IsTold F e × (e.reason ≢ NoMemory))
    → (s : ServerFrame) → ((t : ServerFrame) → Form t → t ≡ s) → ((p : ℕ) (r : Reason) → F p r → ⊥) → answer ≡ Ok s
unfolding IsTold
scan_only Form F (Ok t) found fault s same not = ap Ok (same t found)
scan_only Form F (Err e) found fault s same not =
    elim fault.0 [
      | inl m ↦ absurd (fault.1 (ap (λ (y : ItemFault). y.reason) m))
      | inr f ↦ absurd (not f.0 e.reason f.1)
    ]

-- what is read is the one frame of its form that the payload is
module _ (Form : ServerFrame → Type 0) (F : List ℕ → ℕ → Reason → Type 0) (src : List ℕ) (answer : Result ServerFrame ItemFault)
    (found : IfOk answer (λ t. Form t × IsSent t × (src ≡ payload t))) (fault : IfErr answer (IsSurelyTold (F src))) where
  pub only_it : ((t s : ServerFrame) → Form t → Form s → IsSent t → IsSent s → payload t ≡ payload s → t ≡ s) → ((s : ServerFrame) (p : ℕ) (r : Reason) → Form s → IsSent s → F (payload s) p r → ⊥)
      → (s : ServerFrame) → Form s → IsSent s → src ≡ payload s → answer ≡ Ok s
  only_it one not s is sent e =
      scan_only (λ t. Form t × IsSent t × (src ≡ payload t)) (F src) answer found fault s
      (λ t f. one t s f.0 is f.1 sent (sym f.2 ∙ e))
      (λ p r f. not s p r is sent (subst (λ (b : List ℕ). F b p r) e f))
