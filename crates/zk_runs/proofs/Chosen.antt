-- What a run of words does, whether they are a command line or not.
use Rattle.std.proofs.Common.{◌≡◌, ◌<◌, ◌⊎◌, inl, inr, ℕ, List, Option, Result, Ok, Err, IfOk, IfErr, arith}
use Rattle.zk_runs.specs.{declared.options.Settings.Settings, declared.options.UsageFault.UsageFault, Exits.refusal_of}
use Rattle.zk_runs.specs.declared.options.UsageFault.TheVariants.{Words, Memory}
use Rattle.zk_runs.specs.Commands.{IsInRange, Answers, Stops, IsDoneBySome, IsFailedBySome}

two-or-more : (fault : UsageFault) (exit : ℕ) → exit ≡ refusal_of fault → exit < 2 → ⊥
two-or-more Words exit e less = omega (arith, e, less)
two-or-more Memory exit e less = omega (arith, e, less)

-- `unread_same` and `unwritten_same`: nothing was read, and nothing written
module _ (unread unread_now contents contents_now : Option (List ℕ)) (exit : ℕ) (unread_same unwritten_same : Type 0) where
  pub done-by : (chosen : Result Settings UsageFault) → IfOk chosen IsInRange → IfOk chosen (λ s. Answers s unread unread_now contents contents_now exit) →
      IfErr chosen (λ fault. (exit ≡ refusal_of fault) × unread_same × unwritten_same) → exit < 2 → IsDoneBySome unread unread_now contents contents_now exit
  done-by (Ok s) range answers refused less = (s, range, answers less)
  done-by (Err fault) range answers refused less = absurd (two-or-more fault exit refused.0 less)

  pub refused-by : (chosen : Result Settings UsageFault) → IfErr chosen (λ fault. (exit ≡ refusal_of fault) × unread_same × unwritten_same) →
      IfOk chosen (λ s. Stops s unread unread_now contents contents_now exit) → exit ≡ 2 → unread_same × unwritten_same
  refused-by (Ok s) refused stops two = absurd (omega (arith, two, (stops (omega (arith, two))).0))
  refused-by (Err fault) refused stops two = (refused.1, refused.2)

  pub stopped-by : (chosen : Result Settings UsageFault) → IfOk chosen IsInRange → IfErr chosen (λ fault. (exit ≡ refusal_of fault) × unread_same × unwritten_same) →
      IfOk chosen (λ s. Stops s unread unread_now contents contents_now exit) → exit ≡ 3 → (unread_same × unwritten_same) ⊎ IsFailedBySome unread unread_now contents contents_now
  stopped-by (Ok s) range refused stops three = inr (s, range, (stops (omega (arith, three))).1)
  stopped-by (Err fault) range refused stops three = inl (refused.1, refused.2)
