use Rattle.std.proofs.Common.{arith, inl, inr}
use Rattle.std.proofs.lemmas.Option.{slice_get_cases, slice_get_within}
use Rattle.zk_asks.proofs.asked.asked_laws.Goals as goal

pub returns-clause-part : goal.returns-clause-part
returns-clause-part g c = λ x j. (
  (λ lt. elim (slice_get_cases (g.T.Asked.part_ops x) j).1 [ inl a ↦ (a.0, a.2) | inr a ↦ let past = a.0 in absurd (omega arith) ]),
  (λ s. slice_get_within (g.T.Asked.part_ops x) j s.0 s.1),
)
