use Rattle.std.proofs.Common.{refl, subst}
use Rattle.zk_c.specs.{Passage.PassageState, PassingOn.IsWaiting}
use Rattle.zk_c.proofs.passage.Passage.waiting.Goals as goal

pub returns : goal.returns
returns c = subst (λ (p : PassageState). IsWaiting p (record { status = 0; requests = c.requests.result; weight = c.waiting.result })) c.self.view_is (record {
  well = refl;
  runs = λ h came k M r v g. record { requests = c.requests.ensures.value h came k M r v g; weight = c.waiting.ensures.value h came k M r v g };
  refused = λ old keeps h came k M r v g. record { requests = c.requests.ensures.refused old keeps h came k M r v g; weight = c.waiting.ensures.refused old keeps h came k M r v g };
})
