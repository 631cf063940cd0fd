use Rattle.std.proofs.Common.{ap, refl}
use Rattle.zk_answers.proofs.done_list.PartDoneRefMember.pass.Goals as goal

pub returns-clause-value : goal.returns-clause-value
returns-clause-value c = (c.known_in-end.result.0, c.known_in-end.ensures.value, refl)

pub returns-clause-only : goal.returns-clause-only
returns-clause-only c = λ x end have stands. ap (λ z. z.1) (c.known_in-end.ensures.only x end have stands)
