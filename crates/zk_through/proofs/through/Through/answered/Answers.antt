use Rattle.zk_through.proofs.through.Through.answered.Goals as goal

pub returns-clause-answers : goal.returns-clause-answers
returns-clause-answers c = rw (← c.self.view_is) (λ h came k M r. r.answered)
