use Rattle.std.proofs.Common.{◌∙◌, sym, ap}
use Rattle.zk_talk.specs.Stands.{TalkState}
use Rattle.zk_talk.proofs.Stepping.{steps_then, refused_then}
use Rattle.zk_talk.proofs.talk.Talk.step.Goals as goal

pub returns-clause-ok : goal.returns-clause-ok
returns-clause-ok c = steps_then c.args.side c.args.self.now _ c.step_slow-stepped.new.self c.in_default.ensures.same c.args.piece.now c.step_slow-stepped.result.used c.step_slow-stepped.result.whole (c.step_slow-stepped.ensures.ok (ap (λ (t : TalkState). t.fault) (sym c.self.view_is) ∙ c.in_default-fault.is))

pub returns-in-Some-fault-clause-err : goal.returns-in-Some-fault-clause-err
returns-in-Some-fault-clause-err c = refused_then c.args.side c.args.self.now _ c.step_slow-stepped.new.self c.in_default.ensures.same c.args.piece.now c.in-Some-fault.fault (c.step_slow-stepped.ensures.err c.in-Some-fault.fault (ap (λ (t : TalkState). t.fault) (sym c.self.view_is) ∙ c.in-Some-fault.is))
