use Rattle.std.proofs.Common.{◌∙◌, sym, ap}
use Rattle.zk_talk.specs.Stands.{TalkState}
use Rattle.zk_talk.proofs.Stepping.{passes_then, refused_then}
use Rattle.zk_talk.proofs.talk.Talk.pass.Goals as goal

pub returns-in-Some-clause-ok : goal.returns-in-Some-clause-ok
returns-in-Some-clause-ok c =
    let x = c.in-Some.ensures.some in
    (x.1.0, x.1.1, (x.0, x.1.2, c.in-Some.ensures.whole.0))

pub returns-clause-ok : goal.returns-clause-ok
returns-clause-ok c = passes_then c.args.side c.args.self.now _ c.pass_slow-stepped.new.self c.in_default.ensures.same c.args.piece.now c.pass_slow-stepped.result.used c.pass_slow-stepped.result.whole (c.pass_slow-stepped.ensures.ok (ap (λ (t : TalkState). t.fault) (sym c.self.view_is) ∙ c.in_default-fault.is))

pub returns-in-Some-fault-clause-err : goal.returns-in-Some-fault-clause-err
returns-in-Some-fault-clause-err c = refused_then c.args.side c.args.self.now _ c.pass_slow-stepped.new.self c.in_default.ensures.same c.args.piece.now c.in-Some-fault.fault (c.pass_slow-stepped.ensures.err c.in-Some-fault.fault (ap (λ (t : TalkState). t.fault) (sym c.self.view_is) ∙ c.in-Some-fault.is))
