use Rattle.std.proofs.Common.{◌∙◌, take, sym, ap}
use Rattle.zk_talk.specs.{Stands.TalkState, Taking.dropped}
use Rattle.zk_talk.proofs.Stepping.{passes_after, refused_after, fault_stays}
use Rattle.zk_talk.proofs.talk.Talk.pass_slow.Goals as goal

pub returns-clause-ok : goal.returns-clause-ok
returns-clause-ok c well =
    let side = c.args.side in
    let s = c.step_slow-stepped in
    let x = s.ensures.ok (fault_stays side s.new.self ∙ ap (λ (t : TalkState). t.fault) (sym c.drop_kept.ensures) ∙ well) in
    (x.0, x.1, rw (c.drop_kept.ensures) (passes_after side c.args.self.now s.new.self (take s.result.used c.args.piece.now) s.result.whole x.2))

pub returns-clause-exact : goal.returns-clause-exact
returns-clause-exact c well within =
    let s = c.step_slow-stepped in
    s.ensures.exact (fault_stays c.args.side s.new.self ∙ ap (λ (t : TalkState). t.fault) (sym c.drop_kept.ensures) ∙ well) within

pub returns-clause-err : goal.returns-clause-err
returns-clause-err c f kept =
    let side = c.args.side in
    let s = c.step_slow-stepped in
    let x = s.ensures.err f (fault_stays side s.new.self ∙ ap (λ (t : TalkState). t.fault) (sym c.drop_kept.ensures) ∙ kept) in
    (x.0, rw (c.drop_kept.ensures) (refused_after side c.args.self.now s.new.self c.args.piece.now f x.1))

pub returns-clause-kept : goal.returns-clause-kept
returns-clause-kept c f e = c.drop_kept.ensures ∙ ap (dropped c.args.side) (c.step_slow-stepped.ensures.kept f e)
