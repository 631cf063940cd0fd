use Rattle.std.proofs.Common.{◌≢◌, sym, ◌∙◌, ap, subst}
use Rattle.zk_jute.specs.declared.fault.Reason.TheVariants.{NoMemory}
use Rattle.zk_talk.specs.{declared.message.Fault.Fault, Sound.IsKnown, Stands.TalkState, Taking.IsRefused}
use Rattle.zk_talk.proofs.Stepping.{known_fault, same_fault, no_fault}
use Rattle.zk_talk.proofs.talk.Talk.step_slow.Goals as goal

pub returns-in-Some-clause-err : goal.returns-in-Some-clause-err
returns-in-Some-clause-err c f e =
    let old = c.args.self.now in
    (subst IsKnown (ap (λ (t : TalkState). t.fault) c.self.view_is ∙ e) c.self.invariant.3, known_fault old f c.args.side e old c.args.piece.now)

pub returns-in-Ok-clause-ok : goal.returns-in-Ok-clause-ok
returns-in-Ok-clause-ok c well = c.in-Ok.ensures.ok.1

pub returns-in-Ok-clause-err : goal.returns-in-Ok-clause-err
returns-in-Ok-clause-err c f e = absurd (no_fault f (sym c.in-Ok.ensures.ok.0 ∙ e))

pub returns-in-Ok-clause-none : goal.returns-in-Ok-clause-none
returns-in-Ok-clause-none c f e = absurd (no_fault f (sym c.in-Ok.ensures.ok.0 ∙ e))

pub returns-in-Err-clause-ok : goal.returns-in-Err-clause-ok
returns-in-Err-clause-ok c well = absurd (no_fault c.in-Err._refused (sym well ∙ c.in-Err.ensures.err.0))

pub returns-in-Err-clause-exact : goal.returns-in-Err-clause-exact
returns-in-Err-clause-exact c well = absurd (no_fault c.in-Err._refused (sym well ∙ c.in-Err.ensures.err.0))

pub returns-in-Err-clause-err : goal.returns-in-Err-clause-err
returns-in-Err-clause-err c f e =
    subst (λ (z : Fault). (z.reason ≢ NoMemory) × IsRefused c.args.self.now c.args.side c.args.piece.now z c.step_piece.new.self) (same_fault c.in-Err._refused f (sym c.in-Err.ensures.err.0 ∙ e)) (c.in-Err.ensures.err.1, c.in-Err.ensures.err.2)
