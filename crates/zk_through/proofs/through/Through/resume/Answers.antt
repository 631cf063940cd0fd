use Rattle.std.proofs.Common.{◌≡◌, ◌-◌, ◌∙◌, refl, sym, ap, subst}
use Rattle.zk_talk.specs.declared.message.Fault.{Fault}
use Rattle.zk_talk.proofs.Stepping.{same_fault}
use Rattle.zk_through.specs.Runs.{ThroughState, stream_on}
use Rattle.zk_through.proofs.Resuming.{ends_frame}
use Rattle.zk_through.proofs.through.Through.resume.Goals as goal

pub returns-clause-used : goal.returns-clause-used
returns-clause-used c f is ends =
    let now = c.args.self.now in
    let used = c.used_to_fault-used.result in
    let same : c.in-Some.fault ≡ f = same_fault c.in-Some.fault f (sym c.in-Some.is ∙ ap (λ (t : ThroughState). t.fault) c.self.view_is ∙ is) in
    (used, refl, ends_frame now f is ends used (subst (λ (g : Fault). used ≡ g.offset - (stream_on g.side now).size) same c.used_to_fault-used.ensures))
