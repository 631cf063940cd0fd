use Rattle.std.proofs.Common.{◌≡◌, ◌∙◌, refl, sym, subst}
use Rattle.std.proofs.lemmas.Bool.{false≢true}
use Rattle.zk_recordings.specs.{HeadLimits.limits_or, Reading.chosen}
use Rattle.zk_recordings.proofs.Accepts.{limits-none, limits-some}
use Rattle.zk_recordings.proofs.heads.head_limits.Goals as goal

pub returns-in_err-limits : goal.returns-in_err-limits
returns-in_err-limits c = λ options.
    let none = limits-none c.args.client c.args.server c.args.waiting c.args.profile (λ are. false≢true (c.in_err-limits.ensures.when.1 are)) options in
    subst (λ o. chosen o options ≡ limits_or options c.args.client c.args.server c.args.waiting c.args.profile) (sym c.from_residual.ensures) none

pub returns : goal.returns
returns c = λ options.
    let n = c.with_profile.ensures.numbers in
    let v = c.in_ok-limits.ensures.value in
    limits-some c.with_profile.result c.args.client c.args.server c.args.waiting c.args.profile (n.0 ∙ v.0, n.1 ∙ v.1, n.2 ∙ v.2) c.with_profile.ensures.profile
    (c.in_ok-limits.ensures.when.0 refl) options
