use Rattle.std.proofs.Common.{◌∙◌, Some, ap, subst, sym, rules}
use Rattle.zk_c.specs.{Handle.AreNumbers, Passage.PassageState, Passing.HasJoined}
use Rattle.zk_c.proofs.Handles.{held_now}
use Rattle.zk_c.proofs.through.zk_through_join.Goals as goal

pub returns-clause-status : goal.returns-clause-status
returns-clause-status c = record { in_use = search rules; limits = search rules; range = search rules; others = search rules }

pub returns-clause-join : goal.returns-clause-join
returns-clause-join c well =
    let numbers = AreNumbers c.args.client c.args.server c.args.waiting c.args.profile in
    held_now (λ (p : PassageState). numbers p.through.talk.limits × HasJoined p) (c.put.ensures ∙ ap Some c.in-Ok-new.ensures.ok)
    (subst numbers (sym c.in-Ok.ensures.limits) c.in-Some.ensures.value, c.in-Ok.ensures.begun)
