use Rattle.std.proofs.Common.{◌≡◌, true}
use Rattle.std.proofs.lemmas.Bool.{both_ways}
use Rattle.zk_through.proofs.Newer.{none_outlined, not_bad, judged_newer}
use Rattle.zk_through.proofs.turn.has_newer_part.Goals as goal

pub returns-in-Ok : goal.returns-in-Ok
returns-in-Ok c = λ newer. none_outlined c.args.profile c.args.payload.now c.in-Ok._outline c.in-Ok.ensures.found newer

pub returns-then-not-is_bad_part : goal.returns-then-not-is_bad_part
returns-then-not-is_bad_part c = λ newer.
    not_bad c.args.profile c.args.payload.now c.in-Err.fault c.in-Err.ensures.fault (λ is. both_ways c.is_bad_part.result (cc) (c.is_bad_part.ensures.1 is)) newer

pub returns : goal.returns
returns c =
    let bad : c.is_bad_part.result ≡ true = cc in
    judged_newer c.args.profile c.args.payload.now c.in-Err.fault c.in-Err.ensures.fault c.requires (c.is_bad_part.ensures.0 bad) c.is_newer_at.result c.is_newer_at.ensures
