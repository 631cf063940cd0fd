use Rattle.std.proofs.Common.{◌≡◌, ◌++◌, take, drop, length, length-drop, arith, ap, subst}
use Rattle.std.specs.Io.KnownBytes.{append_known}
use Rattle.zk_listings.proofs.Exits.{if-err}
use Rattle.zk_runs.specs.Accepting.{HasTaken, HaltsIn}
use Rattle.zk_runs.proofs.Taken.{taken-further, halts-further}
use Rattle.zk_runs.proofs.builder.Builder.gather.Goals as goal

pub returns-in_err-at-clause-halts : goal.returns-in_err-at-clause-halts
returns-in_err-at-clause-halts c =
    if-err _ c.in_err-at.field-0.0 _ c.from_residual.ensures.1 (λ limits x before written t.
    let block = c.args.block.now in
    let after = append_known written c.advance.new.due.items in
    let count = c.advance.new.self.scribe.lines in
    let so_far = c.loop-at.invariant.taken limits x before written t in
    halts-further limits x block c.loop-at.at before after c.in_err-at.field-0.0 count
    (subst (λ b. HaltsIn limits ((x ++ take c.loop-at.at block) ++ b) before c.in_err-at.field-0.0 count after) c.rest.ensures (c.in_err-at.ensures.halts limits _ before written so_far)))

pub loop-at-preserved : goal.loop-at-preserved
loop-at-preserved c =
    let at = c.loop-at.at in
    let block = c.args.block.now in
    let used = c.in_ok-at.field-0 in
    let long : length c.rest.result.now ≡ length (drop at block) = ap length c.rest.ensures in
    record {
      within = omega (arith, c.in_ok-at.ensures.used, long, length-drop at block);
      count = omega (arith, c.in_ok-at.ensures.count, c.loop-at.invariant.count);
      taken = λ limits x before written t.
          let so_far = c.loop-at.invariant.taken limits x before written t in
          let new = c.advance.new.self in
          taken-further limits x block at used before _ _ _ _ _
          (subst (λ b. HasTaken limits ((x ++ take at block) ++ take used b) before (append_known written c.advance.new.due.items) new.begun.items new.scribe.lines new.scribe.ended new.scribe.speaker) c.rest.ensures
          (c.in_ok-at.ensures.goes_on limits _ before written so_far));
    }
