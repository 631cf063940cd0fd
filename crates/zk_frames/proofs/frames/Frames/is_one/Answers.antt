use Rattle.std.proofs.Common.{Ok, ap, arith, length, subst, take}
use Rattle.std.proofs.lemmas.Bool.{ne_eqb}
use Rattle.zk_frames.specs.FramePart.{Holds, EndsAt}
use Rattle.zk_frames.proofs.Ones.{one_alone, bad_alone, all_one, four_refused}
use Rattle.zk_frames.proofs.frames.Frames.is_one.Goals as goal

pub returns-in-Whole-clause-only : goal.returns-in-Whole-clause-only
returns-in-Whole-clause-only c =
    let limit = c.self.inside.limit in
    let bytes = c.args.bytes.now in
    let used = c.cut-front.result.used in
    let front = subst (λ z. Holds limit z (take used bytes)) c.in-Whole.is c.cut-front.ensures.holds in
    rw (← c.self.view_is) (λ odd. ap Ok (ne_eqb used (length bytes) (λ e. one_alone limit bytes (omega (arith, c.self.invariant.0.small)) (all_one limit bytes (omega (arith, c.self.invariant.0.small)) used e front) odd)))

pub returns-in-Refused-clause-only : goal.returns-in-Refused-clause-only
returns-in-Refused-clause-only c =
    let limit = c.self.inside.limit in
    let bytes = c.args.bytes.now in
    let used = c.cut-front.result.used in
    let bad = subst (λ z. Holds limit z (take used bytes)) c.in-Refused.is c.cut-front.ensures.holds in
    let part = subst (λ z. EndsAt z used (length bytes)) c.in-Refused.is c.cut-front.ensures.ends in
    rw (← c.self.view_is) (λ odd. absurd (bad_alone limit bytes (omega (arith, c.self.invariant.0.small)) (four_refused limit bytes (omega (arith, c.self.invariant.0.small)) used part.1 bad).1 odd))
