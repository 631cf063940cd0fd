use Rattle.std.proofs.Common.{sym, subst, refl, arith}
use Rattle.zk_frames.specs.{Held.IsWhole, FramePart.Holds}
use Rattle.zk_frames.proofs.Taking.{standing_whole}
use Rattle.zk_frames.proofs.frames.Frames.is_whole.Goals as goal

pub returns-in-Whole : goal.returns-in-Whole
returns-in-Whole c =
    let x = c.self.inside in
    (λ _. subst IsWhole c.self.view_is (subst (λ z. Holds x.limit z x.bytes.items) c.in-Whole.is c.self.invariant.0.holds), λ _. refl)

pub returns-in_default : goal.returns-in_default
returns-in_default c =
    let x = c.self.inside in
    (λ t. absurd cc, λ w. absurd (c.in_default.not-Whole (standing_whole x.limit x.standing x.bytes.items (omega (arith, c.self.invariant.0.small)) c.self.invariant.0.holds (subst IsWhole (sym c.self.view_is) w))))
