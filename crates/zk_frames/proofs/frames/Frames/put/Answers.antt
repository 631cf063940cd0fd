use Rattle.std.proofs.Common.{ap, arith, length}
use Rattle.zk_frames.proofs.Cuts.{length-frame}
use Rattle.zk_frames.proofs.frames.Frames.put.Goals as goal

pub append-requires : goal.append-requires
append-requires c =
    let p = c.requires in
    let was = ap (λ h. length h.bytes) (c.self.view_is) in
    let limit = ap (λ h. h.limit) (c.self.view_is) in
    let now = ap (λ h. length h.bytes) (c.renew.ensures) in
    let same = ap (λ h. h.limit) (c.renew.ensures) in
    omega (arith, was, limit, now, same, ap length p.1, length-frame p.0, p.2, c.self.invariant.1)
