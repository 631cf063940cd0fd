use Rattle.std.proofs.Common.{ap, arith, length}
use Rattle.zk_frames.proofs.Cuts.{length-frame}
use Rattle.zk_frames.proofs.frames.Frames.take_whole.Goals as goal

pub append-requires : goal.append-requires
append-requires c =
    let f = c.in_ok-used.ensures in
    let p = f.whole in
    let was = ap (λ h. length h.bytes) c.self.view_is in
    let limit = ap (λ h. h.limit) c.self.view_is in
    omega (arith, was, limit, ap length f.nothing, ap length p.1, length-frame p.0, p.2, c.self.invariant.1)
