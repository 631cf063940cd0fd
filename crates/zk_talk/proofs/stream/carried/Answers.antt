use Rattle.std.proofs.Common.{◌≡◌, ◌≤◌, ◌+◌, ◌-◌, ℕ, List, length, take, drop, ap, sym, ◌∙◌, arith}
use Rattle.std.proofs.lemmas.List.{drop-take, length-take-le}
use Rattle.zk_frames.specs.Framing.{frame, IsFrame}
use Rattle.zk_frames.proofs.Cuts.{length-frame}
use Rattle.zk_talk.proofs.Sides.{carried}
use Rattle.zk_talk.proofs.stream.carried.Goals as goal

headed : (piece : List ℕ) (used limit : ℕ) → used ≤ length piece → IsFrame limit (take used piece) → 4 ≤ used
headed piece used limit part f = omega (arith, length-take-le used piece part, ap length f.1, length-frame f.0)

pub slice_bounds-result-count : goal.slice_bounds-result-count
slice_bounds-result-count c = headed c.args.piece.now c.args.used c.requires.whole.0 c.requires.part c.requires.whole.1

pub slice_bounds-result-start : goal.slice_bounds-result-start
slice_bounds-result-start c = headed c.args.piece.now c.args.used c.requires.whole.0 c.requires.part c.requires.whole.1

pub returns : goal.returns
returns c =
    let piece = c.args.piece.now in
    let used = c.args.used in
    let f = c.requires.whole.1 in
    let four = headed piece used c.requires.whole.0 c.requires.part f in
    let all : 4 + (used - 4) ≡ used = omega (arith, four) in
    f.1 ∙ ap frame (carried (take used piece) f.0 f.1 ∙ ap (λ n. drop 4 (take n piece)) (sym all) ∙ drop-take 4 (used - 4) piece)
