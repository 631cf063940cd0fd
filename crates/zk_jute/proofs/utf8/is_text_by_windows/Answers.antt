use Rattle.std.proofs.Common.{ℕ, ◌-◌, ◌<◌, ◌∷◌, length, arith}
use Rattle.std.proofs.lemmas.List.{take_rest}
use Rattle.zk_jute.specs.Follow.{FollowsAt}
use Rattle.zk_jute.proofs.Followed.{further, is_text}
use Rattle.zk_jute.proofs.utf8.is_text_by_windows.Goals as goal

pub loop-at-preserved : goal.loop-at-preserved
loop-at-preserved c =
    let at = c.loop-at.at in
    let bytes = c.args.bytes.now in (
      omega arith,
      λ none i h. let both = c.either-wrong.ensures none in
          further bytes at at i (omega arith) (c.loop-at.invariant.1 both.0) (rw (take_rest) at (c.next_faults.ensures both.1)) (omega arith),
    )

pub returns-then-is_closed : goal.returns-then-is_closed
returns-then-is_closed c = λ t.
    let bytes = c.args.bytes.now in
    let both = c.either.ensures (c.is_zero.ensures t) in
    let follows : (i : ℕ) → i < length bytes → FollowsAt (0 ∷ 0 ∷ 0 ∷ bytes) i =
    λ i h. further bytes c.loop-at.at (length bytes - 19) i (omega arith) (c.loop-at.invariant.1 both.0) (rw (take_rest) at (c.next_faults-then-is_closed.ensures both.1)) (omega arith) in
    is_text bytes (omega arith) follows (c.is_closed.ensures c.if-is_closed.true)
