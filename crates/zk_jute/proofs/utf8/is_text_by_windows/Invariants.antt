use Rattle.std.proofs.Common.{ℕ, ◌-◌, ◌+◌, ◌<◌, ◌≤◌, ◌∷◌, length}
use Rattle.simdutf8.specs.Steps.{AreZero}
use Rattle.zk_jute.specs.Follow.{FollowsAt}
use Rattle.zk_jute.proofs.utf8.is_text_by_windows.Given as goal

abbrev pub invariant-loop-at : goal.invariant-loop-at
invariant-loop-at l = (l.at ≤ length l.bytes) × (AreZero l.wrong → (i : ℕ) → i < l.at + 3 → FollowsAt (0 ∷ 0 ∷ 0 ∷ l.bytes) i)

abbrev pub decreases-loop-at : goal.decreases-loop-at
decreases-loop-at l = length l.bytes - l.at
