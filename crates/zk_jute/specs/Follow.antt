-- UTF-8 as a rule on each byte and the three before it, at places of a text.
use Rattle.std.specs.Prelude.{ℕ, suc, ◌-◌, ◌<◌, List, length, slice_index}
use Rattle.simdutf8.specs.Steps.{IsClosed, Step}

-- the byte behind the three at the place may follow them
abbrev pub FollowsAt : List ℕ → ℕ → Type 0
FollowsAt bytes i = Step (slice_index bytes i) (slice_index bytes (suc i)) (slice_index bytes (suc (suc i))) (slice_index bytes (suc (suc (suc i))))

-- each byte of a block may follow those of the three other blocks in its lane
abbrev pub Follow : List ℕ → List ℕ → List ℕ → List ℕ → Type 0
Follow x y z block = (i : ℕ) → i < 16 → Step (slice_index x i) (slice_index y i) (slice_index z i) (slice_index block i)

-- no character is left open at the end
abbrev pub EndsClosed : List ℕ → Type 0
EndsClosed bytes = IsClosed (slice_index bytes (length bytes - 3)) (slice_index bytes (length bytes - 2)) (slice_index bytes (length bytes - 1))
