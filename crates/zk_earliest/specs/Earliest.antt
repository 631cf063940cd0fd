-- The longest front of bytes that begins a spelling of just as many bytes.
use Rattle.std.specs.Prelude.{◌≡◌, ℕ, ◌<◌, ◌≤◌, List, length, take, Option, Some, None}
use Rattle.zk_jute.specs.Item.{Item, bytes_of}
use Rattle.zk_answers.specs.{Layouts.IsBodyOf, declared.layout.Layout.Layout}

-- the bytes of a value
abbrev pub Spells : (List Item → Type 0) → List ℕ → Type 0
Spells Value bytes = (items : List Item) × Value items × (bytes ≡ bytes_of items)

-- the first k of the bytes begin a spelling of just as many
abbrev pub Begins : (List ℕ → Type 0) → List ℕ → ℕ → Type 0
Begins Spelling bytes k = (whole : List ℕ) × Spelling whole × (length whole ≡ length bytes) × (take k whole ≡ take k bytes)

-- the most bytes that do; none if no spelling has that length
abbrev pub IsEarliest : (List ℕ → Type 0) → List ℕ → Option ℕ → Type 0
IsEarliest Spelling bytes None = (whole : List ℕ) → Spelling whole → length whole ≡ length bytes → ⊥
IsEarliest Spelling bytes (Some k) = (k ≤ length bytes) × Begins Spelling bytes k × ((m : ℕ) → k < m → m ≤ length bytes → Begins Spelling bytes m → ⊥)

abbrev pub IsEarliestOf : Layout → List ℕ → Option ℕ → Type 0
IsEarliestOf layout bytes answer = IsEarliest (Spells (IsBodyOf layout)) bytes answer
