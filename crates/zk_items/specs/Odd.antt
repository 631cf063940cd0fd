-- The bytes of a text that need an escape, and the escape of a byte, plain or not.
use Rattle.std.specs.Prelude.{ℕ, ◌/◌, ◌%◌, List, [], ◌∷◌, Bool, not}
use Rattle.zk_items.specs.Leaf.{hex_digit, is_plain}

abbrev pub is_odd : ℕ → Bool
is_odd b = not (is_plain b)

-- `\` and its two digits
abbrev pub escape : ℕ → List ℕ
escape b = 92 ∷ hex_digit (b / 16) ∷ hex_digit (b % 16) ∷ []
