-- What is read of a line, and appended as bytes.
use Rattle.std.specs.Prelude.{◌≡◌, ℕ, List, ◌++◌, Some, length}
use Rattle.zk_jute.specs.Item.{Item, bytes_of, HaveBytes}
use Rattle.zk_items.specs.{Form.Read, Many.many_at, Many.with_front, Leaf.symbol_at}

-- the bytes of a text, up to the sign after it, with those that were read before them
abbrev pub chars_after : List ℕ → List ℕ → Read (List ℕ)
chars_after front line = with_front front (many_at symbol_at (length line) line)

-- the items of the value that is read of the line have bytes, and these are appended
pub record Encoded {X : Type 0} (at : List ℕ → Read X) (items : X → List Item) (line rest old new : List ℕ) : Type 0 where
  pub value : X
  pub read : at line ≡ Some (value, rest)
  pub have : HaveBytes (items value)
  pub appended : new ≡ old ++ bytes_of (items value)
