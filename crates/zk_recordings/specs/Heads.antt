-- The head of a piece, where it is whole at the front of a block.
use Rattle.std.specs.Prelude.{◌≡◌, ℕ, ◌+◌, ◌≤◌, List, [], ◌∷◌, length, take, drop, true}
use Rattle.zk_talk.specs.declared.message.Side.{Side}
use Rattle.zk_recordings.specs.{declared.parts.Format.Format, declared.parts.Format.TheVariants.Zkr1, declared.parts.Format.TheVariants.Zkr2, declared.parts.Part.TheVariants.Time, declared.parts.Part.TheVariants.Size}
use Rattle.zk_recordings.specs.{Reader.Content, Reader.ReaderState, Parts.number, Parts.is_good, Recording.side_byte}

-- a good time comes after a side's byte, and the size after it; the first format has no time
abbrev pub IsTimeIn : Format → List ℕ → ℕ → Type 0
IsTimeIn Zkr1 block at = at ≡ 1
IsTimeIn Zkr2 block at = (at ≡ 9) × (is_good Time (take 8 (drop 1 block)) ≡ true)

-- the block begins with the whole head of a piece, each part of it good, and this is the state after it
pub record PassesHead (s : ReaderState) (block : List ℕ) (used : ℕ) (new : ReaderState) : Type 0 where
  pub side : Side
  pub at : ℕ
  pub named : take 1 block ≡ side_byte side ∷ []
  pub time : IsTimeIn s.format block at
  pub size : is_good Size (take 4 (drop at block)) ≡ true
  pub behind_size : used ≡ at + 4
  pub within : used ≤ length block
  pub is : new ≡ record s { at = s.at + used; side = side; size = number (take 4 (drop at block)); stage = Content 0 }
