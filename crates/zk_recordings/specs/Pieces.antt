-- A piece that is whole at the front of a block, and what it does to a reader.
use Rattle.std.specs.Prelude.{◌≡◌, ℕ, ◌+◌, ◌≤◌, List, [], ◌∷◌, length, take, drop, None, Some, true}
use Rattle.zk_talk.specs.declared.message.Side.{Side}
use Rattle.zk_recordings.specs.{declared.heads.PieceHead.PieceHead, declared.heads.WholePiece.WholePiece, declared.parts.Format.Format, declared.parts.Part.TheVariants.Size, Reader.ReaderState, Parts.number, Parts.is_good}
use Rattle.zk_recordings.specs.{Recording.Recording, Recording.side_byte, Heads.IsTimeIn, Reading.IsAt, Reading.IsBetweenOf, Reading.IsNeverBetween, Reading.IsUndamaged, Reading.ReadsOn}

-- the block begins with this head of a piece, each part of it good
pub record IsHeadIn (format : Format) (block : List ℕ) (head : PieceHead) : Type 0 where
  pub at : ℕ
  pub named : take 1 block ≡ side_byte head.side ∷ []
  pub time : IsTimeIn format block at
  pub good : is_good Size (take 4 (drop at block)) ≡ true
  pub behind_size : head.used ≡ at + 4
  pub within : head.used ≤ length block
  pub value : head.size ≡ number (take 4 (drop at block))

-- the block begins with this piece, its content being as long as its head says
pub record IsPieceIn (format : Format) (block : List ℕ) (piece : WholePiece) : Type 0 where
  pub head : PieceHead
  pub begins : IsHeadIn format block head
  pub side : piece.side ≡ head.side
  pub behind_head : piece.head ≡ head.used
  pub behind_content : piece.used ≡ head.used + head.size
  pub within : piece.used ≤ length block

-- what two calls of `next` come to that take a head and then all the content after it, which is of this side: a head
-- or a piece of this format has ended before the first and after the second, but not between them, and no damage is found
pub record ReadsPiece (old : ReaderState) (head content : List ℕ) (side : Side) (new : ReaderState) : Type 0 where
  pub format : Format
  pub before : IsBetweenOf old format
  pub within : ReaderState
  pub begins : (x : List ℕ) (r : Recording) → IsAt old x r → ReadsOn within x r head None
  pub apart : IsNeverBetween within
  pub good : IsUndamaged within
  pub ends : (x : List ℕ) (r : Recording) → IsAt within x r → ReadsOn new x r content (Some side)
  pub after : IsBetweenOf new format
  pub still : IsUndamaged new
