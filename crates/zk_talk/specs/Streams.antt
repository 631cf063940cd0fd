-- One side's bytes.
use Rattle.std.specs.Prelude.{◌≡◌, ℕ, ◌<◌, ◌≤◌, ◌+◌, ◌^◌, Bool, true, false, List, [], ◌++◌, length}
use Rattle.zk_frames.specs.Framing.{IsFrame}

-- The state of a side: its limit; what is held of a frame that isn't counted; the frame that is counted and kept; how many
-- frames were whole; how many bytes came before the frame that is whole now, or in all.
pub record StreamState : Type 0 where
  pub limit : ℕ
  pub held : List ℕ
  pub kept : List ℕ
  pub count : ℕ
  pub size : ℕ

abbrev pub held_where : Bool → List ℕ → List ℕ
held_where true bytes = []
held_where false bytes = bytes

abbrev pub kept_where : Bool → List ℕ → List ℕ
kept_where true bytes = bytes
kept_where false bytes = []

-- the frame is whole with the last `used` bytes, and isn't counted
pub record IsAtFrame (s : StreamState) (used : ℕ) : Type 0 where
  pub whole : IsFrame s.limit s.held
  pub limit : s.limit ≤ 16777216
  pub part : used ≤ length s.held
  pub size : s.size + used < 2 ^ 62
  pub count : s.count ≤ s.size

-- the last `used` bytes are not taken after all
abbrev pub TakenBack : StreamState → ℕ → StreamState → Type 0
TakenBack old used new = (before part : List ℕ) → old.held ≡ before ++ part → length part ≡ used → new ≡ record old { held = before }

-- the frame, whose last `used` bytes are new, is counted and dropped
abbrev pub passed : StreamState → ℕ → StreamState
passed s used = record s { held = []; count = s.count + 1; size = s.size + used }

-- the frame, whose last `used` bytes are new, is counted and kept
abbrev pub kept_now : StreamState → ℕ → StreamState
kept_now s used = record s { held = []; kept = s.held; count = s.count + 1; size = s.size + used }

-- these bytes are held of a frame that isn't counted
abbrev pub held_in : StreamState → List ℕ → StreamState
held_in s bytes = record s { held = bytes }
