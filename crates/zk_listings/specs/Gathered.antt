-- Bytes of one side that come after others.
use Rattle.std.specs.Prelude.{◌≡◌, ℕ, List, ◌++◌, length, Option}
use Rattle.std.specs.Io.KnownBytes.{Consumes}
use Rattle.zk_talk.specs.declared.message.Side.{Side}

pub record SideBytes : Type 0 where
  pub side : Side
  pub bytes : List ℕ

-- this many bytes were read after those before
abbrev pub ReadsAfter : Option (List ℕ) → Option (List ℕ) → List ℕ → ℕ → List ℕ → Type 0
ReadsAfter unread unread_now before count now = (more : List ℕ) × (length more ≡ count) × Consumes unread unread_now more × (now ≡ before ++ more)
