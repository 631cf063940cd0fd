-- What a piece does to a side's frame.
use Rattle.std.specs.Prelude.{◌≡◌, ℕ, ◌<◌, ◌≤◌, ◌+◌, ◌^◌, List, ◌++◌, length, take}
use Rattle.zk_jute.specs.declared.fault.Reason.{Reason}
use Rattle.zk_jute.specs.declared.fault.Reason.TheVariants.{StreamEnd, LengthRange}
use Rattle.zk_frames.specs.Framing.{IsBeginning, IsFrame, IsBadLength}
use Rattle.zk_talk.specs.declared.stream.Advance.{Advance}
use Rattle.zk_talk.specs.declared.stream.Advance.TheVariants.{Within, Whole, Refused}

-- why nothing goes on after the first `used` bytes of the piece, and what is then held: a byte too many isn't taken
pub data IsStop (limit size : ℕ) (held piece : List ℕ) (used : ℕ) (reason : Reason) (after : List ℕ) : Type 0 where
  too_many : (k : ℕ) → used ≡ k + 1 → k < length piece → size + k + 1 ≡ 2 ^ 62 →
      IsBeginning limit (held ++ take k piece) → reason ≡ StreamEnd → after ≡ held ++ take k piece →
      IsStop limit size held piece used reason after
  out_of_range : 0 < used → used ≤ length piece → size + used < 2 ^ 62 → length held < 4 →
      IsBadLength limit (held ++ take used piece) → reason ≡ LengthRange → after ≡ held ++ take used piece →
      IsStop limit size held piece used reason after

-- what a piece does to a side with this limit, `size` bytes so far and this beginning, and what is held after it
abbrev pub IsAdvance : ℕ → ℕ → List ℕ → List ℕ → Advance → List ℕ → Type 0
IsAdvance limit size held piece Within after = (after ≡ held ++ piece) × IsBeginning limit (held ++ piece) × (size + length piece < 2 ^ 62)
IsAdvance limit size held piece (Whole used) after = (0 < used) × (used ≤ length piece) × (size + used < 2 ^ 62) ×
    (after ≡ held ++ take used piece) × IsFrame limit after
IsAdvance limit size held piece (Refused used reason) after = IsStop limit size held piece used reason after × (used ≤ length piece)
