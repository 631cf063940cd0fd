-- The headers within a multi request, as bytes.
use Rattle.std.specs.Prelude.{◌≡◌, ◌≢◌, slice_index, ℕ, ◌+◌, ◌-◌, ◌<◌, ◌≤◌, ◌⊎◌, List, [], ◌∷◌, length, take, drop, Option, Some, None, Result, Ok, Err}
use Rattle.zk_records.specs.declared.op.PartOp.{PartOp}
use Rattle.zk_records.specs.declared.op.PartOp.TheVariants as parts
use Rattle.zk_earliest.specs.{declared.sizes.Sizes.Sizes, Sizes.IsAmong, Sizes.plus, Stops.StopsAt}

abbrev pub part_mark : PartOp → List ℕ
part_mark parts.Create = 0 ∷ 0 ∷ 0 ∷ 1 ∷ 0 ∷ 255 ∷ 255 ∷ 255 ∷ 255 ∷ []
part_mark parts.Delete = 0 ∷ 0 ∷ 0 ∷ 2 ∷ 0 ∷ 255 ∷ 255 ∷ 255 ∷ 255 ∷ []
part_mark parts.SetData = 0 ∷ 0 ∷ 0 ∷ 5 ∷ 0 ∷ 255 ∷ 255 ∷ 255 ∷ 255 ∷ []
part_mark parts.Check = 0 ∷ 0 ∷ 0 ∷ 13 ∷ 0 ∷ 255 ∷ 255 ∷ 255 ∷ 255 ∷ []

abbrev pub end_mark : List ℕ
end_mark = 255 ∷ 255 ∷ 255 ∷ 255 ∷ 1 ∷ 255 ∷ 255 ∷ 255 ∷ 255 ∷ []

abbrev pub part_sizes : PartOp → Sizes
part_sizes parts.Create = record { least = 16; gap = Some 0 }
part_sizes parts.Delete = record { least = 8; gap = Some 0 }
part_sizes parts.SetData = record { least = 12; gap = Some 0 }
part_sizes parts.Check = record { least = 8; gap = Some 0 }

-- 9 bytes, or any number from 26 on
abbrev pub multi_sizes : Sizes
multi_sizes = record { least = 9; gap = Some 17 }

-- a header of a multi, and how many bytes may follow it
abbrev pub IsMark : List ℕ → Type 0
IsMark h = (h ≡ end_mark) ⊎ ((op : PartOp) × (h ≡ part_mark op))

abbrev pub MayMark : List ℕ → ℕ → Type 0
MayMark h n = ((h ≡ end_mark) × (n ≡ 0)) ⊎ ((op : PartOp) × (h ≡ part_mark op) × IsAmong (plus (part_sizes op) multi_sizes) n)

-- the first of nine bytes that is not the header's
abbrev pub IsDifference : List ℕ → List ℕ → Option ℕ → Type 0
IsDifference rest mark None = take 9 rest ≡ mark
IsDifference rest mark (Some k) = (k < 9) × (take k rest ≡ take k mark) × (slice_index rest k ≢ slice_index mark k)

-- the header at a place, if it is possible there; else the first byte that none has
abbrev pub IsMarkAt : List ℕ → ℕ → Result (Option PartOp) ℕ → Type 0
IsMarkAt src place (Ok None) = (take 9 (drop place src) ≡ end_mark) × (length src ≡ place + 9)
IsMarkAt src place (Ok (Some op)) = (take 9 (drop place src) ≡ part_mark op) × (place + 9 ≤ length src) ×
    IsAmong (plus (part_sizes op) multi_sizes) (length src - (place + 9))
IsMarkAt src place (Err stuck) = StopsAt IsMark MayMark src place stuck
