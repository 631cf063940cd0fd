-- What a builder's calls add to what was taken before, whatever that was.
use Rattle.std.specs.Prelude.{ℕ, List, [], ◌∷◌, ◌++◌, Option}
use Rattle.std.specs.Io.KnownBytes.{Appends, append_known}
use Rattle.zk_talk.specs.declared.limits.Limits.{Limits}
use Rattle.zk_runs.specs.{declared.build_result.Built.Built, declared.builder.Halt.Halt, declared.builder.Scribe.Scribe, declared.builder.Builder.Builder, Building.head}
use Rattle.zk_runs.specs.Accepting.{Took, HasTaken, HaltsAt, HaltsIn, BuildsAll, BeginsAll}

-- these lines were taken, and the recording of their messages was written
abbrev pub HasLines : Limits → List (List ℕ) → Option (List ℕ) → Option (List ℕ) → Scribe → Type 0
HasLines limits lines before now s = Took limits lines before now s.lines s.ended s.speaker

-- these bytes were taken: whole lines, and the one that is begun
abbrev pub HasBytes : Limits → List ℕ → Option (List ℕ) → Option (List ℕ) → Builder → Type 0
HasBytes limits x before now b = HasTaken limits x before now b.begun.items b.scribe.lines b.scribe.ended b.scribe.speaker

-- nothing was taken, and the head is written
abbrev pub IsBegun : Limits → Builder → Type 0
IsBegun limits b = (before now : Option (List ℕ)) → Appends before now head → HasBytes limits [] before now b

-- ---- what is due stands behind what was written

-- the line is taken, and its piece is due
abbrev pub TakesLine : Scribe → Scribe → List ℕ → List ℕ → List ℕ → Type 0
TakesLine old new next due due_now = (limits : Limits) (lines : List (List ℕ)) (before written : Option (List ℕ)) →
    HasLines limits lines before (append_known written due) old → HasLines limits (lines ++ next ∷ []) before (append_known written due_now) new

-- the line is refused, or memory is
abbrev pub HaltsOn : Scribe → List ℕ → Halt → Type 0
HaltsOn old next halt = (limits : Limits) (lines : List (List ℕ)) (before now : Option (List ℕ)) →
    HasLines limits lines before now old → HaltsAt limits lines next before halt now

-- the bytes are taken, and the pieces of the lines that end in them are due
abbrev pub GathersIn : Builder → Builder → List ℕ → List ℕ → List ℕ → Type 0
GathersIn old new bytes due due_now = (limits : Limits) (x : List ℕ) (before written : Option (List ℕ)) →
    HasBytes limits x before (append_known written due) old → HasBytes limits (x ++ bytes) before (append_known written due_now) new

-- a line that ends in the bytes is refused, or memory is; the pieces of the lines before are due
abbrev pub StopsGathering : Builder → Builder → List ℕ → List ℕ → List ℕ → Halt → Type 0
StopsGathering old new bytes due due_now halt = (limits : Limits) (x : List ℕ) (before written : Option (List ℕ)) →
    HasBytes limits x before (append_known written due) old → HaltsIn limits (x ++ bytes) before halt new.scribe.lines (append_known written due_now)

-- ---- nothing is due

-- the bytes are taken, and the pieces of the lines that end in them are written
abbrev pub TakesIn : Builder → Builder → List ℕ → Option (List ℕ) → Option (List ℕ) → Type 0
TakesIn old new bytes was now = (limits : Limits) (x : List ℕ) (before : Option (List ℕ)) →
    HasBytes limits x before was old → HasBytes limits (x ++ bytes) before now new

-- a line that ends in the bytes is refused, or the run fails in them
abbrev pub HaltsWithin : Builder → Builder → List ℕ → Option (List ℕ) → Option (List ℕ) → Halt → Type 0
HaltsWithin old new bytes was now halt = (limits : Limits) (x : List ℕ) (before : Option (List ℕ)) →
    HasBytes limits x before was old → HaltsIn limits (x ++ bytes) before halt new.scribe.lines now

-- what was taken is all there is, and this is built of it
abbrev pub IsAnswered : Builder → Option (List ℕ) → Option (List ℕ) → Built → Type 0
IsAnswered old was now built = (limits : Limits) (x : List ℕ) (before : Option (List ℕ)) →
    HasBytes limits x before was old → BuildsAll limits x before now built

-- a front of the recording that is built of it is written
abbrev pub HasWrittenFirst : Builder → Option (List ℕ) → Option (List ℕ) → Type 0
HasWrittenFirst old was now = (limits : Limits) (x : List ℕ) (before : Option (List ℕ)) →
    HasBytes limits x before was old → BeginsAll limits x before now
