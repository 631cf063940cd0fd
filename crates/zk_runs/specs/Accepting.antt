-- How far lines were taken, and what was written of their messages.
use Rattle.std.specs.Prelude.{◌≡◌, ℕ, Bool, true, false, List, [], ◌∷◌, ◌++◌, length, Option, Result, Ok, Err}
use Rattle.std.specs.{List.AllByRecursion, Io.KnownBytes.Appends}
use Rattle.zk_talk.specs.{declared.limits.Limits.Limits, Held.Message, declared.say.SayFault.SayFault, declared.say.SayFault.TheVariants.NoMemory as no_memory, Said.SpeakerState, Said.Says}
use Rattle.zk_items.specs.{declared.fault.LineFault.LineFault, declared.fault.LineReason.LineReason, declared.fault.LineReason.TheVariants.NoMemory}
use Rattle.zk_runs.specs.{declared.build_result.Built.Built, declared.builder.Halt.Halt}
use Rattle.zk_runs.specs.declared.build_result.Built.TheVariants.{Whole, LineRefused, SayRefused}
use Rattle.zk_runs.specs.declared.builder.Halt.TheVariants.{Refused, Fails}
use Rattle.zk_listings.specs.{declared.listing.RunFault.RunFault, Outcome.HasGrownIn}
use Rattle.zk_listings.specs.declared.listing.RunFault.TheVariants.{Read, Write, Memory}
use Rattle.zk_runs.specs.Building.{IsLine, fed, AreLines, AreAccepted, AreEnded, IsBuilt, recording_of}

-- no line was refused, and where the ending line came it was the last
abbrev pub AreGood : Bool → Limits → List (List ℕ) → List Message → Type 0
AreGood false limits lines messages = AreAccepted limits lines messages
AreGood true limits lines messages = AreEnded limits lines messages

-- what is known after some lines
pub record Knows (limits : Limits) (lines : List (List ℕ)) (messages : List Message) (count : ℕ) (ended : Bool) (speaker : SpeakerState) : Type 0 where
  pub good : AreGood ended limits lines messages
  pub says : Says speaker messages
  pub limits_are : speaker.limits ≡ limits
  pub count_is : count ≡ length lines

-- these lines were taken, and the recording of their messages was written
pub record Took (limits : Limits) (lines : List (List ℕ)) (before now : Option (List ℕ)) (count : ℕ) (ended : Bool) (speaker : SpeakerState) : Type 0 where
  pub messages : List Message
  pub knows : Knows limits lines messages count ended speaker
  pub written : Appends before now (recording_of messages)

-- the bytes x were read: whole lines, which were taken, and the one that is begun
pub record HasTaken (limits : Limits) (x : List ℕ) (before now : Option (List ℕ)) (begun : List ℕ) (count : ℕ)
    (ended : Bool) (speaker : SpeakerState) : Type 0 where
  pub lines : List (List ℕ)
  pub each : AllByRecursion IsLine lines
  pub begun_is : IsLine begun
  pub read : x ≡ fed lines ++ begun
  pub took : Took limits lines before now count ended speaker

-- ---- why no more lines are taken

abbrev pub IsRefused : Built → Type 0
IsRefused Whole = ⊥
IsRefused _ = Unit {0}

-- a line is refused
pub record Refuses (limits : Limits) (lines : List (List ℕ)) (before now : Option (List ℕ)) (built : Built) : Type 0 where
  pub messages : List Message
  pub refused : IsRefused built
  pub is : IsBuilt limits lines messages built
  pub written : Appends before now (recording_of messages)

-- these lines are accepted, and a front of the recording of their messages was written
pub record Begins (limits : Limits) (lines : List (List ℕ)) (before now : Option (List ℕ)) : Type 0 where
  pub messages : List Message
  pub accepted : AreAccepted limits lines messages
  pub written : HasGrownIn before now (recording_of messages)

-- memory is refused after these lines, the recording of whose messages was written
pub record StopsAfter (limits : Limits) (lines : List (List ℕ)) (before now : Option (List ℕ)) : Type 0 where
  pub messages : List Message
  pub accepted : AreAccepted limits lines messages
  pub written : Appends before now (recording_of messages)

-- after these lines the next one is refused, or memory is; nothing is written of it
abbrev pub HaltsAt : Limits → List (List ℕ) → List ℕ → Option (List ℕ) → Halt → Option (List ℕ) → Type 0
HaltsAt limits lines next before (Refused built) now = Refuses limits (lines ++ next ∷ []) before now built
HaltsAt limits lines next before (Fails fault) now = StopsAfter limits lines before now

-- a line in these bytes is refused
pub record RefusesIn (limits : Limits) (x : List ℕ) (before now : Option (List ℕ)) (built : Built) : Type 0 where
  pub lines : List (List ℕ)
  pub rest : List ℕ
  pub each : AllByRecursion IsLine lines
  pub read : x ≡ fed lines ++ rest
  pub refuses : Refuses limits lines before now built

pub record BeginsIn (limits : Limits) (x : List ℕ) (before now : Option (List ℕ)) : Type 0 where
  pub lines : List (List ℕ)
  pub rest : List ℕ
  pub each : AllByRecursion IsLine lines
  pub read : x ≡ fed lines ++ rest
  pub begins : Begins limits lines before now

-- memory is refused in these bytes, after as many lines, the recording of whose messages was written
pub record StopsIn (limits : Limits) (x : List ℕ) (before now : Option (List ℕ)) (count : ℕ) : Type 0 where
  pub lines : List (List ℕ)
  pub rest : List ℕ
  pub messages : List Message
  pub ended : Bool
  pub each : AllByRecursion IsLine lines
  pub read : x ≡ fed lines ++ rest
  pub good : AreGood ended limits lines messages
  pub count_is : count ≡ length lines
  pub written : Appends before now (recording_of messages)

-- a run stops in these bytes, after as many lines: at a line that is refused, or as it fails
abbrev pub HaltsIn : Limits → List ℕ → Option (List ℕ) → Halt → ℕ → Option (List ℕ) → Type 0
HaltsIn limits x before (Refused built) count now = RefusesIn limits x before now built
HaltsIn limits x before (Fails Memory) count now = StopsIn limits x before now count
HaltsIn limits x before (Fails _) count now = BeginsIn limits x before now

-- ---- at the end of the bytes

pub record BuildsAll (limits : Limits) (x : List ℕ) (before now : Option (List ℕ)) (built : Built) : Type 0 where
  pub lines : List (List ℕ)
  pub messages : List Message
  pub all : AreLines x lines
  pub is : IsBuilt limits lines messages built
  pub written : Appends before now (recording_of messages)

-- some lines are the first in the bytes, or all there are
pub data StandIn (x : List ℕ) (lines : List (List ℕ)) : Type 0 where
  some : (rest : List ℕ) → AllByRecursion IsLine lines → x ≡ fed lines ++ rest → StandIn x lines
  all : AreLines x lines → StandIn x lines

pub record BeginsAll (limits : Limits) (x : List ℕ) (before now : Option (List ℕ)) : Type 0 where
  pub lines : List (List ℕ)
  pub stand : StandIn x lines
  pub begins : Begins limits lines before now

-- ---- why, from the fault

abbrev pub line_halt_by : LineReason → ℕ → LineFault → Halt
line_halt_by NoMemory at fault = Fails Memory
line_halt_by _ at fault = Refused (LineRefused at fault)

-- the line of this number is refused, unless a growth was
abbrev pub line_halt : ℕ → LineFault → Halt
line_halt at fault = line_halt_by fault.reason at fault

abbrev pub say_halt : ℕ → SayFault → Halt
say_halt at no_memory = Fails Memory
say_halt at fault = Refused (SayRefused at fault)

-- what a run returns then
abbrev pub answer_of : Halt → Result Built RunFault
answer_of (Refused built) = Ok built
answer_of (Fails fault) = Err fault

-- if the run halts by no failed read or write
abbrev pub IfSpared : Halt → Type 0 → Type 0
IfSpared (Fails Read) P = Unit {0}
IfSpared (Fails Write) P = Unit {0}
IfSpared _ P = P
