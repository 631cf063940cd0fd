-- What is true of every talk, whatever it was fed.
use Rattle.std.specs.Prelude.{◌≡◌, ◌≢◌, ℕ, ◌<◌, ◌≤◌, ◌^◌, Option, Some, None}
use Rattle.zk_jute.specs.declared.fault.Reason.TheVariants.{NoMemory}
use Rattle.zk_frames.specs.Framing.{IsBeginning}
use Rattle.zk_talk.specs.{declared.message.Fault.Fault, Streams.StreamState}

-- of a side with this limit: as long as there is no fault it is at the beginning of a frame
pub record IsSide (limit : ℕ) (fault : Option Fault) (side : StreamState) : Type 0 where
  pub begins : fault ≡ None → IsBeginning limit side.held
  pub same : side.limit ≡ limit
  pub size : side.size < 2 ^ 62
  pub count : side.count ≤ side.size

-- the talk's fault, if it has one, isn't that memory was refused
abbrev pub IsKnown : Option Fault → Type 0
IsKnown None = Unit {0}
IsKnown (Some f) = f.reason ≢ NoMemory
