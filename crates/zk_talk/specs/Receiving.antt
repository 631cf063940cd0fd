-- What a piece does to a side.
use Rattle.std.specs.Prelude.{◌≡◌, ℕ, ◌+◌, List, length, Option, Some, None, Result, Ok, Err}
use Rattle.zk_jute.specs.declared.fault.Reason.{Reason}
use Rattle.zk_talk.specs.{declared.message.Side.Side, declared.message.Fault.Fault, Fault.fault_of, Streams.StreamState, Advance.IsAdvance}
use Rattle.zk_talk.specs.declared.stream.Advance.TheVariants as advances

-- all of the piece came, and the frame isn't whole
pub record CameWithin (old : StreamState) (piece : List ℕ) (new : StreamState) : Type 0 where
  pub held : List ℕ
  pub advance : IsAdvance old.limit old.size old.held piece advances.Within held
  pub is : new ≡ record old { held = held; size = old.size + length piece }

-- the first `used` bytes of the piece made the frame whole, and they aren't counted
pub record CameWhole (old : StreamState) (piece : List ℕ) (used : ℕ) (new : StreamState) : Type 0 where
  pub advance : IsAdvance old.limit old.size old.held piece (advances.Whole used) new.held
  pub stays : new ≡ record old { held = new.held }

-- a byte of the piece is refused, and this is the fault
pub record IsStopped (side : Side) (old : StreamState) (piece : List ℕ) (fault : Fault) (new : StreamState) : Type 0 where
  pub used : ℕ
  pub reason : Reason
  pub advance : IsAdvance old.limit old.size old.held piece (advances.Refused used reason) new.held
  pub stays : new ≡ record old { held = new.held }
  pub told : fault ≡ fault_of side old.count (old.size + used) 0 reason

-- the side and the talk's fault after the call
abbrev pub IsReceived : Side → StreamState → List ℕ → Option Fault → Result (Option ℕ) Fault → StreamState → Option Fault → Type 0
IsReceived side old piece kept (Ok None) new keeps = CameWithin old piece new × (keeps ≡ kept)
IsReceived side old piece kept (Ok (Some used)) new keeps = CameWhole old piece used new × (keeps ≡ kept)
IsReceived side old piece kept (Err fault) new keeps = IsStopped side old piece fault new × (keeps ≡ Some fault)
