-- What a passage does with a frame that is offered.
use Rattle.std.specs.Prelude.{◌≡◌, ◌≢◌, ℕ, ◌+◌, ◌⊎◌, Bool, true, false, List, [], length, Option, Some, None, Result, Ok, Err}
use Rattle.zk_frames.specs.Framing.{frame, IsFrame, IsLessOrMore}
use Rattle.zk_talk.specs.{declared.message.Side.Side, declared.message.Side.TheVariants.Client, declared.message.Fault.Fault, declared.stream.Advance.TheVariants.Whole, History.History, Held.Message, Fault.side_limit, Fault.fault_of}
use Rattle.zk_talk.specs.{Stands.TalkState, Stands.held_on, Streams.StreamState, Streams.passed, Receiving.IsStopped, Offered.IsNotOne, Offered.IsOffered}
use Rattle.zk_through.specs.{declared.through.Passed.Passed, declared.through.StepOutcome.StepOutcome, Came.Came}
use Rattle.zk_through.specs.declared.through.StepOutcome.TheVariants as outcome
use Rattle.zk_through.specs.Runs.{ThroughState, Runs, HasOutcome, IsRefused, IsFull, IsTold, IsNotTold, stream_on}

-- the side has begun no frame, and the bytes are one, within its limit
abbrev pub IsOneFrame : ThroughState → Side → List ℕ → Type 0
IsOneFrame t side bytes = ((stream_on side t).held ≡ []) × IsFrame (side_limit t.talk.limits side) bytes

-- the side has begun a frame, or the bytes are less than one, or more
abbrev pub IsNotOneFrame : ThroughState → Side → List ℕ → Type 0
IsNotOneFrame t side bytes = ((stream_on side t).held ≢ []) ⊎ IsLessOrMore (side_limit t.talk.limits side) bytes

-- a step over the piece, with the limits of the passage, refuses it with this fault
abbrev pub WouldRefuse : ThroughState → Side → List ℕ → Fault → Type 0
WouldRefuse old side piece fault = (new : ThroughState) × (new.talk.limits ≡ old.talk.limits) × IsRefused old side piece fault new

-- The frame is taken: all its bytes are used, as by a step. Or with it more would wait than may, and nothing is changed.
abbrev pub TakesFrame : ThroughState → Side → List ℕ → ℕ → StepOutcome → ThroughState → Type 0
TakesFrame old side bytes used outcome.Within new = ⊥
TakesFrame old side bytes used outcome.Full new = (used ≡ 0) × (side ≡ Client) × IsFull old bytes × (new ≡ old)
TakesFrame old side bytes used outcome new = (used ≡ length bytes) × HasOutcome old side bytes used outcome new

-- what an offer returns: what isn't one frame, and what is refused, changes nothing
abbrev pub Offers : ThroughState → Side → List ℕ → Result (Option Passed) Fault → ThroughState → Type 0
Offers old side bytes (Ok (Some s)) new = IsOneFrame old side bytes × TakesFrame old side bytes s.used s.outcome new
Offers old side bytes (Ok None) new = ((h : History) (c k : Came) (M : List Message) → Runs old h c k M → IsNotOneFrame old side bytes) × (new ≡ old)
Offers old side bytes (Err e) new = WouldRefuse old side bytes e × (new ≡ old)

-- ---- One side
-- what a side says of the bytes: they aren't one frame, or all of them are; or their length is refused
abbrev pub IsWholeFrame : Side → StreamState → List ℕ → Result (Option ℕ) Fault → Type 0
IsWholeFrame side s bytes (Ok None) = IsNotOne s bytes
IsWholeFrame side s bytes (Ok (Some used)) = IsOffered s bytes (Whole used)
IsWholeFrame side s bytes (Err e) = (IsNotOne s bytes → ⊥) × (after : StreamState) × IsStopped side s bytes e after

-- the same of the passage
abbrev pub Cuts : Side → ThroughState → List ℕ → Result (Option ℕ) Fault → Type 0
Cuts side t bytes (Ok None) = IsNotOneFrame t side bytes
Cuts side t bytes (Ok (Some used)) = (IsNotOneFrame t side bytes → ⊥) × IsOffered (stream_on side t) bytes (Whole used)
Cuts side t bytes (Err e) = (IsNotOneFrame t side bytes → ⊥) × WouldRefuse t side bytes e

-- The talk was told the frame, which is counted on its side. Or nothing is changed: the talk has begun one, or refuses it.
abbrev pub TellsNext : TalkState → StreamState → Side → List ℕ → ℕ → Result Bool Fault → TalkState → StreamState → Type 0
TellsNext old s side bytes used (Ok true) new s' = ((p : List ℕ) → bytes ≡ frame p → IsTold old side p new) × (new.limits ≡ old.limits) ×
    (s' ≡ passed (record s { kept = [] }) used)
TellsNext old s side bytes used (Ok false) new s' = (held_on side old ≢ []) × (new ≡ old) × (s' ≡ s)
TellsNext old s side bytes used (Err e) new s' = ((p : List ℕ) → bytes ≡ frame p → IsNotTold old side p e) ×
    (e ≡ fault_of side s.count (s.size + used) e.place e.reason) × (new ≡ old) × (s' ≡ s)
