-- What a talk, or a side, does with a frame that is offered.
use Rattle.std.specs.Prelude.{◌≡◌, ◌≢◌, ℕ, ◌⊎◌, List, [], length}
use Rattle.zk_frames.specs.Framing.{IsFrame, IsLessOrMore}
use Rattle.zk_talk.specs.{declared.message.Side.Side, declared.message.Fault.Fault, declared.stream.Advance.Advance, Advance.IsAdvance, Streams.StreamState, Fault.side_limit, Stands.TalkState, Stands.held_on, Taking.IsRefused}
use Rattle.zk_talk.specs.declared.stream.Advance.TheVariants.{Within, Whole, Refused}

-- the side has begun no frame, and the bytes are one, within its limit
abbrev pub IsOneFrame : TalkState → Side → List ℕ → Type 0
IsOneFrame t side bytes = (held_on side t ≡ []) × IsFrame (side_limit t.limits side) bytes

-- the side has begun a frame, or the bytes are less than one, or more
abbrev pub IsNotOneFrame : TalkState → Side → List ℕ → Type 0
IsNotOneFrame t side bytes = (held_on side t ≢ []) ⊎ IsLessOrMore (side_limit t.limits side) bytes

-- a step over the piece, with the limits of the talk, refuses it with this fault
abbrev pub WouldRefuse : TalkState → Side → List ℕ → Fault → Type 0
WouldRefuse old side piece fault = (new : TalkState) × (new.limits ≡ old.limits) × IsRefused old side piece fault new

-- the same of one side
abbrev pub IsNotOne : StreamState → List ℕ → Type 0
IsNotOne s bytes = (s.held ≢ []) ⊎ IsLessOrMore s.limit bytes

-- what the side does with these bytes, if they are one frame, or begin with a length out of range
abbrev pub IsOffered : StreamState → List ℕ → Advance → Type 0
IsOffered s bytes Within = IsNotOne s bytes
IsOffered s bytes (Whole used) = (IsNotOne s bytes → ⊥) × (s.held ≡ []) × (used ≡ length bytes) × IsAdvance s.limit s.size s.held bytes (Whole used) bytes
IsOffered s bytes (Refused used reason) = (IsNotOne s bytes → ⊥) × (after : List ℕ) × IsAdvance s.limit s.size s.held bytes (Refused used reason) after
