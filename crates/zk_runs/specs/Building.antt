-- What `build` makes of lines: the recording of their messages, up to the first line that is refused.
use Rattle.std.specs.Prelude.{◌≡◌, ◌≢◌, ℕ, ◌+◌, ◌^◌, ◌<◌, List, [], ◌∷◌, ◌++◌, length, map, Option}
use Rattle.std.specs.{List.flat_map, List.AllByRecursion, Int.w32, Int.to_be_bytes}
use Rattle.std.specs.Io.KnownBytes.{Consumes, IsAtEnd, Appends}
use Rattle.zk_frames.specs.Framing.{frame}
use Rattle.zk_talk.specs.{declared.limits.Limits.Limits, Held.Message, declared.message.Side.Side, declared.message.Ending.TheVariants.Whole as whole, declared.say.SayFault.SayFault, Ending.unanswered}
use Rattle.zk_talk.specs.Said.{AreSaid, IsSayFault, conversation_of, payload_of, side_of}
use Rattle.zk_items.specs.declared.fault.LineFault.{LineFault}
use Rattle.zk_items.specs.declared.fault.LineReason.TheVariants.{Ending, NoMemory}
use Rattle.zk_lines.specs.{Lines.line, Lines.Fits, Endings.ending_text}
use Rattle.zk_runs.specs.declared.build_result.Built.{Built}
use Rattle.zk_runs.specs.declared.build_result.Built.TheVariants.{Whole, LineRefused, SayRefused}
use Rattle.zk_recordings.specs.{declared.parts.Format.TheVariants.Zkr1, Parts.letters}
use Rattle.zk_recordings.specs.Recording.{First, Piece, piece_bytes, no_time, InPieces, front}
use Rattle.zk_listings.specs.Outcome.{HasGrownIn}

-- ---- lines

-- no line feed is among the bytes
abbrev pub IsLine : List ℕ → Type 0
IsLine bytes = AllByRecursion (λ b. b ≢ 10) bytes

abbrev pub with_feed : List ℕ → List ℕ
with_feed bytes = bytes ++ 10 ∷ []

-- these lines, each with its line feed
abbrev pub fed : List (List ℕ) → List ℕ
fed lines = flat_map with_feed lines

-- the bytes are these lines; the last of them may lack its line feed if it is not empty
pub data AreLines (x : List ℕ) (lines : List (List ℕ)) : Type 0 where
  all_fed : AllByRecursion IsLine lines → x ≡ fed lines → AreLines x lines
  last_unfed : (before : List (List ℕ)) (last : List ℕ) → AllByRecursion IsLine before → IsLine last → last ≢ [] →
      lines ≡ before ++ last ∷ [] → x ≡ fed before ++ last → AreLines x lines

-- these lines are the first in the bytes, with a line feed after each, or they are all there is at the end
pub data StandFirst (x : List ℕ) (unread : Option (List ℕ)) (lines : List (List ℕ)) : Type 0 where
  fed_in : (rest : List ℕ) → AllByRecursion IsLine lines → x ≡ fed lines ++ rest → StandFirst x unread lines
  all_of : IsAtEnd unread → AreLines x lines → StandFirst x unread lines

-- the bytes are these lines, with a line feed after each, and the one that is begun
pub record AreBegun (x : List ℕ) (lines : List (List ℕ)) : Type 0 where
  pub rest : List ℕ
  pub splits : x ≡ fed lines ++ rest
  pub each : AllByRecursion IsLine lines
  pub begun : IsLine rest

-- ---- recordings

-- a piece of these bytes that came at no time
abbrev pub untimed : Side → List ℕ → Piece
untimed side content = record { side = side; time = no_time; size = to_be_bytes w32 (length content); content = content }

-- a message's frame as a piece
abbrev pub piece_of : Message → Piece
piece_of m = untimed (side_of m) (frame (payload_of m))

-- what a recording that is built begins with
abbrev pub head : List ℕ
head = letters Zkr1

abbrev pub built_bytes : Piece → List ℕ
built_bytes p = piece_bytes Zkr1 p

-- behind these bytes is now the piece, if four bytes hold its number
abbrev pub PutsPiece : Side → List ℕ → List ℕ → List ℕ → Type 0
PutsPiece side content before now = length content < 2 ^ 32 → now ≡ before ++ built_bytes (untimed side content)

-- the head, and a piece for each message, in order
abbrev pub recording_of : List Message → List ℕ
recording_of messages = front (InPieces First (map piece_of messages))

-- ---- what is built

-- the ending line that is due after these messages
abbrev pub due_ending : List Message → List ℕ
due_ending messages = ending_text (whole (unanswered (conversation_of messages)))

abbrev pub IsDotted : List ℕ → Type 0
IsDotted [] = ⊥
IsDotted (b ∷ rest) = b ≡ 46

-- the lines are those of messages that may be said one after another
pub record AreAccepted (limits : Limits) (lines : List (List ℕ)) (messages : List Message) : Type 0 where
  pub are : lines ≡ map line messages
  pub fit : AllByRecursion Fits messages
  pub said : AreSaid limits messages

-- the lines are those of messages that may be said one after another, and then the ending line that is due
pub record AreEnded (limits : Limits) (lines : List (List ℕ)) (messages : List Message) : Type 0 where
  pub before : List (List ℕ)
  pub ends : lines ≡ before ++ due_ending messages ∷ []
  pub accepted : AreAccepted limits before messages

-- the lines before this one are accepted
pub record IsNextLine (limits : Limits) (lines : List (List ℕ)) (messages : List Message) (next : List ℕ) : Type 0 where
  pub before : List (List ℕ)
  pub after : List (List ℕ)
  pub stands : lines ≡ before ++ next ∷ after
  pub accepted : AreAccepted limits before messages

-- the lines before this one end in the ending line
pub record IsBehindEnding (limits : Limits) (lines : List (List ℕ)) (messages : List Message) (next : List ℕ) : Type 0 where
  pub before : List (List ℕ)
  pub after : List (List ℕ)
  pub stands : lines ≡ before ++ next ∷ after
  pub ended : AreEnded limits before messages

abbrev pub ending_fault : LineFault
ending_fault = record { column = 1; reason = Ending }

-- the messages of the lines before the first that is refused, or of all lines, and the result
pub data IsBuilt (limits : Limits) (lines : List (List ℕ)) (messages : List Message) (built : Built) : Type 0 where
  without_ending : AreAccepted limits lines messages → built ≡ Whole → IsBuilt limits lines messages built
  with_ending : AreEnded limits lines messages → built ≡ Whole → IsBuilt limits lines messages built
  -- whatever the line after the ending line holds
  behind_ending : (next : List ℕ) → IsBehindEnding limits lines messages next →
      built ≡ LineRefused (length messages + 2) ending_fault → IsBuilt limits lines messages built
  other_ending : (next : List ℕ) → IsNextLine limits lines messages next → IsDotted next → next ≢ due_ending messages →
      built ≡ LineRefused (length messages + 1) ending_fault → IsBuilt limits lines messages built
  no_message : (next : List ℕ) → IsNextLine limits lines messages next → (IsDotted next → ⊥) → ((m : Message) → Fits m → next ≢ line m) →
      (fault : LineFault) → fault.reason ≢ NoMemory → built ≡ LineRefused (length messages + 1) fault → IsBuilt limits lines messages built
  not_said : (m : Message) → Fits m → IsNextLine limits lines messages (line m) → (fault : SayFault) → IsSayFault limits messages m fault →
      built ≡ SayRefused (length messages + 1) fault → IsBuilt limits lines messages built

-- which lines were judged: all there are if none is refused, else some of the first
abbrev pub Covers : Built → List ℕ → Option (List ℕ) → List (List ℕ) → Type 0
Covers Whole x unread lines = IsAtEnd unread × AreLines x lines
Covers _ x unread lines = StandFirst x unread lines

-- ---- what a run has read and written when it returns

-- how the bytes that were read are lines, what the lines are with their messages, and what was written of the recording of these
pub record HasRecorded (unread unread_now contents contents_now : Option (List ℕ)) (Stand : List ℕ → List (List ℕ) → Type 0)
    (Are : List (List ℕ) → List Message → Type 0) (Written : Option (List ℕ) → Option (List ℕ) → List ℕ → Type 0) : Type 0 where
  pub bytes : List ℕ
  pub lines : List (List ℕ)
  pub messages : List Message
  pub consumed : Consumes unread unread_now bytes
  pub stand : Stand bytes lines
  pub are : Are lines messages
  pub written : Written contents contents_now (recording_of messages)

-- the recording of the messages of the lines before the one that is refused, or of all lines
abbrev pub HasBuilt : Limits → Option (List ℕ) → Option (List ℕ) → Option (List ℕ) → Option (List ℕ) → Built → Type 0
HasBuilt limits unread unread_now contents contents_now built = HasRecorded unread unread_now contents contents_now
    (λ bytes lines. Covers built bytes unread_now lines) (λ lines messages. IsBuilt limits lines messages built) Appends

-- none of the whole lines that were read is refused, and the recording of their messages was written
abbrev pub HasBuiltSoFar : Limits → Option (List ℕ) → Option (List ℕ) → Option (List ℕ) → Option (List ℕ) → Type 0
HasBuiltSoFar limits unread unread_now contents contents_now = HasRecorded unread unread_now contents contents_now
    AreBegun (λ lines messages. IsBuilt limits lines messages Whole) Appends

-- a front was written of the recording of the messages of some of the first lines
abbrev pub HasBegunBuilding : Limits → Option (List ℕ) → Option (List ℕ) → Option (List ℕ) → Option (List ℕ) → Type 0
HasBegunBuilding limits unread unread_now contents contents_now = HasRecorded unread unread_now contents contents_now
    (λ bytes lines. StandFirst bytes unread_now lines) (AreAccepted limits) HasGrownIn
