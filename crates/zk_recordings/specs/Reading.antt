-- What a reader of recordings has read, by its stage.
use Rattle.std.specs.Prelude.{◌≡◌, ◌≢◌, ℕ, ◌+◌, ◌<◌, ◌≤◌, List, [], ◌∷◌, ◌++◌, length, take, map, Option, None, Some}
use Rattle.zk_talk.specs.{declared.limits.Limits.Limits, declared.message.Side.Side, History.History, History.on}
use Rattle.zk_recordings.specs.{declared.parts.Damage.TheVariants.Short, declared.parts.DamageAt.DamageAt, declared.parts.Format.Format, declared.parts.Format.TheVariants.Zkr1, declared.parts.Format.TheVariants.Zkr2}
use Rattle.zk_recordings.specs.{declared.parts.Part.Part, Reader.Content, Reader.Damaged, Reader.Fixed, Reader.ReaderStage, Reader.ReaderState, Parts.number, Parts.width}
use Rattle.zk_recordings.specs.declared.parts.Part.TheVariants.{Letters, ClientLimit, ServerLimit, Waiting, Profile, SideByte, Time, Size}
use Rattle.zk_recordings.specs.Recording.{Head, format_of, head_limits, Piece, piece_values, piece_bytes, piece_history, side_byte, no_time, Place, AtLetters, InHead, InPieces, Cut, Recording, Breaks, Ends, Spells, place_of, begun_of, begun_history, damage_of, behind, nothing}

-- the limits that a head has, else the options
abbrev pub chosen : Option Limits → Limits → Limits
chosen None options = options
chosen (Some limits) options = limits

-- the reader has this head
pub record HasHead (s : ReaderState) (head : Head) : Type 0 where
  pub format_is : s.format ≡ format_of head
  pub limits_are : (options : Limits) → chosen s.limits options ≡ head_limits options head

abbrev pub HasHeadAt : ReaderState → Place → Type 0
HasHeadAt s AtLetters = Unit {0}
HasHeadAt s (InHead format) = s.format ≡ format
HasHeadAt s (InPieces head pieces) = HasHead s head

-- the parts of a piece before its size
abbrev pub before_size : Format → Side → List ℕ → List (List ℕ)
before_size Zkr1 side time = (side_byte side ∷ []) ∷ []
before_size Zkr2 side time = (side_byte side ∷ []) ∷ time ∷ []

abbrev pub HasTime : Format → List ℕ → Type 0
HasTime Zkr1 time = time ≡ no_time
HasTime Zkr2 time = Unit {0}

pub record InPiece (place : Place) : Type 0 where
  pub head : Head
  pub pieces : List Piece
  pub is : place ≡ InPieces head pieces

pub record BeforeTime (s : ReaderState) (place : Place) (before : List (List ℕ)) : Type 0 where
  pub within : InPiece place
  pub second : format_of within.head ≡ Zkr2
  pub values : before ≡ (side_byte s.side ∷ []) ∷ []

pub record BeforeSize (s : ReaderState) (place : Place) (before : List (List ℕ)) : Type 0 where
  pub within : InPiece place
  pub time : List ℕ
  pub timed : HasTime (format_of within.head) time
  pub values : before ≡ before_size (format_of within.head) s.side time

-- what comes before a part, as far as the reader keeps it
abbrev pub Knows : ReaderState → Place → List (List ℕ) → Part → Type 0
Knows s place before Letters = (place ≡ AtLetters) × (before ≡ [])
Knows s place before ClientLimit = (place ≡ InHead Zkr2) × (map number before ≡ [])
Knows s place before ServerLimit = (place ≡ InHead Zkr2) × (map number before ≡ s.client ∷ [])
Knows s place before Waiting = (place ≡ InHead Zkr2) × (map number before ≡ s.client ∷ s.server ∷ [])
Knows s place before Profile = (place ≡ InHead Zkr2) × (map number before ≡ s.client ∷ s.server ∷ s.waiting ∷ [])
Knows s place before SideByte = InPiece place × (before ≡ [])
Knows s place before Time = BeforeTime s place before
Knows s place before Size = BeforeSize s place before

pub record AtPart (s : ReaderState) (part : Part) (begun : List ℕ) (r : Recording) : Type 0 where
  pub place : Place
  pub before : List (List ℕ)
  pub is : r ≡ Breaks place (record { before = before; part = part; end = Cut begun })
  pub at : s.at ≡ behind place before
  pub knows : Knows s place before part

pub record AtContent (s : ReaderState) (got : ℕ) (r : Recording) : Type 0 where
  pub head : Head
  pub pieces : List Piece
  pub cut : Piece
  pub is : r ≡ Ends head pieces cut
  pub at : s.at ≡ behind (InPieces head pieces) (piece_values (format_of head) cut)
  pub side : cut.side ≡ s.side
  pub size : number cut.size ≡ s.size
  pub count : length cut.content ≡ got

-- whatever follows them, the bytes have this damage
pub record IsDecidedBy (d : DamageAt) (x : List ℕ) (r : Recording) : Type 0 where
  pub damage : damage_of r ≡ Some d
  pub decided : d.reason ≢ Short
  pub head_read : 4 ≤ length x

pub record AtFixed (s : ReaderState) (part : Part) (bytes : List ℕ) (got : ℕ) (r : Recording) : Type 0 where
  pub eight : length bytes ≡ 8
  pub part_at : AtPart s part (take got bytes) r

abbrev pub AtStage : ReaderState → ReaderStage → List ℕ → Recording → Type 0
AtStage s (Fixed part bytes got) x r = AtFixed s part bytes got r
AtStage s (Content got) x r = AtContent s got r
AtStage s (Damaged d) x r = IsDecidedBy d x r

-- what the reader has read is this recording
pub record IsAt (s : ReaderState) (x : List ℕ) (r : Recording) : Type 0 where
  pub spells : Spells x r
  pub has : HasHeadAt s (place_of r)
  pub stands : AtStage s s.stage x r

pub record InRange (size got : ℕ) : Type 0 where
  pub left : got < size
  pub most : size ≤ 16777220

abbrev pub IsSoundAt : ReaderState → ReaderStage → Type 0
IsSoundAt s (Fixed part bytes got) = (got < width part) × (length bytes ≡ 8)
IsSoundAt s (Content got) = InRange s.size got
IsSoundAt s (Damaged d) = Unit {0}

abbrev pub IsSound : ReaderState → Type 0
IsSound s = IsSoundAt s s.stage

abbrev pub place_by : ReaderState → ReaderStage → ℕ
place_by s (Fixed part bytes got) = s.at + got
place_by s (Content got) = s.at + got
place_by s (Damaged d) = 0

-- the number of bytes that were read, until a damage
abbrev pub place_in : ReaderState → ℕ
place_in s = place_by s s.stage

-- a part begins after one of `wide` bytes
abbrev pub then_at : ReaderState → Part → ℕ → ReaderState
then_at s part wide = record s { at = s.at + wide; stage = Fixed part no_time 0 }

abbrev pub content_of : Option Side → List ℕ → History
content_of None bytes = []
content_of (Some side) bytes = on side bytes

-- ---- from one recording to a longer one

abbrev pub IsHeaded : Place → Type 0
IsHeaded (InPieces head pieces) = Unit {0}
IsHeaded _ = ⊥

-- the format of what comes after a head
abbrev pub format_at : Place → Option Format
format_at (InPieces head pieces) = Some (format_of head)
format_at _ = None

-- a head is whole, and no piece is begun after it
abbrev pub IsBetween : Recording → Type 0
IsBetween r = (head : Head) × (pieces : List Piece) × (r ≡ Breaks (InPieces head pieces) nothing)

-- content comes after a head
abbrev pub MayHold : Option Side → Place → Type 0
MayHold None place = Unit {0}
MayHold (Some side) place = IsHeaded place

-- no piece comes before the place
abbrev pub IsBare : Place → Type 0
IsBare (InPieces head pieces) = pieces ≡ []
IsBare _ = Unit {0}

-- bytes after a recording, content of a side or of none, make it this one
pub data GoesOn (old : Recording) (used : List ℕ) (side : Option Side) (new : Recording) : Type 0 where
  in_head : (IsHeaded (place_of old) → ⊥) → IsBare (place_of new) → begun_of new ≡ [] → begun_history new ≡ [] → side ≡ None → GoesOn old used side new
  within : place_of new ≡ place_of old → begun_of new ≡ begun_of old ++ used → begun_history new ≡ begun_history old ++ content_of side used →
      MayHold side (place_of old) → GoesOn old used side new
  ends : (head : Head) (pieces : List Piece) (piece : Piece) → place_of old ≡ InPieces head pieces →
      new ≡ Breaks (InPieces head (pieces ++ piece ∷ [])) nothing →
      piece_bytes (format_of head) piece ≡ begun_of old ++ used → piece_history piece ≡ begun_history old ++ content_of side used → GoesOn old used side new

-- the reader, having read this recording, reads on
pub record ReadsOn (s : ReaderState) (x : List ℕ) (old : Recording) (used : List ℕ) (side : Option Side) : Type 0 where
  pub new : Recording
  pub is : IsAt s (x ++ used) new
  pub goes_on : GoesOn old used side new

-- whatever was read before, the last of these bytes makes the part whole, and this is the state after it
abbrev pub Accepts : ReaderState → Part → List ℕ → ReaderState → Type 0
Accepts s part bytes new = (x begun : List ℕ) (byte : ℕ) (r : Recording) →
    begun ++ byte ∷ [] ≡ bytes → Spells x r → HasHeadAt s (place_of r) → AtPart s part begun r → ReadsOn new x r (byte ∷ []) None

-- whatever was read before a part and of it, these bytes are read on, and this is the state after them
abbrev pub GoesOnFrom : ReaderState → Part → List ℕ → ℕ → List ℕ → ReaderState → Type 0
GoesOnFrom s part bytes got used new = (x : List ℕ) (r : Recording) → Spells x r → HasHeadAt s (place_of r) →
    AtFixed s part bytes got r → ReadsOn new x r used None

-- a head or a whole piece of this format has just ended; or none has
abbrev pub IsBetweenOf : ReaderState → Format → Type 0
IsBetweenOf s format = (x : List ℕ) (r : Recording) → IsAt s x r → IsBetween r × (format_at (place_of r) ≡ Some format)

abbrev pub IsNeverBetween : ReaderState → Type 0
IsNeverBetween s = (x : List ℕ) (r : Recording) → IsAt s x r → IsBetween r → ⊥

-- the reader is within a content of this side, of which this many bytes are to come; or within none
pub record IsInContent (s : ReaderState) (side : Side) (left : ℕ) : Type 0 where
  pub got : ℕ
  pub stage : s.stage ≡ Content got
  pub side_is : s.side ≡ side
  pub size_is : got + left ≡ s.size

abbrev pub IsInNoContent : ReaderState → Type 0
IsInNoContent s = (got : ℕ) → s.stage ≡ Content got → ⊥

-- whatever was read before, these bytes are content of the side, and this is the state after them
abbrev pub ReadsContent : ReaderState → Side → List ℕ → ReaderState → Type 0
ReadsContent old side bytes new = (x : List ℕ) (r : Recording) → IsAt old x r → ReadsOn new x r bytes (Some side)

-- what was read has this damage, whatever follows; or it has none
abbrev pub IsDamagedBy : ReaderState → DamageAt → Type 0
IsDamagedBy s d = (x : List ℕ) (r : Recording) → IsAt s x r → IsDecidedBy d x r

abbrev pub IsUndamaged : ReaderState → Type 0
IsUndamaged s = (x : List ℕ) (r : Recording) (d : DamageAt) → IsAt s x r → IsDecidedBy d x r → ⊥
