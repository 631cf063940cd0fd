-- What a recording is: a head, whole pieces, and what comes after the last of them. It is of one of two formats.
use Rattle.std.specs.Prelude.{◌≡◌, ℕ, ◌+◌, ◌<◌, List, [], ◌∷◌, ◌++◌, length, Option, Some, true, false}
use Rattle.std.specs.{List.All, List.flat_map, Option.option_map}
use Rattle.zk_talk.specs.{declared.limits.Limits.Limits, declared.message.Side.Side, History.History, History.on}
use Rattle.zk_talk.specs.declared.message.Side.TheVariants.{Client, Server}
use Rattle.zk_recordings.specs.{declared.parts.Damage.Damage, declared.parts.Damage.TheVariants.Short, declared.parts.DamageAt.DamageAt, declared.parts.Format.Format}
use Rattle.zk_recordings.specs.{declared.parts.Format.TheVariants.Zkr1, declared.parts.Format.TheVariants.Zkr2, declared.parts.Part.Part, declared.parts.Part.TheVariants.Letters, declared.parts.Part.TheVariants.SideByte}
use Rattle.zk_recordings.specs.Parts.{letters, number, width, is_good, damage_bad, damage_cut, head_parts, piece_parts}
use Rattle.zk_recordings.specs.HeadLimits.{limits_or, profile_by}

-- ---- values of parts

pub record IsValue (part : Part) (value : List ℕ) : Type 0 where
  pub wide : length value ≡ width part
  pub good : is_good part value ≡ true

-- a good value for each part
abbrev pub AreValues : List Part → List (List ℕ) → Type 0
AreValues [] [] = Unit {0}
AreValues [] (v ∷ vs) = ⊥
AreValues (p ∷ ps) [] = ⊥
AreValues (p ∷ ps) (v ∷ vs) = IsValue p v × AreValues ps vs

-- values one after another, and then what follows them
abbrev pub spelled : List (List ℕ) → List ℕ → List ℕ
spelled [] rest = rest
spelled (v ∷ vs) rest = v ++ spelled vs rest

-- how parts end before all of them are there: within one, or by a value that is not good, whatever follows it
pub data End : Type 0 where
  Cut : (begun : List ℕ) → End
  Bad : (value more : List ℕ) → End

abbrev pub IsEnd : Part → End → Type 0
IsEnd part (Cut begun) = length begun < width part
IsEnd part (Bad value more) = (length value ≡ width part) × (is_good part value ≡ false)

abbrev pub end_bytes : End → List ℕ
end_bytes (Cut begun) = begun
end_bytes (Bad value more) = value ++ more

-- some good values, and the part in which they end
pub record Break : Type 0 where
  pub before : List (List ℕ)
  pub part : Part
  pub end : End

abbrev pub IsBreakIn : List Part → List (List ℕ) → Part → End → Type 0
IsBreakIn [] before part end = ⊥
IsBreakIn (p ∷ ps) [] part end = (part ≡ p) × IsEnd p end
IsBreakIn (p ∷ ps) (v ∷ vs) part end = IsValue p v × IsBreakIn ps vs part end

abbrev pub IsBreak : List Part → Break → Type 0
IsBreak parts b = IsBreakIn parts b.before b.part b.end

abbrev pub break_bytes : Break → List ℕ
break_bytes b = spelled b.before (end_bytes b.end)

-- ---- heads

pub data Head : Type 0 where
  First : Head
  Second : (client server waiting profile : List ℕ) → Head

abbrev pub format_of : Head → Format
format_of First = Zkr1
format_of (Second client server waiting profile) = Zkr2

abbrev pub head_values : Head → List (List ℕ)
head_values First = []
head_values (Second client server waiting profile) = client ∷ server ∷ waiting ∷ profile ∷ []

abbrev pub IsHead : Head → Type 0
IsHead head = AreValues (head_parts (format_of head)) (head_values head)

abbrev pub head_bytes : Head → List ℕ
head_bytes head = letters (format_of head) ++ spelled (head_values head) []

-- the limits of the conversation: the head's numbers where it has them, else the options
abbrev pub head_limits : Limits → Head → Limits
head_limits options First = options
head_limits options (Second client server waiting profile) = limits_or options (number client) (number server) (number waiting) (profile_by (number profile))

-- ---- pieces

-- the letters C and S
abbrev pub side_byte : Side → ℕ
side_byte Client = 67
side_byte Server = 83

-- the time 0
abbrev pub no_time : List ℕ
no_time = 0 ∷ 0 ∷ 0 ∷ 0 ∷ 0 ∷ 0 ∷ 0 ∷ 0 ∷ []

-- some bytes of one side, after their time and their number
pub record Piece : Type 0 where
  pub side : Side
  pub time : List ℕ
  pub size : List ℕ
  pub content : List ℕ

abbrev pub piece_values : Format → Piece → List (List ℕ)
piece_values Zkr1 p = (side_byte p.side ∷ []) ∷ p.size ∷ []
piece_values Zkr2 p = (side_byte p.side ∷ []) ∷ p.time ∷ p.size ∷ []

-- a piece that carries no time has the time 0
abbrev pub IsTimed : Format → Piece → Type 0
IsTimed Zkr1 p = p.time ≡ no_time
IsTimed Zkr2 p = Unit {0}

pub record IsBegun (format : Format) (p : Piece) : Type 0 where
  pub values : AreValues (piece_parts format) (piece_values format p)
  pub timed : IsTimed format p

pub record IsPiece (format : Format) (p : Piece) : Type 0 where
  pub begun : IsBegun format p
  pub sized : number p.size ≡ length p.content

pub record IsCut (format : Format) (p : Piece) : Type 0 where
  pub begun : IsBegun format p
  pub short : length p.content < number p.size

abbrev pub piece_bytes : Format → Piece → List ℕ
piece_bytes format p = spelled (piece_values format p) p.content

abbrev pub piece_history : Piece → History
piece_history p = on p.side p.content

-- ---- recordings

-- where fixed parts are
pub data Place : Type 0 where
  -- at the very beginning
  AtLetters : Place
  -- after the letters of a format
  InHead : (format : Format) → Place
  -- after a head and whole pieces
  InPieces : (head : Head) (pieces : List Piece) → Place

abbrev pub parts_at : Place → List Part
parts_at AtLetters = Letters ∷ []
parts_at (InHead format) = head_parts format
parts_at (InPieces head pieces) = piece_parts (format_of head)

pub record AreIn (head : Head) (pieces : List Piece) : Type 0 where
  pub headed : IsHead head
  pub each : All (IsPiece (format_of head)) pieces

abbrev pub IsPlace : Place → Type 0
IsPlace AtLetters = Unit {0}
IsPlace (InHead format) = Unit {0}
IsPlace (InPieces head pieces) = AreIn head pieces

-- the bytes before the place
abbrev pub front : Place → List ℕ
front AtLetters = []
front (InHead format) = letters format
front (InPieces head pieces) = head_bytes head ++ flat_map (piece_bytes (format_of head)) pieces

abbrev pub history_at : Place → History
history_at (InPieces head pieces) = flat_map piece_history pieces
history_at _ = []

abbrev pub limits_at : Limits → Place → Limits
limits_at options (InPieces head pieces) = head_limits options head
limits_at options _ = options

pub data Recording : Type 0 where
  -- the recording ends between two parts, within one, or by a value that is not good
  Breaks : (place : Place) (b : Break) → Recording
  -- the recording ends within a content
  Ends : (head : Head) (pieces : List Piece) (last : Piece) → Recording

-- where its last piece is, be it whole, cut or none
abbrev pub place_of : Recording → Place
place_of (Breaks place b) = place
place_of (Ends head pieces last) = InPieces head pieces

-- the bytes from there on
abbrev pub begun_of : Recording → List ℕ
begun_of (Breaks place b) = break_bytes b
begun_of (Ends head pieces last) = piece_bytes (format_of head) last

abbrev pub begun_history : Recording → History
begun_history (Breaks place b) = []
begun_history (Ends head pieces last) = piece_history last

pub record IsBrokenOff (place : Place) (b : Break) : Type 0 where
  pub stands : IsPlace place
  pub breaks : IsBreak (parts_at place) b

pub record IsCutOff (head : Head) (pieces : List Piece) (last : Piece) : Type 0 where
  pub stands : AreIn head pieces
  pub cut : IsCut (format_of head) last

abbrev pub IsRecording : Recording → Type 0
IsRecording (Breaks place b) = IsBrokenOff place b
IsRecording (Ends head pieces last) = IsCutOff head pieces last

abbrev pub bytes_of : Recording → List ℕ
bytes_of r = front (place_of r) ++ begun_of r

-- all content bytes before the damage, those of a cut piece included
abbrev pub history_of : Recording → History
history_of r = history_at (place_of r) ++ begun_history r

abbrev pub limits_of : Limits → Recording → Limits
limits_of options r = limits_at options (place_of r)

abbrev pub damage_at : ℕ → Damage → DamageAt
damage_at place damage = record { offset = place; reason = damage }

-- the damage of a part at a place
abbrev pub end_damage : ℕ → Part → End → Option DamageAt
end_damage place part (Cut begun) = option_map (damage_at place) (damage_cut part)
end_damage place part (Bad value more) = Some (damage_at place (damage_bad part))

abbrev pub behind : Place → List (List ℕ) → ℕ
behind place values = length (front place) + length (spelled values [])

abbrev pub damage_of : Recording → Option DamageAt
damage_of (Breaks place b) = end_damage (behind place b.before) b.part b.end
damage_of (Ends head pieces last) = Some (damage_at (behind (InPieces head pieces) (piece_values (format_of head) last)) Short)

-- these bytes are this recording
pub record Spells (bytes : List ℕ) (r : Recording) : Type 0 where
  pub sound : IsRecording r
  pub is : bytes ≡ bytes_of r

-- nothing comes after the last whole piece
abbrev pub nothing : Break
nothing = record { before = []; part = SideByte; end = Cut [] }
