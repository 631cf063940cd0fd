-- The parts of recordings whose width is fixed, row by row: how wide each is, which values are good, and which damage a
-- recording has that ends in it; and the formats, as lists of parts.
use Rattle.std.specs.Prelude.{ℕ, List, [], ◌∷◌, Option, None, Some, is_some, Bool, nat_le, nat_lt, ◌&&◌, ◌||◌, ◌^◌}
use Rattle.std.specs.{Int.from_be_bytes, Str.bytes_eq}
use Rattle.std.proofs.Common.{w32, w64}
use Rattle.zk_records.specs.Codes.{profile_of}
use Rattle.zk_recordings.specs.{declared.parts.Damage.Damage, declared.parts.Format.Format, declared.parts.Format.TheVariants.Zkr1, declared.parts.Format.TheVariants.Zkr2, declared.parts.Part.Part}
use Rattle.zk_recordings.specs.declared.parts.Damage.TheVariants.{BadHead, BadLimits, BadSide, BadTime, BadSize, Short}
use Rattle.zk_recordings.specs.declared.parts.Part.TheVariants.{Letters, ClientLimit, ServerLimit, Waiting, Profile, SideByte, Time, Size}

-- the letters ZKR1, and ZKR2
abbrev pub letters : Format → List ℕ
letters Zkr1 = 90 ∷ 75 ∷ 82 ∷ 49 ∷ []
letters Zkr2 = 90 ∷ 75 ∷ 82 ∷ 50 ∷ []

-- the number that four bytes spell, the highest first
unfoldable pub number : List ℕ → ℕ
number bytes = from_be_bytes w32 bytes

-- the number that eight bytes spell
unfoldable pub long_number : List ℕ → ℕ
long_number bytes = from_be_bytes w64 bytes

-- the number of a part's bytes
abbrev pub width : Part → ℕ
width SideByte = 1
width Time = 8
width _ = 4

abbrev pub is_within : ℕ → ℕ → ℕ → Bool
is_within least most n = nat_le least n && nat_le n most

-- whether a value of the part's width is good
abbrev pub is_good : Part → List ℕ → Bool
is_good Letters value = bytes_eq value (letters Zkr1) || bytes_eq value (letters Zkr2)
is_good ClientLimit value = is_within 64 16777216 (number value)
is_good ServerLimit value = is_within 64 16777216 (number value)
is_good Waiting value = is_within 1 1048576 (number value)
is_good Profile value = is_some (profile_of (number value))
is_good SideByte value = bytes_eq value (67 ∷ []) || bytes_eq value (83 ∷ [])
is_good Time value = nat_lt (long_number value) (2 ^ 63)
is_good Size value = is_within 1 16777220 (number value)

-- the damage of a value that is not good
abbrev pub damage_bad : Part → Damage
damage_bad Letters = BadHead
damage_bad SideByte = BadSide
damage_bad Time = BadTime
damage_bad Size = BadSize
damage_bad _ = BadLimits

-- the damage of a recording that ends before the part does; before a side's byte it may end
abbrev pub damage_cut : Part → Option Damage
damage_cut Letters = Some BadHead
damage_cut SideByte = None
damage_cut _ = Some Short

-- the parts of a head after its letters
abbrev pub head_parts : Format → List Part
head_parts Zkr1 = []
head_parts Zkr2 = ClientLimit ∷ ServerLimit ∷ Waiting ∷ Profile ∷ []

-- the parts of a piece before its content
abbrev pub piece_parts : Format → List Part
piece_parts Zkr1 = SideByte ∷ Size ∷ []
piece_parts Zkr2 = SideByte ∷ Time ∷ Size ∷ []
