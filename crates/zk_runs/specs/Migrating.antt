-- What `migrate` makes of a recording: the ZKR2 recording of its whole pieces.
use Rattle.std.specs.Prelude.{◌≡◌, ℕ, ◌⊎◌, List, [], ◌∷◌, ◌++◌, take, drop, Bool, true, false, Option, None, Some}
use Rattle.std.specs.{Int.w32, Int.to_be_bytes, Io.KnownBytes.IsAtEnd, Io.KnownBytes.Appends}
use Rattle.zk_records.specs.Codes.{profile_number}
use Rattle.zk_talk.specs.{declared.limits.Limits.Limits, Held.Message}
use Rattle.zk_listings.specs.{declared.listing.Listing.Listing, declared.summary.Summary.Summary, Lines.text_of, Lines.last_line, Outcome.Reads, Outcome.IsOutcome, Outcome.IsBroken, Outcome.HasGrownIn}
use Rattle.zk_runs.specs.{declared.migrate.Migrated.Migrated, declared.migrate.Migrator.Migrator}
use Rattle.zk_runs.specs.declared.migrate.Migrated.TheVariants.{Whole, Damaged}
use Rattle.zk_recordings.specs.{declared.parts.DamageAt.DamageAt, declared.parts.Format.Format, declared.parts.Format.TheVariants.Zkr1, declared.parts.Format.TheVariants.Zkr2, Reader.ReaderState}
use Rattle.zk_recordings.specs.Recording.{Head, First, Second, format_of, head_bytes, no_time, Place, InPieces, front, Recording, Spells, place_of, begun_of, damage_of}
use Rattle.zk_recordings.specs.Reading.{IsAt, IsDecidedBy, IsHeaded}

-- the head of the second format that has these limits
abbrev pub head_of : Limits → Head
head_of limits = Second (to_be_bytes w32 limits.client) (to_be_bytes w32 limits.server) (to_be_bytes w32 limits.waiting)
    (to_be_bytes w32 (profile_number limits.profile))

-- a head that has limits stays; the other one gets those of the options
abbrev pub second : Limits → Head → Head
second options First = head_of options
second options (Second client server waiting profile) = Second client server waiting profile

abbrev pub migrated_at : Limits → Place → List ℕ
migrated_at options (InPieces head pieces) = front (InPieces (second options head) pieces)
migrated_at options _ = []

-- nothing if the head is damaged, else the head and the whole pieces, each with its time
abbrev pub migrated : Limits → Recording → List ℕ
migrated options r = migrated_at options (place_of r)

-- what a run returns by the damage that was found
abbrev pub answered : Option DamageAt → Migrated
answered None = Whole
answered (Some d) = Damaged d.offset d.reason

-- ---- what a run has read and written when it returns

-- what was read was migrated: all there is, or what is damaged whatever follows
pub record HasMigrated (options : Limits) (unread unread_now contents contents_now : Option (List ℕ)) (answer : Migrated) : Type 0 where
  pub bytes : List ℕ
  pub recording : Recording
  pub reads : Reads unread unread_now bytes recording
  pub answer_is : answer ≡ answered (damage_of recording)
  pub written : Appends contents contents_now (migrated options recording)
  pub enough : IsAtEnd unread_now ⊎ IsBroken bytes recording

-- what was read was migrated as far as its pieces are whole, and it has no damage yet that stays whatever follows
pub record HasMigratedSoFar (options : Limits) (unread unread_now contents contents_now : Option (List ℕ)) : Type 0 where
  pub bytes : List ℕ
  pub recording : Recording
  pub reads : Reads unread unread_now bytes recording
  pub unbroken : IsBroken bytes recording → ⊥
  pub written : Appends contents contents_now (migrated options recording)

-- a front of what was read, migrated, was written
pub record HasBegunMigrating (options : Limits) (unread unread_now contents contents_now : Option (List ℕ)) : Type 0 where
  pub bytes : List ℕ
  pub recording : Recording
  pub reads : Reads unread unread_now bytes recording
  pub written : HasGrownIn contents contents_now (migrated options recording)

-- ---- how far a recording was migrated

-- a piece that has no time gets the time 0 behind its side's byte
abbrev pub timed : Format → List ℕ → List ℕ
timed Zkr1 [] = []
timed Zkr1 (side ∷ rest) = side ∷ no_time ++ rest
timed Zkr2 piece = piece

-- what is held of bytes that are taken: with the first ones after a head or a piece of a format a piece begins
abbrev pub taken : Option Format → List ℕ → List ℕ
taken (Some format) bytes = timed format bytes
taken None bytes = bytes

-- what is written for what has become whole in this format: a head without limits gets those of the options
abbrev pub sent : Limits → Format → Bool → List ℕ → List ℕ
sent options Zkr1 false held = head_bytes (head_of options)
sent options Zkr1 true held = held
sent options Zkr2 headed held = held

-- what is held of what was read and isn't whole yet: all before the head is whole, then the piece that is begun
abbrev pub kept_at : Place → List ℕ → List ℕ
kept_at (InPieces head pieces) begun = timed (format_of head) begun
kept_at place begun = front place ++ begun

abbrev pub kept : Recording → List ℕ
kept r = kept_at (place_of r) (begun_of r)

abbrev pub IsHeadedIf : Bool → Place → Type 0
IsHeadedIf true place = IsHeaded place
IsHeadedIf false place = IsHeaded place → ⊥

-- the bytes x were read, and the whole pieces in them were written, or are due
pub record HasMoved (options : Limits) (x : List ℕ) (head_whole : Bool) (due begun : List ℕ) (s : ReaderState) (before now : Option (List ℕ)) : Type 0 where
  pub recording : Recording
  pub at : IsAt s x recording
  pub head_is : IsHeadedIf head_whole (place_of recording)
  pub begun_is : begun ≡ kept recording
  pub written : List ℕ
  pub is : migrated options recording ≡ written ++ due
  pub appended : Appends before now written

-- these bytes were migrated but for what is due, and have this damage whatever follows
pub record HasMovedTo (options : Limits) (x : List ℕ) (d : DamageAt) (due : List ℕ) (before now : Option (List ℕ)) : Type 0 where
  pub recording : Recording
  pub spells : Spells x recording
  pub decided : IsDecidedBy d x recording
  pub written : List ℕ
  pub is : migrated options recording ≡ written ++ due
  pub appended : Appends before now written

-- these bytes were read, and there is no damage in them, or this one
abbrev pub HasMovedBy : Limits → List ℕ → Bool → List ℕ → List ℕ → ReaderState → Option (List ℕ) → Option (List ℕ) → Option DamageAt → Type 0
HasMovedBy options x head_whole due begun s before now None = HasMoved options x head_whole due begun s before now
HasMovedBy options x head_whole due begun s before now (Some d) = HasMovedTo options x d due before now

-- ---- the law

-- a listing of these bytes
pub record IsListing (limits : Limits) (listing : Listing) (x text : List ℕ) : Type 0 where
  pub recording : Recording
  pub messages : List Message
  pub summary : Summary
  pub spells : Spells x recording
  pub is : IsOutcome limits recording messages summary
  pub text_is : text ≡ text_of listing messages ++ last_line summary

-- what lists the one under its limits lists the other under its own
abbrev pub ListsAs : Limits → List ℕ → Limits → List ℕ → Type 0
ListsAs limits x others y = (listing : Listing) (text : List ℕ) → IsListing limits listing x text → IsListing others listing y text

-- a head of this format comes before the place
abbrev pub IsOf : Format → Place → Type 0
IsOf format (InPieces head pieces) = format_of head ≡ format
IsOf format _ = ⊥

-- an undamaged recording of this format
pub record IsWhole (format : Format) (x : List ℕ) (r : Recording) : Type 0 where
  pub spells : Spells x r
  pub undamaged : damage_of r ≡ None
  pub format_is : IsOf format (place_of r)

-- ---- what a migrator's calls add to what was moved before, whatever that was

abbrev pub due_of : Migrator → List ℕ
due_of m = take m.due m.held.items

abbrev pub begun_in : Migrator → List ℕ
begun_in m = drop m.due m.held.items

-- the bytes x were read, and the whole pieces in them were written, or are due
abbrev pub HasMigratedTo : Limits → List ℕ → Option (List ℕ) → Option (List ℕ) → Migrator → Type 0
HasMigratedTo options x before now m = HasMoved options x m.headed (due_of m) (begun_in m) m.reader before now

-- the bytes are read too, and the pieces that end in them are due
abbrev pub MovesOn : Limits → Migrator → Migrator → List ℕ → Type 0
MovesOn options old new bytes = (x : List ℕ) (before now : Option (List ℕ)) →
    HasMigratedTo options x before now old → HasMigratedTo options (x ++ bytes) before now new

-- the bytes are read too, and there is no damage in them, or this one
abbrev pub MovesBy : Limits → Migrator → Migrator → List ℕ → Option DamageAt → Type 0
MovesBy options old new bytes found = (x : List ℕ) (before now : Option (List ℕ)) →
    HasMigratedTo options x before now old → HasMovedBy options (x ++ bytes) new.headed (due_of new) (begun_in new) new.reader before now found
