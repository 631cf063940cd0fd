-- What each command has read and written when it returns.
use Rattle.std.specs.Prelude.{◌≡◌, ◌≤◌, ◌<◌, ◌⊎◌, ℕ, Bool, true, false, List, Option}
use Rattle.zk_talk.specs.{declared.limits.Limits.Limits, Ranges.AreLimits}
use Rattle.zk_runs.specs.{declared.build_result.Built.Built, declared.migrate.Migrated.Migrated, declared.options.Command.Command, declared.options.Settings.Settings, Building.HasBuilt, Building.HasBegunBuilding}
use Rattle.zk_listings.specs.declared.listing.Listing.TheVariants.{All, Last}
use Rattle.zk_runs.specs.declared.options.Command.TheVariants.{Show, Check, Build, Migrate}
use Rattle.zk_listings.specs.{declared.summary.Status.Status, Running.HasListed, Running.HasStopped, Earliest.HasToldEarliest, Earliest.HasStoppedEarliest}
use Rattle.zk_runs.specs.{Migrating.HasMigrated, Migrating.HasBegunMigrating, Exits.exit_of, Exits.exit_of_built, Exits.exit_of_migrated}

-- a command that came to its end, with this exit status; a check writes the line of the first impossible byte if that is asked
abbrev pub HasDone : Command → Bool → Limits → Option (List ℕ) → Option (List ℕ) → Option (List ℕ) → Option (List ℕ) → ℕ → Type 0
HasDone Show earliest limits unread unread_now contents contents_now exit = (status : Status) ×
    HasListed limits All unread unread_now contents contents_now status × (exit ≡ exit_of status)
HasDone Check false limits unread unread_now contents contents_now exit = (status : Status) ×
    HasListed limits Last unread unread_now contents contents_now status × (exit ≡ exit_of status)
HasDone Check true limits unread unread_now contents contents_now exit = (status : Status) ×
    HasToldEarliest limits unread unread_now contents contents_now status × (exit ≡ exit_of status)
HasDone Build earliest limits unread unread_now contents contents_now exit = (built : Built) ×
    HasBuilt limits unread unread_now contents contents_now built × (exit ≡ exit_of_built built)
HasDone Migrate earliest limits unread unread_now contents contents_now exit = (answer : Migrated) ×
    HasMigrated limits unread unread_now contents contents_now answer × (exit ≡ exit_of_migrated answer)

-- a command that failed
abbrev pub HasFailed : Command → Bool → Limits → Option (List ℕ) → Option (List ℕ) → Option (List ℕ) → Option (List ℕ) → Type 0
HasFailed Show earliest limits unread unread_now contents contents_now = HasStopped limits All unread unread_now contents contents_now
HasFailed Check false limits unread unread_now contents contents_now = HasStopped limits Last unread unread_now contents contents_now
HasFailed Check true limits unread unread_now contents contents_now = HasStoppedEarliest limits unread unread_now contents contents_now
HasFailed Build earliest limits unread unread_now contents contents_now = HasBegunBuilding limits unread unread_now contents contents_now
HasFailed Migrate earliest limits unread unread_now contents contents_now = HasBegunMigrating limits unread unread_now contents contents_now

-- what was chosen came to its end, or failed
abbrev pub IsDone : Settings → Option (List ℕ) → Option (List ℕ) → Option (List ℕ) → Option (List ℕ) → ℕ → Type 0
IsDone s unread unread_now contents contents_now exit = HasDone s.command s.earliest s.limits unread unread_now contents contents_now exit

abbrev pub IsFailed : Settings → Option (List ℕ) → Option (List ℕ) → Option (List ℕ) → Option (List ℕ) → Type 0
IsFailed s unread unread_now contents contents_now = HasFailed s.command s.earliest s.limits unread unread_now contents contents_now

-- the status of a run of what was chosen: below 2 where it came to its end, else 3
abbrev pub Answers : Settings → Option (List ℕ) → Option (List ℕ) → Option (List ℕ) → Option (List ℕ) → ℕ → Type 0
Answers s unread unread_now contents contents_now exit = exit < 2 → IsDone s unread unread_now contents contents_now exit

abbrev pub Stops : Settings → Option (List ℕ) → Option (List ℕ) → Option (List ℕ) → Option (List ℕ) → ℕ → Type 0
Stops s unread unread_now contents contents_now exit = 2 ≤ exit → (exit ≡ 3) × IsFailed s unread unread_now contents contents_now

-- the numbers are in their ranges
abbrev pub IsInRange : Settings → Type 0
IsInRange s = AreLimits s.limits.client s.limits.server s.limits.waiting

-- some settings in range came to their end, or failed
abbrev pub IsDoneBySome : Option (List ℕ) → Option (List ℕ) → Option (List ℕ) → Option (List ℕ) → ℕ → Type 0
IsDoneBySome unread unread_now contents contents_now exit = (s : Settings) × IsInRange s × IsDone s unread unread_now contents contents_now exit

abbrev pub IsFailedBySome : Option (List ℕ) → Option (List ℕ) → Option (List ℕ) → Option (List ℕ) → Type 0
IsFailedBySome unread unread_now contents contents_now = (s : Settings) × IsInRange s × IsFailed s unread unread_now contents contents_now

-- want of memory for the words, which leaves everything unread and unwritten, or some settings in range that failed
abbrev pub HasStoppedBySome : {X Y : Type 0} → (X → Option (List ℕ)) → X → X → (Y → Option (List ℕ)) → Y → Y → Type 0
HasStoppedBySome remaining reader reader_now contents writer writer_now =
    ((reader_now ≡ reader) × (writer_now ≡ writer)) ⊎ IsFailedBySome (remaining reader) (remaining reader_now) (contents writer) (contents writer_now)
