-- The statuses of the program, and why the words of a command line are refused.
use Rattle.std.specs.Prelude.{◌≡◌, ℕ, ◌+◌, ◌<◌, ◌≤◌, Bool, false}
use Rattle.clap.specs.{declared.error.kind.ErrorKind.ErrorKind, declared.error.kind.ErrorKind.TheVariants.OutOfMemory}
use Rattle.zk_runs.specs.{declared.build_result.Built.Built, declared.build_result.Built.TheVariants.Whole, declared.migrate.Migrated.Migrated, declared.options.UsageFault.UsageFault}
use Rattle.zk_runs.specs.declared.migrate.Migrated.TheVariants.{Whole as migrated_whole, Damaged}
use Rattle.zk_runs.specs.declared.options.UsageFault.TheVariants.{Words, Memory}
use Rattle.zk_listings.specs.declared.summary.Status.{Status}
use Rattle.zk_listings.specs.declared.summary.Status.TheVariants.{Good, Bad}

abbrev pub exit_of : Status → ℕ
exit_of Good = 0
exit_of Bad = 1

abbrev pub refusal_of : UsageFault → ℕ
refusal_of Words = 2
refusal_of Memory = 3

-- a line that is refused is a bad end
abbrev pub exit_of_built : Built → ℕ
exit_of_built Whole = 0
exit_of_built _ = 1

-- a damaged recording is a bad end
abbrev pub exit_of_migrated : Migrated → ℕ
exit_of_migrated migrated_whole = 0
exit_of_migrated (Damaged offset reason) = 1

-- refused memory alone isn't a fault of the words
abbrev pub usage_fault : ErrorKind → UsageFault
usage_fault OutOfMemory = Memory
usage_fault _ = Words

-- the status that a run ends with, whose reader was read this often before and after
pub record IsStatus (exit reads reads_now : ℕ) (reader_failed writer_failed : Bool) : Type 0 where
  pub known : exit ≤ 3
  -- a failed read or write is never passed over, and no run reads more often than that
  pub alive : exit < 2 → reader_failed ≡ false
  pub intact : exit < 2 → writer_failed ≡ false
  pub bound : reads_now ≤ reads + 4294967296
