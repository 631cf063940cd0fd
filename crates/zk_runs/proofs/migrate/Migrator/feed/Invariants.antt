use Rattle.std.proofs.Common.{◌+◌, ◌<◌, ◌≤◌, ◌-◌, ◌++◌, List, ℕ, Option, length, take}
use Rattle.zk_recordings.specs.Reading.{place_in, IsUndamaged}
use Rattle.zk_runs.specs.Migrating.{HasMigratedTo}
use Rattle.zk_runs.proofs.migrate.Migrator.feed.Given as goal

abbrev pub invariant-loop-at : goal.invariant-loop-at
invariant-loop-at l = record {
  within : l.at ≤ length l.block;
  marked : l.self.due ≤ length l.self.held.items;
  place : place_in l.self.reader ≤ place_in l.initial.self.reader + l.at;
  moved : (x : List ℕ) (before now : Option (List ℕ)) → HasMigratedTo l.fn.limits x before now l.initial.self → HasMigratedTo l.fn.limits (x ++ take l.at l.block) before now l.self;
  undamaged : 0 < l.at → IsUndamaged l.self.reader;
}

abbrev pub decreases-loop-at : goal.decreases-loop-at
decreases-loop-at l = length l.block - l.at
