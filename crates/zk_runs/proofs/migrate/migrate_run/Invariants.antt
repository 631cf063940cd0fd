use Rattle.std.proofs.Common.{◌≡◌, ◌*◌, ◌≤◌, List, ℕ}
use Rattle.std.specs.Io.KnownBytes.{Consumes}
use Rattle.zk_recordings.specs.Reading.{place_in}
use Rattle.zk_listings.specs.Outcome.{IsBroken}
use Rattle.zk_runs.specs.Migrating.{HasMigratedTo}
use Rattle.zk_runs.proofs.Turns.{IsAtTurn}
use Rattle.zk_runs.proofs.migrate.migrate_run.Given as goal

abbrev pub invariant-loop-turn : goal.invariant-loop-turn
invariant-loop-turn g l = record {
  turn : IsAtTurn l._turn (g.R.Source.read_count l.initial.reader) (g.R.Source.read_count l.reader) (g.R.Source.has_failed l.reader) (g.W.Sink.has_failed l.writer) l.buf;
  place : place_in l.migrator.reader ≤ 65536 * l._turn;
  due : l.migrator.due ≡ 0;
  moved : (x : List ℕ) × Consumes (g.R.Source.remaining l.initial.reader) (g.R.Source.remaining l.reader) x
      × (m : HasMigratedTo l.fn.limits x (g.W.Sink.contents l.initial.writer) (g.W.Sink.contents l.writer) l.migrator) × (IsBroken x m.recording → ⊥);
}
