use Rattle.std.proofs.Common.{◌*◌, ◌≤◌, List, Option, ℕ}
use Rattle.std.specs.Io.KnownBytes.{Consumes, Appends}
use Rattle.zk_runs.specs.{Building.head, Accepting.HasTaken}
use Rattle.zk_runs.proofs.Turns.{IsAtTurn}
use Rattle.zk_runs.proofs.build_lines.build_run.Given as goal

abbrev pub invariant-loop-turn : goal.invariant-loop-turn
invariant-loop-turn g l = record {
  turn : IsAtTurn l._turn (g.R.Source.read_count l.initial.reader) (g.R.Source.read_count l.reader) (g.R.Source.has_failed l.reader) (g.W.Sink.has_failed l.writer) l.buf;
  lines : l.builder.scribe.lines ≤ 65536 * l._turn;
  taken : (x : List ℕ) × Consumes (g.R.Source.remaining l.initial.reader) (g.R.Source.remaining l.reader) x
      × ((before : Option (List ℕ)) → Appends before (g.W.Sink.contents l.initial.writer) head →
      HasTaken l.fn.limits x before (g.W.Sink.contents l.writer) l.builder.begun.items l.builder.scribe.lines l.builder.scribe.ended l.builder.scribe.speaker);
}
