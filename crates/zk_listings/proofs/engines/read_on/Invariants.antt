use Rattle.std.proofs.Common.{◌≡◌, ◌+◌, ◌*◌, ◌≤◌, [], None, false, length}
use Rattle.zk_listings.specs.declared.listing.Listing.TheVariants.{All}
use Rattle.zk_recordings.specs.Reading.{place_in}
use Rattle.zk_listings.proofs.Reached.{HasRead}
use Rattle.zk_listings.proofs.engines.read_on.Given as goal

abbrev pub invariant-loop-turn : goal.invariant-loop-turn
invariant-loop-turn g l = record {
  block : length l.buf ≡ 65536;
  empty : l.lines.items ≡ [];
  live : g.R.Source.has_failed l.reader ≡ false;
  writer_live : g.W.Sink.has_failed l.writer ≡ false;
  count : g.R.Source.read_count l.reader ≡ g.R.Source.read_count l.initial.reader + l._turn;
  place : place_in l.progress.reader ≤ 65536 * l._turn;
  listed : l.fn.listing ≡ All → l.gathered.bytes ≡ [];
  read : HasRead l.gathered l.fn.limits l.fn.listing l.progress None (g.R.Source.remaining l.initial.reader) (g.R.Source.remaining l.reader)
      (g.W.Sink.contents l.initial.writer) (g.W.Sink.contents l.writer) (65536 * l._turn);
}
