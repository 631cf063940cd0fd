use Rattle.std.proofs.Common.{◌≡◌, arith, [], false, true, refl, sym, length-take, ap, subst, take}
use Rattle.std.specs.Io.KnownBytes.{Appends}
use Rattle.zk_recordings.specs.Reading.{IsUndamaged, place_in}
use Rattle.zk_listings.specs.Outcome.{HasGrownIn}
use Rattle.zk_runs.specs.Migrating.{HasMovedBy, due_of, begun_in}
use Rattle.zk_listings.proofs.{Exits.on-err, Bytes.Consumes-none, Bytes.Consumes-then, Bytes.Consumes-kept}
use Rattle.zk_runs.proofs.Paid.{migrated-so_far, migrated-at_end, migrated-damaged, begun-in, begun-so_far, begun-before, paid, paid-part, let-go}
use Rattle.zk_runs.proofs.Turns.{left-in-turn, left-after-turns, next-turn, read-none}
use Rattle.zk_runs.proofs.migrate.migrate_run.Goals as goal

pub loop-turn-init : goal.loop-turn-init
loop-turn-init g c = record {
  turn = record { block = refl; live = c.requires.reader; writer_live = c.requires.writer; count = omega arith };
  place = omega (arith, c.new-migrator.ensures.place);
  due = c.new-migrator.ensures.due;
  moved = ([], Consumes-none _, c.new-migrator.ensures.start c.args.limits _, λ b. absurd (omega (arith, b.1.head_read)));
}

pub returns-in_default : goal.returns-in_default
returns-in_default g c =
    let i = c.loop-turn.invariant.moved in
    let m = c.loop-turn.migrator in
    let none : due_of m ≡ [] = ap (λ n. take n m.held.items) c.loop-turn.invariant.due in
    record {
      ok = tt;
      read = λ _. migrated-so_far c.args.limits _ _ i.0 _ _ (Consumes-kept _ _ _ i.0 i.1 c.in_default.ensures.bytes) m.headed (due_of m) (begun_in m) none m.reader i.2 i.3;
      begun = begun-so_far c.args.limits _ _ i.0 _ _ (Consumes-kept _ _ _ i.0 i.1 c.in_default.ensures.bytes) m.headed (due_of m) (begun_in m) none m.reader i.2;
      devices = left-in-turn _ _ _ _ _ _ c.loop-turn.invariant.turn _ _ (omega (arith, c.loop-turn-test.true)) c.in_default.ensures.failed c.in_default.ensures.counted;
    }

pub returns-then-count-eq0-clause-ok : goal.returns-then-count-eq0-clause-ok
returns-then-count-eq0-clause-ok g c =
    let i = c.loop-turn.invariant.moved in
    let m = c.loop-turn.migrator in
    let r = c.in-Ok.ensures.bytes in
    migrated-at_end c.args.limits _ _ i.0 _ _ (read-none _ _ _ i.0 _ i.1 r.0 (rw c.if-count-eq0.true refl)) m.headed (due_of m) (begun_in m) (ap (λ n. take n m.held.items) c.loop-turn.invariant.due) m.reader i.2
    c.finish.result (r.1 c.if-count-eq0.true (omega (arith, c.read.auto.buf, c.loop-turn.invariant.turn.block))) c.finish.ensures c.answered.result c.answered.ensures

pub returns-in_err-found-clause-begun : goal.returns-in_err-found-clause-begun
returns-in_err-found-clause-begun g c =
    let i = c.loop-turn.invariant.moved in
    let m = c.loop-turn.migrator in
    on-err c.from_residual.result (begun-before c.args.limits _ _ i.0 _ m.headed (due_of m) (begun_in m) m.reader _ _ (Consumes-then _ _ _ i.0 _ i.1 c.in-Ok.ensures.bytes.0) i.2)

pub returns-in_err-write_whole-clause-begun : goal.returns-in_err-write_whole-clause-begun
returns-in_err-write_whole-clause-begun g c =
    let i = c.loop-turn.invariant.moved in
    let m = c.feed.new.self in
    on-err c.from_residual-in_err-write_whole.result (begun-in c.args.limits _ _ _ _ _ (Consumes-then _ _ _ i.0 _ i.1 c.in-Ok.ensures.bytes.0)
    (paid-part c.args.limits _ _ _ _ (due_of m) m.headed (begun_in m) m.reader c.in_ok-found.found (c.in_ok-found.ensures.goes_on i.0 _ _ i.2)
    (subst (HasGrownIn (g.W.Sink.contents c.loop-turn.writer) (g.W.Sink.contents c.write_whole.new.writer)) c.due.ensures c.in_err-write_whole.ensures.err)))

pub returns-in-Some-clause-ok : goal.returns-in-Some-clause-ok
returns-in-Some-clause-ok g c =
    let i = c.loop-turn.invariant.moved in
    let m = c.feed.new.self in
    migrated-damaged c.args.limits _ _ _ c.in-Some.damage (due_of m) _ _ _ (Consumes-then _ _ _ i.0 _ i.1 c.in-Ok.ensures.bytes.0)
    (subst (HasMovedBy c.args.limits _ m.headed (due_of m) (begun_in m) m.reader _ _) c.in-Some.is (c.in_ok-found.ensures.goes_on i.0 _ _ i.2))
    (subst (Appends (g.W.Sink.contents c.loop-turn.writer) (g.W.Sink.contents c.write_whole.new.writer)) c.due.ensures c.in_ok-write_whole.ensures.ok) c.answered-in-Some.result c.answered-in-Some.ensures

pub returns-in_err-let_go-clause-begun : goal.returns-in_err-let_go-clause-begun
returns-in_err-let_go-clause-begun g c =
    let i = c.loop-turn.invariant.moved in
    let m = c.feed.new.self in
    let t = subst (HasMovedBy c.args.limits _ m.headed (due_of m) (begun_in m) m.reader _ _) c.in_default-found.is (c.in_ok-found.ensures.goes_on i.0 _ _ i.2) in
    let w = subst (Appends (g.W.Sink.contents c.loop-turn.writer) (g.W.Sink.contents c.write_whole.new.writer)) c.due.ensures c.in_ok-write_whole.ensures.ok in
    on-err c.from_residual-in_err-let_go.result (begun-so_far c.args.limits _ _ _ _ _ (Consumes-then _ _ _ i.0 _ i.1 c.in-Ok.ensures.bytes.0) m.headed [] (begun_in m) refl m.reader
    (paid c.args.limits _ _ _ _ (due_of m) m.headed (begun_in m) m.reader t w))

pub loop-turn-preserved : goal.loop-turn-preserved
loop-turn-preserved g c =
    let i = c.loop-turn.invariant.moved in
    let m = c.feed.new.self in
    let new = c.let_go.new.self in
    let gone = c.in_ok-let_go.ensures in
    let t = subst (HasMovedBy c.args.limits _ m.headed (due_of m) (begun_in m) m.reader _ _) c.in_default-found.is (c.in_ok-found.ensures.goes_on i.0 _ _ i.2) in
    let w = subst (Appends (g.W.Sink.contents c.loop-turn.writer) (g.W.Sink.contents c.write_whole.new.writer)) c.due.ensures c.in_ok-write_whole.ensures.ok in
    let now = let-go c.args.limits _ _ _ m.headed new.headed m.reader new.reader (begun_in m) new.held.items new.due gone.headed gone.reader gone.due gone.held
    (paid c.args.limits _ _ _ _ (due_of m) m.headed (begun_in m) m.reader t w) in
    let undamaged = subst IsUndamaged (sym gone.reader) (c.in_ok-found.ensures.undamaged c.in_default-found.is) in
    record {
      turn = next-turn _ _ _ _ _ _ c.loop-turn.invariant.turn _ _ _ _ (omega (arith, c.loop-turn-test.true)) c.requires.few c.in-Ok.ensures.failed c.in-Ok.ensures.counted c.read.auto.buf c.in_ok-write_whole.ensures.failed;
      place = omega (arith, ap place_in gone.reader, c.in_ok-found.ensures.place c.in_default-found.is, c.loop-turn.invariant.place, c.read.auto.buf, c.loop-turn.invariant.turn.block, length-take c.in-Ok.count c.read.new.buf);
      due = gone.due;
      moved = (
        _,
        Consumes-then _ _ _ i.0 _ i.1 c.in-Ok.ensures.bytes.0,
        now,
        λ b. undamaged _ now.recording b.0 now.at b.1,
      );
    }

pub returns : goal.returns
returns g c =
    let i = c.loop-turn.invariant.moved in
    let m = c.loop-turn.migrator in
    let none : due_of m ≡ [] = ap (λ n. take n m.held.items) c.loop-turn.invariant.due in
    record {
      ok = tt;
      read = λ _. migrated-so_far c.args.limits _ _ i.0 _ _ i.1 m.headed (due_of m) (begun_in m) none m.reader i.2 i.3;
      begun = begun-so_far c.args.limits _ _ i.0 _ _ i.1 m.headed (due_of m) (begun_in m) none m.reader i.2;
      devices = left-after-turns _ _ _ _ _ _ c.loop-turn.invariant.turn (omega (arith, c.loop-turn-test.false)) (omega (arith, c.loop-turn.auto._turn-end));
    }
