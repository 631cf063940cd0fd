use Rattle.std.proofs.Common.{arith, ◌+◌, ◌*◌, ◌^◌, Err, IsErrOf, Option, ap, subst}
use Rattle.std.proofs.lemmas.Result.{err_from_is_err_and}
use Rattle.zk_listings.specs.{declared.summary.Summary.Summary, Gathering.ReachesBut}
use Rattle.zk_listings.proofs.{Exits.on-err, Bytes.Consumes-kept, Found.found-at_end, Gathering.but-follows, Runs.given-last}
use Rattle.zk_listings.proofs.Reached.{HasRead, begun-but, begun-further, begun-more, found-read, reached-but, read-more}
use Rattle.zk_listings.proofs.engines.read_on.Goals as goal

-- the same fault of another result
same-fault : {X Y E : Type 0} (e f : E) → IsErrOf {T = X} {E = E} (Err e) f → IsErrOf {T = Y} {E = E} (Err e) f
same-fault e f is = ap Err (cc)

pub returns-in_err-count-clause-read : goal.returns-in_err-count-clause-read
returns-in_err-count-clause-read g c =
    let p = err_from_is_err_and c.from_residual.result c.from_residual.ensures.1 in
    let r = c.loop-turn.invariant.read in
    rw (p.1, p.2) (λ is. reached-but _ _ _ _ _ _ _ _ _ r (omega (arith, c.loop-turn-test.true)) _ (Consumes-kept _ _ _ r.bytes r.consumed (c.in_err-count.ensures.read (same-fault _ _ is))))

pub returns-in_err-count-clause-begun : goal.returns-in_err-count-clause-begun
returns-in_err-count-clause-begun g c =
    let b = c.in_err-count.ensures.begun in
    on-err c.from_residual.result (begun-more _ _ _ _ _ _ _ _ _ c.loop-turn.invariant.read (omega (arith, c.loop-turn-test.true)) _ b.0 b.1)

pub returns-in_err-write_whole-clause-begun : goal.returns-in_err-write_whole-clause-begun
returns-in_err-write_whole-clause-begun g c =
    let t = c.in_ok-count.ensures.has in
    on-err c.from_residual-in_err-write_whole.result (begun-further _ _ _ _ _ _ _ _ _ c.loop-turn.invariant.read (omega (arith, c.loop-turn-test.true))
    c.read_once.new.gathered c.read_once.new.progress c.in_ok-count.found _ _ t.0 _ _ _ (omega (arith, t.1, c.in_ok-count.ensures.most)) t.2 t.3
    c.loop-turn.invariant.empty c.as_slice.ensures.value c.in_err-write_whole.ensures.err)

pub returns-in-Some-clause-ok : goal.returns-in-Some-clause-ok
returns-in-Some-clause-ok g c =
    let t = c.in_ok-count.ensures.has in
    found-read _ _ _ _ _ _ _ _ _ (2 ^ 62) c.in-Some.summary (read-more _ _ _ _ _ _ _ _ _ c.loop-turn.invariant.read (omega (arith, c.loop-turn-test.true))
    c.read_once.new.gathered c.read_once.new.progress c.in_ok-count.found _ _ t.0 _ _ _ (omega (arith, t.1, c.in_ok-count.ensures.most)) t.2 t.3
    c.loop-turn.invariant.empty c.as_slice.ensures.value (2 ^ 62) (omega (arith, c.loop-turn-test.true)) c.in_ok-write_whole.ensures.ok) c.in-Some.is

pub returns-in-Some-flush-clause-ok : goal.returns-in-Some-flush-clause-ok
returns-in-Some-flush-clause-ok g c =
    let t = c.in_ok-count.ensures.has in
    let given = given-last c.loop-turn.gathered c.read_once.new.gathered c.flush.new.gathered c.args.listing c.loop-turn.progress c.read_once.new.progress c.flush.new.self _ _ t.0 _ c.flush.result c.in_default.is t.3
    (c.flush.ensures.advances c.args.listing _ c.in_ok-count.ensures.listed) in
    found-read _ _ _ _ _ _ _ _ _ (2 ^ 62) c.in-Some-flush.summary (read-more _ _ _ _ _ _ _ _ _ c.loop-turn.invariant.read (omega (arith, c.loop-turn-test.true))
    c.flush.new.gathered c.flush.new.self c.flush.result _ _ t.0 _ _ _ (omega (arith, t.1, c.in_ok-count.ensures.most)) t.2 given
    c.loop-turn.invariant.empty c.as_slice.ensures.value (2 ^ 62) (omega (arith, c.loop-turn-test.true)) c.in_ok-write_whole.ensures.ok) c.in-Some-flush.is

pub returns-then-count-eq0-clause-ok : goal.returns-then-count-eq0-clause-ok
returns-then-count-eq0-clause-ok g c =
    let limits = c.args.limits in
    let t = c.in_ok-count.ensures.has in
    let new = c.flush.new in
    let given = given-last c.loop-turn.gathered c.read_once.new.gathered new.gathered c.args.listing c.loop-turn.progress c.read_once.new.progress new.self _ _ t.0 _ c.flush.result c.in_default.is t.3
    (c.flush.ensures.advances c.args.listing _ c.in_ok-count.ensures.listed) in
    let r = read-more _ _ _ _ _ _ _ _ _ c.loop-turn.invariant.read (omega (arith, c.loop-turn-test.true))
    new.gathered new.self c.flush.result _ _ t.0 _ _ _ (omega (arith, t.1, c.in_ok-count.ensures.most)) t.2 given
    c.loop-turn.invariant.empty c.as_slice.ensures.value (2 ^ 62) (omega (arith, c.loop-turn-test.true)) c.in_ok-write_whole.ensures.ok in
    let follows = but-follows new.gathered limits r.bytes r.messages new.self c.flush.ensures.empty (subst (ReachesBut new.gathered limits r.bytes r.messages new.self) c.in_default-flush.is r.reaches) in
    found-at_end limits c.args.listing _ _ _ _ r.bytes r.messages new.self.talk c.finish.result r.consumed r.written
    (c.in_ok-count.ensures.end c.if-count-eq0.true) (c.finish.ensures limits r.bytes r.messages follows)

pub loop-turn-preserved : goal.loop-turn-preserved
loop-turn-preserved g c =
    let t = c.in_ok-count.ensures.has in
    let turn = c.loop-turn._turn in
    let r = read-more _ _ _ _ _ _ _ _ _ c.loop-turn.invariant.read (omega (arith, c.loop-turn-test.true))
    c.read_once.new.gathered c.read_once.new.progress c.in_ok-count.found _ _ t.0 _ _ _ (omega (arith, t.1, c.in_ok-count.ensures.most)) t.2 t.3
    c.loop-turn.invariant.empty c.as_slice.ensures.value (65536 * (turn + 1)) (omega arith) c.in_ok-write_whole.ensures.ok in
    record {
      block = c.read_once.ensures.block;
      empty = c.clear.ensures.items;
      live = c.in_ok-count.ensures.live;
      writer_live = c.in_ok-write_whole.ensures.failed;
      count = omega (arith, c.in_ok-count.ensures.counted, c.loop-turn.invariant.count);
      place = omega (arith, c.in_ok-count.ensures.place c.in_default.is, c.in_ok-count.ensures.most, c.loop-turn.invariant.place);
      listed = c.in_ok-count.ensures.listed;
      read = subst (λ (z : Option Summary). HasRead c.read_once.new.gathered c.args.limits c.args.listing c.read_once.new.progress z (g.R.Source.remaining c.args.reader.now) (g.R.Source.remaining c.read_once.new.reader)
          (g.W.Sink.contents c.args.writer.now) (g.W.Sink.contents c.write_whole.new.writer) (65536 * (turn + 1))) c.in_default.is r;
    }

pub returns-clause-read : goal.returns-clause-read
returns-clause-read g c = λ _.
    let r = c.loop-turn.invariant.read in
    reached-but _ _ _ _ _ _ _ _ _ r (omega (arith, c.loop-turn.auto._turn-end)) _ r.consumed

pub returns-clause-begun : goal.returns-clause-begun
returns-clause-begun g c = begun-but _ _ _ _ _ _ _ _ _ c.loop-turn.invariant.read (omega (arith, c.loop-turn.auto._turn-end))
