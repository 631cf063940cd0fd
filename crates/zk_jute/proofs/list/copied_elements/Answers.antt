use Rattle.std.proofs.Common.{arith}
use Rattle.std.specs.List.{flat_map}
use Rattle.std.proofs.lemmas.List.{length_push}
use Rattle.zk_jute.specs.Reading.{items_at, times_at}
use Rattle.zk_jute.proofs.{Loops.reading_goes_on, Loops.flat_map_push, Known.next_read}
use Rattle.zk_jute.proofs.list.copied_elements.Goals as goal

pub copied-requires-clause-known : goal.copied-requires-clause-known
copied-requires-clause-known g c =
    let items = g.T.Ends.wired.items in
    let at = items_at g.T.Ends.wired.layout c.args.src.now in
    next_read at c.args.count c.loop.counter c.loop.after (flat_map items c.loop.items.items) (times_at at c.args.count c.args.place) c.loop-test.true c.loop.invariant.so_far c.requires.known

pub loop-preserved : goal.loop-preserved
loop-preserved g c =
    let items = g.T.Ends.wired.items in
    let at = items_at g.T.Ends.wired.layout c.args.src.now in
    record {
      within = c.in_ok-item.ensures.within;
      count = let count = c.loop.invariant.count in rw c.in_ok-push.ensures.items (omega (arith, length_push c.loop.items.items c.in_ok-item.item));
      so_far = rw (c.in_ok-push.ensures.items, flat_map_push items c.loop.items.items c.in_ok-item.item)
          (reading_goes_on at c.args.count c.loop.counter c.loop.after (flat_map items c.loop.items.items) (times_at at c.args.count c.args.place) (items c.in_ok-item.item) c.in_ok-item.next c.loop-test.true c.in_ok-item.ensures.exact c.loop.invariant.so_far);
    }
