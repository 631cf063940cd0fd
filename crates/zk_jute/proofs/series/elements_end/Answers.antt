use Rattle.std.proofs.Common.{ap, refl}
use Rattle.zk_jute.specs.Reading.{end_of, items_at, times_at}
use Rattle.zk_jute.proofs.{Loops.scanning_goes_on, Known.next_known}
use Rattle.zk_jute.proofs.series.elements_end.Goals as goal

pub view-next-requires : goal.view-next-requires
view-next-requires g c κs =
    let at = items_at g.R.Ends.wired.layout c.args.src.now in
    ((refl, tt), (c.loop.invariant.within, next_known at c.args.count c.loop.counter c.loop.after (times_at at c.args.count c.args.place) c.loop-test.true c.loop.invariant.so_far c.requires.known))

pub loop-preserved : goal.loop-preserved
loop-preserved g c =
    let at = items_at g.R.Ends.wired.layout c.args.src.now in
    record {
      within = c.view-next.ensures.within;
      so_far = scanning_goes_on at c.args.count c.loop.counter c.loop.after (times_at at c.args.count c.args.place) c.view-next.result.1 c.loop-test.true (ap end_of c.view-next.ensures.exact) c.loop.invariant.so_far;
    }
