use Rattle.std.proofs.Common.{rules, arith, length-drop}
use Rattle.zk_listings.proofs.Bytes.{Appends-further, from-place}
use Rattle.zk_listings.proofs.streams.write_whole.Goals as goal

pub loop-at-preserved : goal.loop-at-preserved
loop-at-preserved g c =
    let at = c.loop-at.at in
    let bytes = c.args.bytes.now in
    record {
      within = omega (arith, rw from-place at c.in_ok-taken.ensures.bound, length-drop at bytes);
      written = Appends-further _ _ _ bytes at c.in_ok-taken.taken c.loop-at.invariant.written c.in_ok-taken.ensures.bytes;
      live = search rules;
    }
