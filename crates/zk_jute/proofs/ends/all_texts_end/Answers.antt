use Rattle.std.proofs.Common.{◌-◌, ◌+◌, ◌≡◌, subst, arith}
use Rattle.zk_jute.specs.{Values.text_items, Shown.Stretch}
use Rattle.zk_jute.proofs.Reached.{stretch_then}
use Rattle.zk_jute.proofs.ends.all_texts_end.Goals as goal

pub loop-left-preserved : goal.loop-left-preserved
loop-left-preserved c =
    let src = c.args.payload.now in
    let count = c.args.count in
    let left = c.loop-left.left in
    let next = c.in_ok-some in
    let some = next.some in
    let so_far = c.loop-left.invariant.so_far in
    let less = c.loop-left.invariant.less in
    let all : (count - left) + some ≡ count - (left - some) = omega (arith, less, next.ensures.count) in
    record {
      within = next.ensures.within;
      less = omega (arith, less);
      so_far = subst (λ n. Stretch text_items src c.args.place next.end n) all (stretch_then text_items src c.args.place c.loop-left.at next.end (count - left) some so_far next.ensures.texts);
    }
