use Rattle.std.proofs.Common.{◌≡◌, map}
use Rattle.zk_records.proofs.own.own_all.Given as goal

abbrev pub invariant-loop-item : goal.invariant-loop-item
invariant-loop-item g l = record {
  next : (goal.iterator-loop-item g).can_next l.item-iterator × (goal.iterator-loop-item g).is_finite l.item-iterator;
  copied : l.copies.items ≡ map g.T.Own.same l.yielded;
}
