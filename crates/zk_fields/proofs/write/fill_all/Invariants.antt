use Rattle.std.proofs.Common.{◌≡◌, List, take}
use Rattle.std.specs.Prelude.{Some}
use Rattle.zk_jute.specs.Item.{Item, bytes_of}
use Rattle.zk_fields.specs.{Values.Fills, Written.pairs, Written.all_said}
use Rattle.zk_fields.proofs.write.fill_all.Given as goal

abbrev pub invariant-loop-index : goal.invariant-loop-index
invariant-loop-index l = record {
  so_far : (items : List Item) → all_said l.heads l.content (take l.index (pairs l.fields)) ≡ Some items → Fills (bytes_of items) l.fn.at l.fn.room l.at l.room;
}
