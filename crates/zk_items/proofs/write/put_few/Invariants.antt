use Rattle.std.proofs.Common.{◌≡◌, ◌++◌, drop}
use Rattle.std.specs.List.{flat_map}
use Rattle.zk_items.specs.{Form.Keeps, Leaf.symbol_spell}
use Rattle.zk_items.proofs.write.put_few.Given as goal

abbrev pub invariant-loop-b : goal.invariant-loop-b
invariant-loop-b l = record {
  spelled : l.out.items ++ flat_map symbol_spell (drop l.b-index l.bytes) ≡ l.fn.out.items ++ flat_map symbol_spell l.bytes;
  keeps : Keeps l.fn.out.items l.out.items;
}
