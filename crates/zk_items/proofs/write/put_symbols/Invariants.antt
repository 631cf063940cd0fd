use Rattle.std.proofs.Common.{◌≡◌, ◌++◌, length}
use Rattle.std.specs.List.{flat_map}
use Rattle.zk_items.specs.{Form.Keeps, Leaf.symbol_spell}
use Rattle.zk_items.proofs.write.put_symbols.Given as goal

abbrev pub invariant-loop-first : goal.invariant-loop-first
invariant-loop-first l = record {
  spelled : l.out.items ++ flat_map symbol_spell l.ahead ≡ l.fn.out.items ++ flat_map symbol_spell l.bytes;
  keeps : Keeps l.fn.out.items l.out.items;
}

abbrev pub decreases-loop-first : goal.decreases-loop-first
decreases-loop-first l = length l.ahead
