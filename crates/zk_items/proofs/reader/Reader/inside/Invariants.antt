use Rattle.std.proofs.Common.{◌≡◌, length}
use Rattle.zk_items.specs.{Leaf.symbol_at, Form.Keeps, Many.many_at, Many.with_front}
use Rattle.zk_items.proofs.reader.Reader.inside.Given as goal

abbrev pub invariant-loop-first : goal.invariant-loop-first
invariant-loop-first l = record {
  read : with_front l.bytes.items (many_at symbol_at (length l.self) l.self) ≡ with_front l.fn.bytes.items (many_at symbol_at (length l.fn.self) l.fn.self);
  keeps : Keeps l.fn.bytes.items l.bytes.items;
}

abbrev pub decreases-loop-first : goal.decreases-loop-first
decreases-loop-first l = length l.self
