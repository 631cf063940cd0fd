use Rattle.std.proofs.Common.{◌≡◌, take}
use Rattle.std.specs.List.{flat_map}
use Rattle.zk_c.specs.Listing.{message_line}
use Rattle.zk_c.proofs.listing.lines_of.Given as goal

abbrev pub invariant-loop-message : goal.invariant-loop-message
invariant-loop-message l = record {
  so_far : l.text.items ≡ flat_map message_line (take l.message-index l.message-items);
}
