use Rattle.std.proofs.Common.{◌≡◌, ◌≤◌, ◌-◌, ◌*◌, ◌%◌, length, take}
use Rattle.hex.specs.Hex.{encode_lower}
use Rattle.zk_items.proofs.write_hex.write_blocks.Given as goal

abbrev pub invariant-loop-at : goal.invariant-loop-at
invariant-loop-at l = record {
  within : l.at ≤ length l.bytes;
  whole : (length l.bytes - l.at) % 16 ≡ 0;
  room : length l.room ≡ 2 * length l.bytes;
  written : take (2 * l.at) l.room ≡ encode_lower (take l.at l.bytes);
}

abbrev pub decreases-loop-at : goal.decreases-loop-at
decreases-loop-at l = length l.bytes - l.at
