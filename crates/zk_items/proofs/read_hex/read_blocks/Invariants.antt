use Rattle.std.proofs.Common.{◌≡◌, ◌≤◌, ◌-◌, ◌*◌, ◌%◌, length, take}
use Rattle.hex.specs.Hex.{encode_lower}
use Rattle.zk_items.proofs.read_hex.read_blocks.Given as goal

abbrev pub invariant-loop-at : goal.invariant-loop-at
invariant-loop-at l = record {
  within : l.at ≤ length l.room;
  whole : (length l.room - l.at) % 16 ≡ 0;
  room : 2 * length l.room ≡ length l.digits;
  read : encode_lower (take l.at l.room) ≡ take (2 * l.at) l.digits;
}

abbrev pub decreases-loop-at : goal.decreases-loop-at
decreases-loop-at l = length l.room - l.at
