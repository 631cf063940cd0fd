-- The bytes of what a field says.
use Rattle.std.specs.Prelude.{◌≡◌, ℕ, ◌+◌, ◌≤◌, List, ◌++◌, length, take, drop, ◌<◌, ◌^◌, Option, Some, None, Result, Ok, Err}
use Rattle.std.specs.{Option.option_map, List.slice_get}
use Rattle.zk_jute.specs.Item.{Item, ABoolean, item_bytes, bytes_of, int_bytes, long_bytes}
use Rattle.zk_records.specs.Records.{multi_header}
use Rattle.zk_fields.specs.{declared.value.Value.Value, declared.value.Heads.Heads, declared.write.Unwritten.Unwritten, Heads.plain_head, Written.Pair, Written.said, Written.all_said}
use Rattle.zk_fields.specs.declared.value.Value.TheVariants as value
use Rattle.zk_fields.specs.declared.write.Unwritten.TheVariants as unwritten

abbrev pub value_bytes : Value → List ℕ
value_bytes (value.Int n) = int_bytes n
value_bytes (value.Long n) = long_bytes n
value_bytes (value.Boolean b) = item_bytes (ABoolean b)
value_bytes (value.Run n bytes) = int_bytes n ++ bytes.now
value_bytes (value.Head n e) = bytes_of (multi_header.items (plain_head n e))

-- it has the bytes of the items, if there are any
abbrev pub IsSaid : Option (List Item) → Option Value → Type 0
IsSaid items v = option_map value_bytes v ≡ option_map bytes_of items

-- the room begins with these bytes, up to a place, and is else as before
abbrev pub IsFilled : List ℕ → List ℕ → ℕ → List ℕ → Type 0
IsFilled before done at room = (at ≡ length done) × (room ≡ done ++ drop (length done) before)

-- these bytes come behind those, if there is room for them
unfoldable pub Fills : List ℕ → ℕ → List ℕ → ℕ → List ℕ → Type 0
Fills bytes at room next new = (before done : List ℕ) → IsFilled before done at room →
    length done + length bytes ≤ length before → IsFilled before (done ++ bytes) next new

-- the number of a payload's bytes, with as many as `start` besides those that the fields say; or why there is no payload
abbrev pub Measures : Heads → List ℕ → List Pair → ℕ → Result ℕ Unwritten → Type 0
Measures heads content ps start (Ok size) = (items : List Item) × (all_said heads content ps ≡ Some items) ×
    (size ≡ start + length (bytes_of items)) × (size < 2 ^ 31)
Measures heads content ps start (Err (unwritten.Wrong i)) =
    (items : List Item) × (p : Pair) × (all_said heads content (take i ps) ≡ Some items) ×
    (start + length (bytes_of items) < 2 ^ 31) × (slice_get ps i ≡ Some p) × (said heads content p ≡ None)
Measures heads content ps start (Err (unwritten.Long i)) =
    (items : List Item) × (more : List Item) × (all_said heads content (take i ps) ≡ Some items) ×
    (start + length (bytes_of items) < 2 ^ 31) × (all_said heads content (take (i + 1) ps) ≡ Some more) ×
    (2 ^ 31 ≤ start + length (bytes_of more))
Measures heads content ps start (Err (unwritten.Room size)) = ⊥
