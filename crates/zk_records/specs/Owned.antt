-- Lists whose elements are copied.
use Rattle.std.specs.Prelude.{map}
use Rattle.zk_jute.specs.declared.value.Nullable.TheVariants as nullable
use Rattle.zk_jute.specs.Held.{Vector}

-- null, or f of each element
abbrev pub each : {X Y : Type 0} → (X → Y) → Vector X → Vector Y
each f nullable.Null = nullable.Null
each f (nullable.Full xs) = nullable.Full (map f xs)
