-- The values of texts, blobs and lists, owned or borrowed: null, or bytes or elements.
use Rattle.std.specs.Prelude.{ℕ, List}
use Rattle.zk_jute.specs.declared.value.Nullable.{Nullable}

abbrev pub Text : Type 0
Text = Nullable (List ℕ)

abbrev pub Blob : Type 0
Blob = Nullable (List ℕ)

abbrev pub Vector : Type 0 → Type 0
Vector X = Nullable (List X)
