-- What is known to be there.
use Rattle.std.specs.Prelude.{ℕ, List}
use Rattle.zk_jute.specs.{Item.Item, Item.HaveBytes, Told.StandsAt}

-- one of these values is at the place
abbrev pub OneStands : {X : Type 0} → (X → List Item) → List ℕ → ℕ → Type 0
OneStands {X} items src place = (x : X) × (end : ℕ) × HaveBytes (items x) × StandsAt (items x) src place end
