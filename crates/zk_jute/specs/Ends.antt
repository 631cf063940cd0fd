-- Where values end that stand in a payload.
use Rattle.std.specs.Prelude.{◌≡◌, ℕ, ◌-◌, ◌<◌, ◌%◌, List, length, take, drop, Some, Ok, IsUtf8}
use Rattle.zk_jute.specs.{Item.Item, Item.HaveBytes, Told.StandsAt, Shown.Stretch, Values.text_items, Reading.run_at}

-- one of these values is at the place, and ends there
abbrev pub EndsAt : {X : Type 0} → (X → List Item) → List ℕ → ℕ → ℕ → Type 0
EndsAt {X} items src place end = (x : X) × HaveBytes (items x) × StandsAt (items x) src place end

-- the bytes from the one place to the other are UTF-8
abbrev pub IsUtf8Between : List ℕ → ℕ → ℕ → Type 0
IsUtf8Between src place end = IsUtf8 (take (end - place) (drop place src))

-- from `place` to `at` are `count` texts, if the bytes from `from` on are UTF-8
abbrev pub TextsIfUtf8 : List ℕ → ℕ → ℕ → ℕ → ℕ → Type 0
TextsIfUtf8 src from place at count = IsUtf8Between src from at → Stretch text_items src place at count

-- a run whose length is four bytes of ASCII is at the place, and ends there
abbrev pub IsRunOfLowSize : List ℕ → ℕ → ℕ → Type 0
IsRunOfLowSize src place end = (bytes : List ℕ) × (length bytes < 32768) × (length bytes % 256 < 128) × (run_at src place ≡ Ok (Some bytes, end))
