-- What is copied out of a payload, element by element.
use Rattle.std.proofs.Common.{◌≡◌, List, map, refl, sym, ◌∙◌, ap}
use Rattle.std.proofs.{lemmas.List.map-id, lemmas.Iterator.items_from_drains, lemmas.Iterator.Consumers.YieldsList-from_first}
use Rattle.std.specs.Iterator.{Drains, YieldsFirst}
use Rattle.zk_jute.specs.declared.value.Nullable.TheVariants as nullable
use Rattle.zk_jute.specs.Held.{Vector}
use Rattle.zk_records.specs.Owned.{each}

-- what an iterator gives is what it had left
pub all_given : {S X : Type 0} (rest : S → List X) (s : S) (xs : List X) → Drains (YieldsFirst rest) s xs → xs ≡ rest s
all_given rest s xs drains = sym (map-id xs) ∙ items_from_drains xs (drains.1.0, drains.1.1, λ _. (drains.0, drains.1.2)) (YieldsList-from_first (λ x. x) rest (rest s) refl)

pub each_same : {X : Type 0} (v : Vector X) → each (λ (x : X). x) v ≡ v
each_same nullable.Null = refl
each_same (nullable.Full xs) = ap nullable.Full (map-id xs)

-- a copy of each part, or of each result, is the same list
pub all_same : {X : Type 0} (xs : List X) → map (λ (x : X). x) xs ≡ xs
all_same xs = map-id xs
