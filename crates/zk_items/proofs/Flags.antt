-- Bits.
use Rattle.std.proofs.Common.{◌≡◌, ℕ, List, [], ◌∷◌, ◌++◌, Option, Some, None, Bool, true, false, refl, arith}
use Rattle.zk_items.specs.{Form.stops, Leaf.bit_at, Leaf.bit_spell, Leaf.bit, Leaf.ro_at, Leaf.ro_spell, Leaf.ro, Laws.Lawful}
use Rattle.zk_items.proofs.Forms.{some_is}

pub bit_again : (x : Bool) (rest : List ℕ) → Unit {0} → stops rest ≡ true → bit_at (bit_spell x ++ rest) ≡ Some (x, rest)
unfolding bit_at
bit_again true rest fit stop = refl
bit_again false rest fit stop = refl

pub bit_sound : (bytes : List ℕ) (x : Bool) (rest : List ℕ) → bit_at bytes ≡ Some (x, rest) → (bytes ≡ bit_spell x ++ rest) × Unit {0}
unfolding bit_at
bit_sound [] x rest e = absurd cc
bit_sound (b ∷ bytes) x rest e = grind (arith, some_is)

pub ro_again : (x : Option Bool) (rest : List ℕ) → Unit {0} → stops rest ≡ true → ro_at (ro_spell x ++ rest) ≡ Some (x, rest)
unfolding ro_at
ro_again None rest fit stop = refl
ro_again (Some true) rest fit stop = refl
ro_again (Some false) rest fit stop = refl

pub ro_sound : (bytes : List ℕ) (x : Option Bool) (rest : List ℕ) → ro_at bytes ≡ Some (x, rest) → (bytes ≡ ro_spell x ++ rest) × Unit {0}
unfolding ro_at
ro_sound [] x rest e = absurd cc
ro_sound (b ∷ bytes) x rest e = grind (arith, some_is)

pub bit_is : Lawful bit
bit_is = record { again = bit_again; sound = bit_sound }

pub ro_is : Lawful ro
ro_is = record { again = ro_again; sound = ro_sound }
