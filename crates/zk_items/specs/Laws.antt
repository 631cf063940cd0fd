-- The two laws of a form.
use Rattle.std.specs.Prelude.{◌≡◌, ℕ, List, ◌++◌, Some, Bool, true}
use Rattle.zk_items.specs.Form.{Form, stops}

-- the laws, where what comes after the form is of a kind
pub record LawfulBefore {X : Type 0} (behind : List ℕ → Bool) (f : Form X) : Type 0 where
  -- a spelling is read again, whatever of the kind follows it
  pub again : (x : X) (rest : List ℕ) → f.fits x → behind rest ≡ true → f.at (f.spell x ++ rest) ≡ Some (x, rest)
  -- what is read was spelled
  pub sound : (bytes : List ℕ) (x : X) (rest : List ℕ) → f.at bytes ≡ Some (x, rest) → (bytes ≡ f.spell x ++ rest) × f.fits x

-- the laws of an item
abbrev pub Lawful : {X : Type 0} → Form X → Type 0
Lawful f = LawfulBefore stops f
