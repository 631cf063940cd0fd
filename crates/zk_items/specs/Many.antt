-- One after another, up to an end.
use Rattle.std.specs.Prelude.{◌≡◌, ℕ, zero, suc, List, [], ◌∷◌, ◌++◌, Option, Some, None, Result, Ok, Err}
use Rattle.zk_items.specs.Form.{Read, ◌>>=◌, Fails}
use Rattle.zk_items.specs.declared.fault.LineFault.{LineFault}

-- with an item in front
abbrev pub with_first : {X : Type 0} → X → Read (List X) → Read (List X)
with_first x read = read >>= λ q. Some (x ∷ q.0, q.1)

-- with items in front
abbrev pub with_front : {X : Type 0} → List X → Read (List X) → Read (List X)
with_front front read = read >>= λ q. Some (front ++ q.0, q.1)

abbrev pub then_more : {X : Type 0} → (List ℕ → Read (List X)) → Option X × List ℕ → Read (List X)
then_more next (None, rest) = Some ([], rest)
then_more next (Some x, rest) = with_first x (next rest)

-- fewer than n, and the end
abbrev pub many_at : {X : Type 0} → (List ℕ → Read (Option X)) → ℕ → List ℕ → Read (List X)
many_at at zero bytes = None
many_at at (suc n) bytes = at bytes >>= then_more (many_at at n)

-- what is read is appended
abbrev pub GivesMore : Result (Unit {0}) LineFault → List ℕ → List ℕ → List ℕ → Read (List ℕ) → Type 0
GivesMore (Ok x) rest old new read = with_front old read ≡ Some (new, rest)
GivesMore (Err e) rest old new read = Fails e read
