-- Values that begin with a name, by which the rest is spelled.
use Rattle.std.specs.Prelude.{ℕ, List, ◌++◌, take, drop, Option, bytes_eq}
use Rattle.std.specs.List.{find, prefix_len}
use Rattle.zk_items.specs.Form.{Form, Read, ◌>>=◌}
use Rattle.zk_items.specs.Leaf.{in_name}

-- the first of the keys that has this name
abbrev pub first_named : {K : Type 0} → (K → List ℕ) → List K → List ℕ → Option K
first_named name keys bytes = find (λ k. bytes_eq bytes (name k)) keys

-- the longest run of letters and digits is a name
abbrev pub named_at : {K X : Type 0} → (List ℕ → Option K) → (K → List ℕ → Read X) → List ℕ → Read X
named_at key_at body_at bytes = key_at (take (prefix_len in_name bytes) bytes) >>= λ k. body_at k (drop (prefix_len in_name bytes) bytes)

-- what the form of a key's body is
pub record Bodies (K X : Type 0) : Type 1 where
  pub name : K → List ℕ
  pub key_at : List ℕ → Option K
  pub key : X → K
  pub fits : X → Type 0
  pub spell : X → List ℕ
  pub at : K → List ℕ → Read X

abbrev pub named : {K X : Type 0} → Bodies K X → Form X
named b = record {
  fits = b.fits;
  spell = λ x. b.name (b.key x) ++ b.spell x;
  at = named_at b.key_at b.at;
}
