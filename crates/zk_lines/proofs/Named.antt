-- Values that begin with a name are read as they are spelled.
use Rattle.std.proofs.Common.{◌≡◌, ℕ, List, [], ◌∷◌, ◌++◌, take, drop, Option, Some, None, Bool, true, false, length, ◌==◌, ◌&&◌, refl, ap, sym, ◌∙◌, append_assoc, cond, arith, bytes_eq}
use Rattle.std.specs.List.{prefix_len, AllByRecursion}
use Rattle.std.proofs.{lemmas.Bool.and_parts, lemmas.List.take-append-drop, lemmas.Slice.Eq.bytes_eq-Decides, Math.Seq.take-append_seam, Math.Seq.drop-append_seam}
use Rattle.zk_items.specs.Form.{Form, ◌>>=◌, read_map, stops, in_item, word_at}
use Rattle.zk_items.specs.{Leaf.in_name, Laws.LawfulBefore}
use Rattle.zk_items.proofs.{Forms.bind_some, Forms.some_is, Runs.run_is, Runs.stops_end_run}
use Rattle.zk_lines.specs.Named.{Bodies, named, first_named}

name_in_item : (b : ℕ) → in_name b ≡ true → in_item b ≡ true
name_in_item b h = grind arith

-- the key that is found has the name
first_sound : {K : Type 0} (name : K → List ℕ) (keys : List K) (bytes : List ℕ) (k : K) → first_named name keys bytes ≡ Some k → bytes ≡ name k
first_sound name [] bytes k e = absurd cc
first_sound {K} name (x ∷ keys) bytes k e = pick (bytes_eq bytes (name x)) refl e (first_sound name keys bytes k) where
  same : (a b : List ℕ) → bytes_eq a b ≡ true → a ≡ b
  same a b h = grind (arith, bytes_eq-Decides, h)

  pick : (t : Bool) → bytes_eq bytes (name x) ≡ t → cond t (Some x) (first_named name keys bytes) ≡ Some k → (first_named name keys bytes ≡ Some k → bytes ≡ name k) → bytes ≡ name k
  pick true is e others = let h : x ≡ k = cc in same bytes (name x) is ∙ ap name h
  pick false is e others = others e

-- each key has its name, of letters and digits, which begins with no brace, and no other key has it
pub record IsNames {K : Type 0} (name : K → List ℕ) (key_at : List ℕ → Option K) : Type 0 where
  pub found : (k : K) → key_at (name k) ≡ Some k
  pub tells : (bytes : List ℕ) (k : K) → key_at bytes ≡ Some k → bytes ≡ name k
  pub letters : (k : K) → AllByRecursion (λ c. in_name c ≡ true) (name k)
  pub unbraced : (k : K) (rest : List ℕ) → word_at (125 ∷ []) (name k ++ rest) ≡ None

abbrev are_letters : List ℕ → Bool
are_letters [] = true
are_letters (b ∷ bytes) = in_name b && are_letters bytes

abbrev is_name : List ℕ → Bool
is_name [] = false
is_name (b ∷ bytes) = are_letters (b ∷ bytes)

-- names that are written out
lettered : (bytes : List ℕ) → are_letters bytes ≡ true → AllByRecursion (λ c. in_name c ≡ true) bytes
lettered [] e = tt
lettered (b ∷ bytes) e = let p = and_parts (in_name b) (are_letters bytes) e in (p.0, lettered bytes p.1)

named_letters : (bytes : List ℕ) → is_name bytes ≡ true → AllByRecursion (λ c. in_name c ≡ true) bytes
named_letters [] e = tt
named_letters (b ∷ bytes) e = lettered (b ∷ bytes) e

no_brace : (bytes rest : List ℕ) → is_name bytes ≡ true → word_at (125 ∷ []) (bytes ++ rest) ≡ None
unfolding word_at
no_brace [] rest e = absurd cc
no_brace (b ∷ bytes) rest e =
    let letter = (and_parts (in_name b) (are_letters bytes) e).0 in
    let other : (125 == b) ≡ false = grind (arith, letter) in
    ap (λ (t : Bool). cond t (Some (bytes ++ rest)) None) other

-- a key that is found by its name, of letters and digits
abbrev pub IsFound : {K : Type 0} → (K → List ℕ) → List K → K → Type 0
IsFound name keys k = (first_named name keys (name k) ≡ Some k) × (is_name (name k) ≡ true)

-- names that are listed
pub names_of : {K : Type 0} (name : K → List ℕ) (keys : List K) → ((k : K) → IsFound name keys k) → IsNames name (first_named name keys)
names_of name keys found = record {
  found = λ k. (found k).0;
  tells = first_sound name keys;
  letters = λ k. named_letters (name k) (found k).1;
  unbraced = λ k rest. no_brace (name k) rest (found k).1;
}

pub record IsNamed {K X : Type 0} (behind : List ℕ → Bool) (b : Bodies K X) : Type 0 where
  -- names
  pub found : (k : K) → b.key_at (b.name k) ≡ Some k
  pub tells : (bytes : List ℕ) (k : K) → b.key_at bytes ≡ Some k → bytes ≡ b.name k
  pub letters : (k : K) → AllByRecursion (λ c. in_name c ≡ true) (b.name k)
  -- bodies
  pub opens : (x : X) (rest : List ℕ) → behind rest ≡ true → stops (b.spell x ++ rest) ≡ true
  pub again : (x : X) (rest : List ℕ) → b.fits x → behind rest ≡ true → b.at (b.key x) (b.spell x ++ rest) ≡ Some (x, rest)
  pub sound : (k : K) (bytes : List ℕ) (x : X) (rest : List ℕ) → b.at k bytes ≡ Some (x, rest) → (b.key x ≡ k) × ((bytes ≡ b.spell x ++ rest) × b.fits x)

module _ {K X : Type 0} {behind : List ℕ → Bool} (b : Bodies K X) (is : IsNamed behind b) where
  named_again : (x : X) (rest : List ℕ) → b.fits x → behind rest ≡ true → (named b).at ((b.name (b.key x) ++ b.spell x) ++ rest) ≡ Some (x, rest)
  named_again x rest fit stop =
      let name = b.name (b.key x) in
      let after = b.spell x ++ rest in
      let len : prefix_len in_name (name ++ after) ≡ length name = run_is in_name name after (is.letters (b.key x)) (stops_end_run in_name name_in_item after (is.opens x rest stop)) in
      ap (named b).at (append_assoc name (b.spell x) rest)
      ∙ ap (λ (n : ℕ). b.key_at (take n (name ++ after)) >>= λ k. b.at k (drop n (name ++ after))) len
      ∙ ap (λ (r : List ℕ). b.key_at r >>= λ k. b.at k (drop (length name) (name ++ after))) (take-append_seam name after)
      ∙ ap (λ (r : List ℕ). b.key_at name >>= λ k. b.at k r) (drop-append_seam name after)
      ∙ ap (λ (o : Option K). o >>= λ k. b.at k after) (is.found (b.key x))
      ∙ is.again x rest fit stop

  named_sound : (bytes : List ℕ) (x : X) (rest : List ℕ) → (named b).at bytes ≡ Some (x, rest) → (bytes ≡ (b.name (b.key x) ++ b.spell x) ++ rest) × b.fits x
  named_sound bytes x rest e =
      let n = prefix_len in_name bytes in
      let s = bind_some (b.key_at (take n bytes)) (λ k. b.at k (drop n bytes)) (x, rest) e in
      let body = is.sound s.0 (drop n bytes) x rest s.2 in
      let name = is.tells (take n bytes) s.0 s.1 in
      (sym (take-append-drop n bytes) ∙ ap (λ (r : List ℕ). r ++ drop n bytes) (name ∙ ap b.name (sym body.0)) ∙ ap (λ (r : List ℕ). b.name (b.key x) ++ r) body.1.0 ∙ sym (append_assoc (b.name (b.key x)) (b.spell x) rest), body.1.1)

  pub named_is : LawfulBefore behind (named b)
  named_is = record { again = named_again; sound = named_sound }

-- what is read of a variant's form
abbrev pub IsRead : {K X : Type 0} → Bodies K X → K → List ℕ → List ℕ → X → Type 0
IsRead b k bytes rest x = (b.key x ≡ k) × ((bytes ≡ b.spell x ++ rest) × b.fits x)

pub mapped : {X Y : Type 0} {behind : List ℕ → Bool} (f : Form X) (is : LawfulBefore behind f) (v : X → Y) (bytes rest : List ℕ) (y : Y) → read_map v (f.at bytes) ≡ Some (y, rest) → (x : X) × (v x ≡ y) × ((bytes ≡ f.spell x ++ rest) × f.fits x)
mapped f is v bytes rest y e =
    let b = bind_some (f.at bytes) (λ q. Some (v q.0, q.1)) (y, rest) e in
    let pair = some_is (v b.0.0, b.0.1) (y, rest) b.2 in
    let s = is.sound bytes b.0.0 b.0.1 b.1 in
    (b.0.0, pair.0, (s.0 ∙ ap (λ (r : List ℕ). f.spell b.0.0 ++ r) pair.1, s.1))
