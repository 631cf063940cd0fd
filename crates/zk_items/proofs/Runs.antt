-- The longest run of bytes that pass a test.
use Rattle.std.proofs.Common.{◌≡◌, ℕ, zero, suc, ◌+◌, List, [], ◌∷◌, ◌++◌, length, take, Bool, true, false, refl, ap, subst, ◌∙◌, cond, arith}
use Rattle.std.specs.List.{prefix_len, AllByRecursion}
use Rattle.zk_items.specs.Form.{stops, in_item}

-- a run ends before these bytes
abbrev pub run_ends : (ℕ → Bool) → List ℕ → Bool
run_ends p [] = true
run_ends p (b ∷ rest) = cond (p b) false true

-- what an item may end before ends every run within what goes on
pub stops_end_run : (p : ℕ → Bool) → ((b : ℕ) → p b ≡ true → in_item b ≡ true) → (rest : List ℕ) → stops rest ≡ true → run_ends p rest ≡ true
stops_end_run p within [] stop = refl
stops_end_run p within (b ∷ rest) stop = pick (p b) refl where
  pick : (t : Bool) → p b ≡ t → cond t false true ≡ true
  pick false is = refl
  pick true is = absurd (let h : in_item b ≡ true = within b is in let k : cond (in_item b) false true ≡ true = stop in cc)

none_runs : (p : ℕ → Bool) (b : ℕ) (rest : List ℕ) (t : Bool) → p b ≡ t → cond t false true ≡ true → cond (p b) (1 + prefix_len p rest) 0 ≡ 0
none_runs p b rest true e stop = absurd cc
none_runs p b rest false e stop = ap (λ (t : Bool). cond t (1 + prefix_len p rest) 0) e

-- the longest run of bytes that pass is all that stands before what doesn't
pub run_is : (p : ℕ → Bool) (xs rest : List ℕ) → AllByRecursion (λ b. p b ≡ true) xs → run_ends p rest ≡ true → prefix_len p (xs ++ rest) ≡ length xs
run_is p [] [] all stop = refl
run_is p [] (b ∷ rest) all stop = none_runs p b rest (p b) refl stop
run_is p (x ∷ xs) rest all stop = ap (λ (t : Bool). cond t (1 + prefix_len p (xs ++ rest)) 0) all.0 ∙ ap (λ (n : ℕ). 1 + n) (run_is p xs rest all.1 stop) ∙ omega arith

pub run_passes : (p : ℕ → Bool) (bytes : List ℕ) → AllByRecursion (λ b. p b ≡ true) (take (prefix_len p bytes) bytes)
run_passes p [] = tt
run_passes p (b ∷ bytes) = pick (p b) refl (run_passes p bytes) where
  pick : (t : Bool) → p b ≡ t → AllByRecursion (λ b. p b ≡ true) (take (prefix_len p bytes) bytes) → AllByRecursion (λ b. p b ≡ true) (take (cond t (1 + prefix_len p bytes) 0) (b ∷ bytes))
  pick true is others =
      let one : suc (prefix_len p bytes) ≡ 1 + prefix_len p bytes = omega arith in
      subst (λ (n : ℕ). AllByRecursion (λ b. p b ≡ true) (take n (b ∷ bytes))) one (is, others)
  pick false is others = tt

-- ---- what holds of each byte

pub all_joined : {X : Type 0} (P : X → Type 0) (xs ys : List X) → AllByRecursion P xs → AllByRecursion P ys → AllByRecursion P (xs ++ ys)
all_joined P [] ys h k = k
all_joined P (x ∷ xs) ys h k = (h.0, all_joined P xs ys h.1 k)

pub all_front : {X : Type 0} (P : X → Type 0) (n : ℕ) (xs : List X) → AllByRecursion P xs → AllByRecursion P (take n xs)
all_front P zero xs h = tt
all_front P (suc n) [] h = tt
all_front P (suc n) (x ∷ xs) h = (h.0, all_front P n xs h.1)
