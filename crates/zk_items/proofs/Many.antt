-- One after another, up to a sign that ends them.
use Rattle.std.proofs.Common.{◌≡◌, ℕ, zero, suc, ◌<◌, List, [], ◌∷◌, ◌++◌, length, Option, Some, None, Bool, true, refl, sym, subst, ap, ◌∙◌, append_assoc, arith}
use Rattle.std.specs.List.{flat_map, AllByRecursion}
use Rattle.zk_items.specs.Form.{Read, ◌>>=◌}
use Rattle.zk_items.specs.Many.{many_at, then_more, with_first, with_front}
use Rattle.zk_items.proofs.Forms.{bind_some, some_is}

module _ {X : Type 0} (at : List ℕ → Read (Option X)) (spell : X → List ℕ) (fits : X → Type 0) (close : ℕ) (after : List ℕ → Bool)
    (again : (x : X) (rest : List ℕ) → fits x → after rest ≡ true → at (spell x ++ rest) ≡ Some (Some x, rest))
    (opens : (x : X) (rest : List ℕ) → after rest ≡ true → after (spell x ++ rest) ≡ true)
    (ends : (rest : List ℕ) → at (close ∷ rest) ≡ Some (None, rest))
    (stop : (rest : List ℕ) → after (close ∷ rest) ≡ true) where
  many_stop : (xs : List X) (rest : List ℕ) → after (flat_map spell xs ++ (close ∷ rest)) ≡ true
  many_stop [] rest = stop rest
  many_stop (x ∷ xs) rest = ap after (append_assoc (spell x) (flat_map spell xs) (close ∷ rest)) ∙ opens x _ (many_stop xs rest)

  pub many_again : (n : ℕ) (xs : List X) (rest : List ℕ) → AllByRecursion fits xs → length xs < n → many_at at n (flat_map spell xs ++ (close ∷ rest)) ≡ Some (xs, rest)
  many_again zero xs rest fit less = absurd (omega arith)
  many_again (suc n) [] rest fit less = ap (λ (r : Read (Option X)). r >>= then_more (many_at at n)) (ends rest)
  many_again (suc n) (x ∷ xs) rest fit less =
      ap (λ (b : List ℕ). at b >>= then_more (many_at at n)) (append_assoc (spell x) (flat_map spell xs) (close ∷ rest))
      ∙ ap (λ (r : Read (Option X)). r >>= then_more (many_at at n)) (again x _ fit.0 (many_stop xs rest))
      ∙ ap (with_first x) (many_again n xs rest fit.1 (omega arith))

module _ {X : Type 0} (at : List ℕ → Read (Option X)) (spell : X → List ℕ) (fits : X → Type 0) (close : ℕ)
    (sound : (bytes : List ℕ) (x : X) (rest : List ℕ) → at bytes ≡ Some (Some x, rest) → (bytes ≡ spell x ++ rest) × fits x)
    (ended : (bytes rest : List ℕ) → at bytes ≡ Some (None, rest) → bytes ≡ close ∷ rest) where
  after : (n : ℕ) (before : (bytes : List ℕ) (xs : List X) (rest : List ℕ) → many_at at n bytes ≡ Some (xs, rest) → (bytes ≡ flat_map spell xs ++ (close ∷ rest)) × AllByRecursion fits xs)
      (bytes : List ℕ) (xs : List X) (rest : List ℕ) (o : Option X) (behind : List ℕ) → at bytes ≡ Some (o, behind) → then_more (many_at at n) (o, behind) ≡ Some (xs, rest) → (bytes ≡ flat_map spell xs ++ (close ∷ rest)) × AllByRecursion fits xs
  after n before bytes xs rest None behind is e =
      let pair = some_is ([], behind) (xs, rest) e in
      subst (λ (ys : List X). (bytes ≡ flat_map spell ys ++ (close ∷ rest)) × AllByRecursion fits ys) pair.0 (ended bytes behind is ∙ ap (λ (r : List ℕ). close ∷ r) pair.1, tt)
  after n before bytes xs rest (Some x) behind is e =
      let b = bind_some (many_at at n behind) (λ q. Some (x ∷ q.0, q.1)) (xs, rest) e in
      let pair = some_is (x ∷ b.0.0, b.0.1) (xs, rest) b.2 in
      let first = sound bytes x behind is in
      let others = before behind b.0.0 b.0.1 b.1 in
      let whole : bytes ≡ flat_map spell (x ∷ b.0.0) ++ (close ∷ b.0.1) =
      first.0 ∙ ap (λ (r : List ℕ). spell x ++ r) others.0 ∙ sym (append_assoc (spell x) (flat_map spell b.0.0) (close ∷ b.0.1)) in
      subst (λ (ys : List X). (bytes ≡ flat_map spell ys ++ (close ∷ rest)) × AllByRecursion fits ys) pair.0
      (whole ∙ ap (λ (r : List ℕ). flat_map spell (x ∷ b.0.0) ++ (close ∷ r)) pair.1, (first.1, others.1))

  pub many_sound : (n : ℕ) (bytes : List ℕ) (xs : List X) (rest : List ℕ) → many_at at n bytes ≡ Some (xs, rest) → (bytes ≡ flat_map spell xs ++ (close ∷ rest)) × AllByRecursion fits xs
  many_sound zero bytes xs rest e = absurd cc
  many_sound (suc n) bytes xs rest e =
      let a = bind_some (at bytes) (then_more (many_at at n)) (xs, rest) e in
      after n (many_sound n) bytes xs rest a.0.0 a.0.1 a.1 a.2

-- ---- the loop that reads one after another

front_of_first : {X : Type 0} (front : List X) (x : X) (read : Read (List X)) → with_front front (with_first x read) ≡ with_front (front ++ (x ∷ [])) read
front_of_first front x None = refl
front_of_first front x (Some q) = ap (λ (xs : List _). Some (xs, q.1)) (sym (append_assoc front (x ∷ []) q.0))

pub no_front : {X : Type 0} (read : Read (List X)) → with_front [] read ≡ read
no_front None = refl
no_front (Some q) = refl

module _ {X : Type 0} (at : List ℕ → Read (Option X)) where
  step : (front : List X) (n m : ℕ) (bytes : List ℕ) (r : Read (Option X)) → n ≡ suc m → at bytes ≡ r → with_front front (many_at at n bytes) ≡ with_front front (r >>= then_more (many_at at m))
  step front n m bytes r is e =
      ap (λ (n : ℕ). with_front front (many_at at n bytes)) is
      ∙ ap (λ (r : Read (Option X)). with_front front (r >>= then_more (many_at at m))) e

  pub step_some : (front : List X) (n m : ℕ) (bytes rest : List ℕ) (x : X) → n ≡ suc m → at bytes ≡ Some (Some x, rest) → with_front front (many_at at n bytes) ≡ with_front (front ++ (x ∷ [])) (many_at at m rest)
  step_some front n m bytes rest x is e = step front n m bytes (Some (Some x, rest)) is e ∙ front_of_first front x (many_at at m rest)

  pub step_end : (front : List X) (n m : ℕ) (bytes rest : List ℕ) → n ≡ suc m → at bytes ≡ Some (None, rest) → with_front front (many_at at n bytes) ≡ Some (front ++ [], rest)
  step_end front n m bytes rest is e = step front n m bytes (Some (None, rest)) is e

  pub step_none : (front : List X) (n m : ℕ) (bytes : List ℕ) → n ≡ suc m → at bytes ≡ None → with_front front (many_at at n bytes) ≡ None
  step_none front n m bytes is e = step front n m bytes None is e
