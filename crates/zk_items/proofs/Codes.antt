-- Numbers with names are read as they are spelled.
use Rattle.std.proofs.Common.{◌≡◌, ℕ, List, [], ◌∷◌, ◌++◌, Option, Some, None, Bool, true, false, ◌==◌, refl, ap, sym, subst, ◌∙◌, append_assoc, cond, arith, eqb-true}
use Rattle.std.specs.Prelude.{ℤ, codes}
use Rattle.std.specs.Fmt.{signed_decimal}
use Rattle.zk_items.specs.Form.{Read, ◌>>=◌, stops, word_at}
use Rattle.zk_items.specs.{Leaf.num_at, Leaf.in_range, Leaf.in_number, Laws.Lawful}
use Rattle.zk_items.specs.Codes.{name_spell, name_at, code, other_code, is_zero, is_next}
use Rattle.zk_items.proofs.{Forms.bind_some, Forms.some_is, Forms.if_not, Forms.word_again, Forms.word_sound, Numbers.int_is, Numbers.num_again, Numbers.number_in_item, Runs.run_ends, Runs.stops_end_run}

name_again : (name : Option (List ℕ)) (rest : List ℕ) → stops rest ≡ true → name_at name (name_spell name ++ rest) ≡ Some rest
unfolding name_at
name_again (Some name) rest stop =
    ap (λ (o : Option (List ℕ)). o >>= word_at name) (word_again (codes "/") (name ++ rest)) ∙ word_again name rest
name_again None [] stop = refl
name_again None (b ∷ rest) stop = pick (b == 47) refl where
  pick : (t : Bool) → (b == 47) ≡ t → cond t None (Some (b ∷ rest)) ≡ Some (b ∷ rest)
  pick false is = refl
  pick true is = absurd (let same : b ≡ 47 = eqb-true b 47 is in let h : stops (47 ∷ rest) ≡ true = ap (λ (c : ℕ). stops (c ∷ rest)) (sym same) ∙ stop in cc)

name_sound : (name : Option (List ℕ)) (bytes rest : List ℕ) → name_at name bytes ≡ Some rest → bytes ≡ name_spell name ++ rest
unfolding name_at
name_sound (Some name) bytes rest e =
    let a = bind_some (word_at (codes "/") bytes) (word_at name) rest e in
    word_sound (codes "/") bytes a.0 a.1 ∙ ap (λ (r : List ℕ). 47 ∷ r) (word_sound name a.0 rest a.2)
name_sound None bytes rest e = let h = if_not (is_next 47 bytes) (Some bytes) rest e in let k = h.1 in cc

name_ends : (name : Option (List ℕ)) (rest : List ℕ) → stops rest ≡ true → run_ends in_number (name_spell name ++ rest) ≡ true
name_ends (Some name) rest stop = refl
name_ends None rest stop = stops_end_run in_number number_in_item rest stop

module _ (name : ℤ → Option (List ℕ)) where
  number_again : (n : ℤ) (rest : List ℕ) → in_range 31 n ≡ true → stops rest ≡ true → num_at 31 (signed_decimal n ++ (name_spell (name n) ++ rest)) ≡ Some (n, name_spell (name n) ++ rest)
  number_again n rest fit stop = num_again 31 (λ n h. omega arith) n (name_spell (name n) ++ rest) fit (name_ends (name n) rest stop)

  code_again : (n : ℤ) (rest : List ℕ) → in_range 31 n ≡ true → stops rest ≡ true → (code name).at ((signed_decimal n ++ name_spell (name n)) ++ rest) ≡ Some (n, rest)
  code_again n rest fit stop =
      ap (code name).at (append_assoc (signed_decimal n) (name_spell (name n)) rest)
      ∙ ap (λ (r : Read ℤ). r >>= λ q. name_at (name q.0) q.1 >>= λ rest. Some (q.0, rest)) (number_again n rest fit stop)
      ∙ ap (λ (o : Option (List ℕ)). o >>= λ rest. Some (n, rest)) (name_again (name n) rest stop)

  -- what is read of a number and what its name is
  code_part : (bytes : List ℕ) (n : ℤ) (rest : List ℕ) (m : ℤ) (behind : List ℕ) → num_at 31 bytes ≡ Some (m, behind) → ◌>>=◌ {B = ℤ × List ℕ} (name_at (name m) behind) (λ rest. Some (m, rest)) ≡ Some (n, rest)
      → (m ≡ n) × ((bytes ≡ (signed_decimal n ++ name_spell (name n)) ++ rest) × (in_range 31 n ≡ true))
  code_part bytes n rest m behind is e =
      let b = bind_some (name_at (name m) behind) (λ rest. Some (m, rest)) (n, rest) e in
      let h = some_is (m, b.0) (n, rest) b.2 in
      let s = int_is.sound bytes m behind is in (
        h.0,
        (
          subst (λ (n : ℤ). bytes ≡ (signed_decimal n ++ name_spell (name n)) ++ rest) h.0
              (s.0 ∙ ap (λ (r : List ℕ). signed_decimal m ++ r) (name_sound (name m) behind b.0 b.1 ∙ ap (λ (r : List ℕ). name_spell (name m) ++ r) h.1) ∙ sym (append_assoc (signed_decimal m) (name_spell (name m)) rest)),
          subst (λ (n : ℤ). in_range 31 n ≡ true) h.0 s.1,
        ),
      )

  code_sound : (bytes : List ℕ) (n : ℤ) (rest : List ℕ) → (code name).at bytes ≡ Some (n, rest) → (bytes ≡ (signed_decimal n ++ name_spell (name n)) ++ rest) × (in_range 31 n ≡ true)
  code_sound bytes n rest e =
      let a = bind_some (num_at 31 bytes) (λ q. name_at (name q.0) q.1 >>= λ rest. Some (q.0, rest)) (n, rest) e in
      (code_part bytes n rest a.0.0 a.0.1 a.1 a.2).1

  pub code_is : Lawful (code name)
  code_is = record { again = code_again; sound = code_sound }

  other_again : (n : ℤ) (rest : List ℕ) → (in_range 31 n ≡ true) × (is_zero n ≡ false) → stops rest ≡ true → (other_code name).at ((signed_decimal n ++ name_spell (name n)) ++ rest) ≡ Some (n, rest)
  other_again n rest fit stop =
      ap (other_code name).at (append_assoc (signed_decimal n) (name_spell (name n)) rest)
      ∙ ap (λ (r : Read ℤ). r >>= λ q. cond (is_zero q.0) None (name_at (name q.0) q.1 >>= λ rest. Some (q.0, rest))) (number_again n rest fit.0 stop)
      ∙ ap (λ (t : Bool). cond t None (name_at (name n) (name_spell (name n) ++ rest) >>= λ rest. Some (n, rest))) fit.1
      ∙ ap (λ (o : Option (List ℕ)). o >>= λ rest. Some (n, rest)) (name_again (name n) rest stop)

  other_sound : (bytes : List ℕ) (n : ℤ) (rest : List ℕ) → (other_code name).at bytes ≡ Some (n, rest) → (bytes ≡ (signed_decimal n ++ name_spell (name n)) ++ rest) × ((in_range 31 n ≡ true) × (is_zero n ≡ false))
  other_sound bytes n rest e =
      let a = bind_some (num_at 31 bytes) (λ q. cond (is_zero q.0) None (name_at (name q.0) q.1 >>= λ rest. Some (q.0, rest))) (n, rest) e in
      let b = if_not (is_zero a.0.0) (name_at (name a.0.0) a.0.1 >>= λ rest. Some (a.0.0, rest)) (n, rest) a.2 in
      let p = code_part bytes n rest a.0.0 a.0.1 a.1 b.1 in
      (p.1.0, (p.1.1, ap is_zero (sym p.0) ∙ b.0))

  pub other_code_is : Lawful (other_code name)
  other_code_is = record { again = other_again; sound = other_sound }
