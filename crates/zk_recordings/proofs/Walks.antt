-- Values of parts are read from bytes in one way.
use Rattle.std.proofs.Common.{◌≡◌, ℕ, ◌+◌, ◌<◌, ◌≤◌, inl, inr, List, [], ◌∷◌, ◌++◌, length, take, drop, Bool, true, false, cond, nat_lt, refl, sym, ◌∙◌, ap, subst, append_assoc, arith, length-append, length-take}
use Rattle.std.proofs.{lemmas.Bool.cases_lt, lemmas.Bool.cases_Bool, lemmas.Bool.Decides.nat_tests, lemmas.List.take_at, lemmas.List.drop_at, lemmas.List.take-append-drop}
use Rattle.zk_recordings.specs.{declared.parts.Part.Part, Parts.width, Parts.is_good}
use Rattle.zk_recordings.specs.Recording.{IsValue, AreValues, spelled, End, Cut, Bad, end_bytes, Break, IsBreakIn, IsBreak, break_bytes}

pub data Walk : Type 0 where
  Walked : (values : List (List ℕ)) (rest : List ℕ) → Walk
  Broke : (b : Break) → Walk

abbrev pub push : List ℕ → Walk → Walk
push v (Walked vs rest) = Walked (v ∷ vs) rest
push v (Broke b) = Broke (record { before = v ∷ b.before; part = b.part; end = b.end })

abbrev pub cut_at : Part → List ℕ → Break
cut_at p bytes = record { before = []; part = p; end = Cut bytes }

abbrev pub bad_at : Part → List ℕ → List ℕ → Break
bad_at p v more = record { before = []; part = p; end = Bad v more }

-- the parts that bytes begin with
abbrev pub walk : List Part → List ℕ → Walk
walk [] bytes = Walked [] bytes
walk (p ∷ ps) bytes = cond (nat_lt (length bytes) (width p)) (Broke (cut_at p bytes))
    (cond (is_good p (take (width p) bytes)) (push (take (width p) bytes) (walk ps (drop (width p) bytes))) (Broke (bad_at p (take (width p) bytes) (drop (width p) bytes))))

pub cond-true : {A : Type 0} (b : Bool) (x y : A) → b ≡ true → cond b x y ≡ x
cond-true b x y e = ap (λ c. cond c x y) e

pub cond-false : {A : Type 0} (b : Bool) (x y : A) → b ≡ false → cond b x y ≡ y
cond-false b x y e = ap (λ c. cond c x y) e

pub lt-true : (a b : ℕ) → a < b → nat_lt a b ≡ true
lt-true a b h = grind (arith, nat_tests)

pub lt-false : (a b : ℕ) → b ≤ a → nat_lt a b ≡ false
lt-false a b h = grind (arith, nat_tests)

pub spelled-append : (vs : List (List ℕ)) (a b : List ℕ) → spelled vs a ++ b ≡ spelled vs (a ++ b)
spelled-append [] a b = refl
spelled-append (v ∷ vs) a b = append_assoc v (spelled vs a) b ∙ ap (λ l. v ++ l) (spelled-append vs a b)

pub length-spelled : (vs : List (List ℕ)) (a : List ℕ) → length (spelled vs a) ≡ length (spelled vs []) + length a
length-spelled [] a = omega arith
length-spelled (v ∷ vs) a = omega (arith, length-append v (spelled vs a), length-append v (spelled vs []), length-spelled vs a)

-- ---- what is spelled is read

module _ (p : Part) (ps : List Part) (v rest : List ℕ) (wide : length v ≡ width p) where
  whole : nat_lt (length (v ++ rest)) (width p) ≡ false
  whole = lt-false _ _ (omega (arith, length-append v rest, wide))

  walk-good : is_good p v ≡ true → walk (p ∷ ps) (v ++ rest) ≡ push v (walk ps rest)
  walk-good good =
      cond-false _ _ _ whole
      ∙ cond-true _ _ _ (ap (is_good p) (take_at v rest (width p) wide) ∙ good)
      ∙ ap (λ u. push u (walk ps (drop (width p) (v ++ rest)))) (take_at v rest (width p) wide)
      ∙ ap (λ u. push v (walk ps u)) (drop_at v rest (width p) wide)

  walk-bad : is_good p v ≡ false → walk (p ∷ ps) (v ++ rest) ≡ Broke (bad_at p v rest)
  walk-bad bad =
      cond-false _ _ _ whole
      ∙ cond-false _ _ _ (ap (is_good p) (take_at v rest (width p) wide) ∙ bad)
      ∙ ap (λ u. Broke (bad_at p u (drop (width p) (v ++ rest)))) (take_at v rest (width p) wide)
      ∙ ap (λ u. Broke (bad_at p v u)) (drop_at v rest (width p) wide)

pub walk-values : (ps : List Part) (vs : List (List ℕ)) (rest : List ℕ) → AreValues ps vs → walk ps (spelled vs rest) ≡ Walked vs rest
walk-values [] [] rest are = refl
walk-values [] (v ∷ vs) rest are = absurd are
walk-values (p ∷ ps) [] rest are = absurd are
walk-values (p ∷ ps) (v ∷ vs) rest are = walk-good p ps v (spelled vs rest) are.0.wide are.0.good ∙ ap (push v) (walk-values ps vs rest are.1)

walk-end : (p : Part) (ps : List Part) (part : Part) (end : End) → IsBreakIn (p ∷ ps) [] part end → walk (p ∷ ps) (end_bytes end) ≡ Broke (record { before = []; part = part; end = end })
walk-end p ps part (Cut begun) is = cond-true _ _ _ (lt-true _ _ is.1) ∙ ap (λ q. Broke (cut_at q begun)) (sym is.0)
walk-end p ps part (Bad value more) is = walk-bad p ps value more is.1.0 is.1.1 ∙ ap (λ q. Broke (bad_at q value more)) (sym is.0)

walk-break-in : (ps : List Part) (before : List (List ℕ)) (part : Part) (end : End) → IsBreakIn ps before part end →
    walk ps (spelled before (end_bytes end)) ≡ Broke (record { before = before; part = part; end = end })
walk-break-in [] before part end is = absurd is
walk-break-in (p ∷ ps) [] part end is = walk-end p ps part end is
walk-break-in (p ∷ ps) (v ∷ vs) part end is = walk-good p ps v (spelled vs (end_bytes end)) is.0.wide is.0.good ∙ ap (push v) (walk-break-in ps vs part end is.1)

pub walk-break : (ps : List Part) (b : Break) → IsBreak ps b → walk ps (break_bytes b) ≡ Broke b
walk-break ps b is = walk-break-in ps b.before b.part b.end is

-- ---- what is read is spelled

abbrev pub IsWalk : List Part → List ℕ → Walk → Type 0
IsWalk ps bytes (Walked vs rest) = AreValues ps vs × (bytes ≡ spelled vs rest)
IsWalk ps bytes (Broke b) = IsBreak ps b × (bytes ≡ break_bytes b)

pushed : (p : Part) (ps : List Part) (v rest bytes : List ℕ) (w : Walk) → IsValue p v → bytes ≡ v ++ rest → IsWalk ps rest w → IsWalk (p ∷ ps) bytes (push v w)
pushed p ps v rest bytes (Walked vs more) is e i = ((is, i.0), e ∙ ap (λ l. v ++ l) i.1)
pushed p ps v rest bytes (Broke b) is e i = ((is, i.0), e ∙ ap (λ l. v ++ l) i.1)

pub walk-is : (ps : List Part) (bytes : List ℕ) → IsWalk ps bytes (walk ps bytes)
walk-is [] bytes = (tt, refl)
walk-is (p ∷ ps) bytes = elim (cases_lt (length bytes) (width p)) [
  | inl less ↦ subst (IsWalk (p ∷ ps) bytes) (sym (cond-true _ _ _ (lt-true _ _ less))) ((refl, less), refl)
  | inr enough ↦
      let v = take (width p) bytes in
      let rest = drop (width p) bytes in
      let wide : length v ≡ width p = omega (arith, length-take (width p) bytes) in
      let split : bytes ≡ v ++ rest = sym (take-append-drop (width p) bytes) in
      subst (IsWalk (p ∷ ps) bytes) (sym (cond-false _ _ _ (lt-false _ _ enough))) (elim (cases_Bool (is_good p v)) [
        | inl good ↦ subst (IsWalk (p ∷ ps) bytes) (sym (cond-true _ _ _ good)) (pushed p ps v rest bytes (walk ps rest) (record { wide = wide; good = good }) split (walk-is ps rest))
        | inr bad ↦ subst (IsWalk (p ∷ ps) bytes) (sym (cond-false _ _ _ bad)) ((refl, (wide, bad)), split)
      ])
]
