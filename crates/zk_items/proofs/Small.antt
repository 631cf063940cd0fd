-- The bytes of a text are numbers below 256.
use Rattle.std.proofs.Common.{◌≡◌, ℕ, ◌+◌, ◌/◌, ◌%◌, ◌<◌, List, [], ◌∷◌, Bool, true, false, inl, inr, refl, subst, cond, arith, ltb-true}
use Rattle.std.specs.Prelude.{IsUtf8, nat_lt}
use Rattle.std.specs.List.{AllByRecursion}
use Rattle.std.proofs.Math.Utf8.{encode, encodes, scalar, scalars, scalar_cases}
use Rattle.std.proofs.lemmas.Bool.{and_parts}
use Rattle.zk_items.proofs.Runs.{all_joined}

abbrev Small : List ℕ → Type 0
Small bytes = AllByRecursion (λ b. b < 256) bytes

either : (t : Bool) (xs ys : List ℕ) → (t ≡ true → Small xs) → Small ys → Small (cond t xs ys)
either true xs ys f g = f refl
either false xs ys f g = g

scalar_top : (c : ℕ) → scalar c ≡ true → c < 1114112
scalar_top c ok = elim (scalar_cases c ok) [ inl low ↦ omega arith | inr high ↦ high.1 ]

char_small : (c : ℕ) → scalar c ≡ true → Small (encode c)
unfolding encode
char_small c ok =
    let top : c < 1114112 = scalar_top c ok in
    either (nat_lt c 128) _ _ (λ e. one (ltb-true c 128 e)) (either (nat_lt c 2048) _ _ (λ e. two (ltb-true c 2048 e)) (either (nat_lt c 65536) _ _ (λ e. three (ltb-true c 65536 e)) (four top))) where
      one : c < 128 → Small (c ∷ [])
      one h = (omega arith, tt)

      two : c < 2048 → Small ((192 + c / 64) ∷ (128 + c % 64) ∷ [])
      two h = (omega arith, (omega arith, tt))

      three : c < 65536 → Small ((224 + c / 4096) ∷ (128 + c / 64 % 64) ∷ (128 + c % 64) ∷ [])
      three h = (omega arith, (omega arith, (omega arith, tt)))

      four : c < 1114112 → Small ((240 + c / 262144) ∷ (128 + c / 4096 % 64) ∷ (128 + c / 64 % 64) ∷ (128 + c % 64) ∷ [])
      four h = (omega arith, (omega arith, (omega arith, (omega arith, tt))))

chars_small : (cs : List ℕ) → scalars cs ≡ true → Small (encodes cs)
chars_small [] ok = tt
chars_small (c ∷ cs) ok = let p = and_parts (scalar c) (scalars cs) ok in all_joined (λ b. b < 256) (encode c) (encodes cs) (char_small c p.0) (chars_small cs p.1)

pub text_small : (bytes : List ℕ) → IsUtf8 bytes → Small bytes
text_small bytes h = subst (λ (b : List ℕ). Small b) h.1.1 (chars_small h.0 h.1.0)
