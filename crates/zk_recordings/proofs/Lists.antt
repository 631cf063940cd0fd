-- One element more, and bytes of one side in two runs.
use Rattle.std.proofs.Common.{◌≡◌, ◌∙◌, ap, sym, List, [], ◌∷◌, ◌++◌, ℕ, zero, suc, arith, append_assoc, append-nil}
use Rattle.std.specs.List.{All, flat_map}
use Rattle.std.proofs.{lemmas.List.map-append, lemmas.Grind.flat_map-append}
use Rattle.zk_talk.specs.{declared.message.Side.Side, History.History, History.on}

pub flat_map-snoc : {X : Type 0} {A : Type 0} (f : X → List A) (xs : List X) (x : X) → flat_map f (xs ++ x ∷ []) ≡ flat_map f xs ++ f x
flat_map-snoc f xs x = flat_map-append f xs (x ∷ []) ∙ ap (λ l. flat_map f xs ++ l) (append-nil (f x))

pub All-one : {X : Type 0} (P : X → Type 0) (x : X) → P x → All P (x ∷ [])
All-one P x p zero d lt = p
All-one P x p (suc k) d lt = absurd (omega arith)

pub on-append : (side : Side) (a b : List ℕ) (h : History) → (h ++ on side a) ++ on side b ≡ h ++ on side (a ++ b)
on-append side a b h = append_assoc h (on side a) (on side b) ∙ ap (λ t. h ++ t) (sym (map-append (λ (v : ℕ). (side, v)) a b))
