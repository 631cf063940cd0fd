-- What is kept of the frames that came is one list, and all of them where none is left out.
use Rattle.std.proofs.Common.{◌≡◌, inl, inr, ℕ, List, [], ◌∷◌, ◌++◌, refl, sym, ap, ◌∙◌, subst, append_assoc}
use Rattle.std.proofs.lemmas.List.{append-nil}
use Rattle.zk_records.specs.declared.profile.Profile.{Profile}
use Rattle.zk_talk.specs.declared.message.Side.{Side}
use Rattle.zk_through.specs.{Came.Came, LeftOut.IsLeftOut, LeftOut.KeptAfter}

module _ (profile : Profile) where
  pub one_kept : (before came a b : Came) → KeptAfter profile before came a → KeptAfter profile before came b → a ≡ b
  one_kept before [] a b x y = x ∙ sym y
  one_kept before (f ∷ came) a b (inl x) (inl y) = one_kept (before ++ f ∷ []) came a b x.1 y.1
  one_kept before (f ∷ came) a b (inl x) (inr y) = absurd (y.0 x.0)
  one_kept before (f ∷ came) a b (inr x) (inl y) = absurd (x.0 y.0)
  one_kept before (f ∷ came) a b (inr x) (inr y) = x.2 ∙ ap (λ z. f ∷ z) (one_kept (before ++ f ∷ []) came x.1 y.1 x.3 y.3) ∙ sym y.2

  pub all_kept : (before came kept : Came) → KeptAfter profile before came kept → ((b : Came) (x : Side × List ℕ) (after : Came) → came ≡ b ++ x ∷ after → IsLeftOut profile (before ++ b) x → ⊥) → kept ≡ came
  all_kept before [] kept e none = e
  all_kept before (f ∷ came) kept (inl x) none = absurd (none [] f came refl (subst (λ z. IsLeftOut profile z f) (sym (append-nil before)) x.0))
  all_kept before (f ∷ came) kept (inr x) none =
      x.2 ∙ ap (λ z. f ∷ z) (all_kept (before ++ f ∷ []) came x.1 x.3 (λ b y after e out. none (f ∷ b) y after (ap (λ z. f ∷ z) e) (subst (λ z. IsLeftOut profile z y) (append_assoc before (f ∷ []) b) out)))
