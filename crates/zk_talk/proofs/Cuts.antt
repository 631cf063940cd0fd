-- One more byte.
use Rattle.std.proofs.Common.{◌≡◌, ℕ, ◌<◌, ◌≤◌, ◌^◌, ◌⊎◌, inl, inr, false, List, [], ◌∷◌, ◌++◌, length, sym, ap, ◌∙◌, subst, arith, append_assoc}
use Rattle.std.specs.List.{AllByRecursion}
use Rattle.std.proofs.lemmas.List.{append-nil, same_from_push}
use Rattle.zk_frames.specs.Framing.{frame, frames, IsBeginning, IsCut, IsBadLength}
use Rattle.zk_talk.proofs.Lists.{by_last, IsPushed, not_empty}
use Rattle.zk_frames.proofs.{Cuts.length-frame, Cuts.AllByRecursion-left, Cuts.AllByRecursion-right, Cuts.bad_length, Cuts.whole_frame, Taking.beginning_front, Taking.frame_front, Taking.frames_push, Taking.goes_on, Taking.goes_whole}

module _ (limit : ℕ) (X : List ℕ) (x : ℕ) where
  pub cut_more : (P : List (List ℕ)) (b : List ℕ) → IsCut limit X P b → IsBeginning limit (b ++ x ∷ []) → IsCut limit (X ++ x ∷ []) P (b ++ x ∷ [])
  cut_more P b c begin = goes_on false limit b (x ∷ []) X P c begin

  pub cut_whole : (P : List (List ℕ)) (b p : List ℕ) → IsCut limit X P b → b ++ x ∷ [] ≡ frame p → length p ≤ limit → IsCut limit (X ++ x ∷ []) (P ++ p ∷ []) []
  cut_whole P b p c e l = goes_whole limit b (x ∷ []) X P p c e l

  pub cut_bad : (P Q : List (List ℕ)) (b c : List ℕ) → limit < 2 ^ 31 → IsCut limit X P b → IsBadLength limit (b ++ x ∷ []) → IsCut limit (X ++ x ∷ []) Q c → ⊥
  cut_bad P Q b c small y bad z =
      bad_length limit X P Q b (b ++ x ∷ []) c small y bad
      (subst (λ w. IsCut limit w Q c) (ap (λ w. w ++ x ∷ []) y.whole ∙ append_assoc (frames P) b (x ∷ [])) z)

  pub cut_only : (P Q : List (List ℕ)) (b p c : List ℕ) → limit < 2 ^ 31 → IsCut limit X P b → b ++ x ∷ [] ≡ frame p → length p ≤ limit → IsCut limit (X ++ x ∷ []) Q c → (Q ≡ P ++ p ∷ []) × (c ≡ [])
  cut_only P Q b p c small y e l z =
      whole_frame limit X P Q b p c small y l
      (subst (λ w. IsCut limit w Q c) (ap (λ w. w ++ x ∷ []) y.whole ∙ append_assoc (frames P) b (x ∷ []) ∙ ap (λ w. frames P ++ w) e) z)

  -- Without the last byte: the beginning is shorter, or the last frame isn't whole.
  pub data Shorter (Q : List (List ℕ)) (c : List ℕ) : Type 0 where
    within_frame : (c' : List ℕ) → c ≡ c' ++ x ∷ [] → IsCut limit X Q c' → Shorter Q c
    frame_end : (Q' : List (List ℕ)) (q c' : List ℕ) → Q ≡ Q' ++ q ∷ [] → c ≡ [] → length q ≤ limit → c' ++ x ∷ [] ≡ frame q → IsCut limit X Q' c' → Shorter Q c

  pub cut_front : (Q : List (List ℕ)) (c : List ℕ) → IsCut limit (X ++ x ∷ []) Q c → Shorter Q c
  cut_front Q c z = go (by_last c)
    where
      ends : (q : List ℕ) (Q' : List (List ℕ)) → Q ≡ Q' ++ q ∷ [] → c ≡ [] → ((frame q ≡ []) ⊎ IsPushed (frame q)) → Shorter Q c
      ends q Q' r n (inl f) = absurd (omega (arith, ap length f, length-frame q))
      ends q Q' r n (inr f) =
          let all = subst (AllByRecursion (λ p. length p ≤ limit)) r z.within in
          let lq = (AllByRecursion-right (λ p. length p ≤ limit) Q' (q ∷ []) all).0 in
          let whole = z.whole ∙ ap (λ w. frames Q ++ w) n ∙ append-nil (frames Q) ∙ ap frames r ∙ frames_push Q' q ∙ ap (λ w. frames Q' ++ w) f.is ∙ sym (append_assoc (frames Q') f.init (f.last ∷ [])) in
          let s = same_from_push X (frames Q' ++ f.init) x f.last whole in
          frame_end Q' q f.init r n lq (ap (λ w. f.init ++ w ∷ []) s.1 ∙ sym f.is)
          (record { whole = s.0; within = AllByRecursion-left (λ p. length p ≤ limit) Q' (q ∷ []) all; beginning = frame_front limit f.init (f.last ∷ []) (omega arith) (q, sym f.is, lq) })

      no_rest : c ≡ [] → ((Q ≡ []) ⊎ IsPushed Q) → Shorter Q c
      no_rest n (inl m) = absurd (not_empty X x [] (z.whole ∙ ap (λ w. frames Q ++ w) n ∙ append-nil (frames Q) ∙ ap frames m))
      no_rest n (inr p) = ends p.last p.init p.is n (by_last (frame p.last))

      go : ((c ≡ []) ⊎ IsPushed c) → Shorter Q c
      go (inl n) = no_rest n (by_last Q)
      go (inr p) =
          let s = same_from_push X (frames Q ++ p.init) x p.last (z.whole ∙ ap (λ w. frames Q ++ w) p.is ∙ sym (append_assoc (frames Q) p.init (p.last ∷ []))) in
          within_frame p.init (p.is ∙ ap (λ w. p.init ++ w ∷ []) (sym s.1))
          (record { whole = s.0; within = z.within; beginning = beginning_front limit p.init (p.last ∷ []) (subst (IsBeginning limit) p.is z.beginning) })
