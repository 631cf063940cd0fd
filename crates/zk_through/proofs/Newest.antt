-- Which of the client's frames the newest of the server's answers, with one frame more.
use Rattle.std.proofs.Common.{◌≡◌, ℕ, List, [], ◌∷◌, ◌++◌, length, Option, None, refl, sym, ap, ◌∙◌, subst, arith}
use Rattle.std.proofs.lemmas.List.{length_push}
use Rattle.zk_talk.specs.declared.message.Side.{Side}
use Rattle.zk_talk.specs.declared.message.Side.TheVariants.{Client, Server}
use Rattle.zk_talk.proofs.{Lists.not_empty, Lists.InPushed, Lists.in_pushed, Lists.InPushed.at_end, Lists.InPushed.inside}
use Rattle.zk_through.specs.{Came.Came, Came.payloads, LeftOut.AnswersAfter, LeftOut.NewestAnswers}
use Rattle.zk_through.proofs.Frames.{payloads-same, payloads-other}

sides : (p q : List ℕ) → ◌≡◌ {A = Side × List ℕ} (Client, p) (Server, q) → ⊥
sides p q e = not_both (ap (λ (x : Side × List ℕ). x.0) e)
  where
    not_both : Client ≡ Server → ⊥
    not_both e = cc

not_nil : (P : List (List ℕ)) (p : List ℕ) → P ++ p ∷ [] ≡ [] → ⊥
not_nil P p e = omega (arith, ap length e, length_push P p)

pub newest_none : NewestAnswers [] None
newest_none = record { none = λ e. refl; some = λ before q after e none. absurd (not_empty before (Server, q) after (sym e)) }

module _ (c : Came) (n : Option ℕ) where
  pub newest_client : (p : List ℕ) → NewestAnswers c n → NewestAnswers (c ++ (Client, p) ∷ []) n
  newest_client p x = record {
    none = λ e. x.none (sym (payloads-other Client c p) ∙ e);
    some = λ before q after e last. go before q after last (in_pushed c (Client, p) before (Server, q) after e);
  }
    where
      go : (before : Came) (q : List ℕ) (after : Came) → payloads Server after ≡ [] → InPushed c (Client, p) before (Server, q) after → AnswersAfter before q n
      go before q after last (at_end same is none) = absurd (sides p q is)
      go before q after last (inside rest same is) = x.some before q rest same (sym (payloads-other Client rest p) ∙ ap (payloads Server) (sym is) ∙ last)

  pub newest_server : (q : List ℕ) → AnswersAfter c q n → NewestAnswers (c ++ (Server, q) ∷ []) n
  newest_server q x = record {
    none = λ e. absurd (not_nil (payloads Server c) q (sym (payloads-same Server c q) ∙ e));
    some = λ before p after e last. go before p after last (in_pushed c (Server, q) before (Server, p) after e);
  }
    where
      go : (before : Came) (p : List ℕ) (after : Came) → payloads Server after ≡ [] → InPushed c (Server, q) before (Server, p) after → AnswersAfter before p n
      go before p after last (at_end same is none) = subst (λ z. AnswersAfter z p n) same (subst (λ z. AnswersAfter c z n) (ap (λ (y : Side × List ℕ). y.1) is) x)
      go before p after last (inside rest same is) = absurd (not_nil (payloads Server rest) q (sym (payloads-same Server rest q) ∙ ap (payloads Server) (sym is) ∙ last))
