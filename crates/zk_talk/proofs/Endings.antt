-- How a talk ends.
use Rattle.std.proofs.Common.{◌≡◌, ℕ, ◌+◌, ◌<◌, List, [], ◌∷◌, length, refl, subst, arith}
use Rattle.zk_asks.specs.Held.{ClientFrame}
use Rattle.zk_answers.specs.Held.{ServerFrame}
use Rattle.zk_talk.specs.{History.History, Conversation.Conversation, Good.Good, Held.Message, Stands.TalkState, Stands.Stands, Ending.unwelcomed, Ending.unanswered}
use Rattle.zk_waiting.specs.Waiting.{count_of}
use Rattle.zk_talk.proofs.Queues.{count_is_waiting}

one_unwelcomed : (C : List ClientFrame) (S : List ServerFrame) → 0 < length C → length S ≡ 0 → unwelcomed C S ≡ 1
one_unwelcomed [] S l n = absurd (omega arith)
one_unwelcomed (c ∷ cs) [] l n = refl
one_unwelcomed (c ∷ cs) (s ∷ ss) l n = absurd (omega arith)

none_unwelcomed : (C : List ClientFrame) (S : List ServerFrame) → (0 < length C → length S ≡ 0 → ⊥) → unwelcomed C S ≡ 0
none_unwelcomed [] S h = refl
none_unwelcomed (c ∷ cs) [] h = absurd (h (omega arith) refl)
none_unwelcomed (c ∷ cs) (s ∷ ss) h = refl

module _ (t : TalkState) (h : History) (M : List Message) (st : Stands t h M) (no_client : t.client_held ≡ []) (no_server : t.server_held ≡ []) where
  good_whole : Good t.limits h st.conversation [] []
  good_whole = subst (λ z. Good t.limits h st.conversation z []) no_client (subst (λ z. Good t.limits h st.conversation t.client_held z) no_server st.good)

  pub ends_unwelcomed : (n : ℕ) → n ≡ count_of t.waiting → 0 < t.client_frames → t.server_frames ≡ 0 → (v : Conversation) × Good t.limits h v [] [] × (n + 1 ≡ unanswered v)
  ends_unwelcomed n e some none = (st.conversation, good_whole, omega (arith, e, count_is_waiting st.conversation t.waiting st.queues, one_unwelcomed st.conversation.client st.conversation.server (omega (arith, st.client_frames)) (omega (arith, st.server_frames))))

  pub ends_whole : (n : ℕ) → n ≡ count_of t.waiting → (0 < t.client_frames → t.server_frames ≡ 0 → ⊥) → (v : Conversation) × Good t.limits h v [] [] × (n ≡ unanswered v)
  ends_whole n e none = (st.conversation, good_whole, omega (arith, e, count_is_waiting st.conversation t.waiting st.queues, none_unwelcomed st.conversation.client st.conversation.server (λ l z. none (omega (arith, st.client_frames)) (omega (arith, st.server_frames)))))
