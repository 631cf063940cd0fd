-- What is seen of the frames that came, with one frame more.
use Rattle.std.proofs.Common.{◌≡◌, ◌≢◌, ℕ, zero, suc, ◌<◌, inl, inr, List, [], ◌∷◌, ◌++◌, length, refl, sym, ap, ◌∙◌, subst, arith, append_assoc, Bool, true, false}
use Rattle.std.proofs.lemmas.List.{append-nil, nil_from_length}
use Rattle.zk_talk.specs.{declared.message.Side.Side, Held.Message, History.History}
use Rattle.zk_talk.specs.declared.message.Side.TheVariants.{Client, Server}
use Rattle.zk_through.specs.{Came.Came, Came.payloads, Unseen.IsUnseen, Unseen.SeenAfter, Unseen.Seen, Unseen.IsSeen, Runs.ThroughState, Runs.Runs}
use Rattle.zk_through.proofs.Frames.{payloads-other, no_payloads, of_client, of_server, past_client, some_server}

-- ---- All of the client's
client_after : (before all came : Came) → SeenAfter before all came → payloads Client came ≡ payloads Client all
client_after before [] came e = ap (payloads Client) e
client_after before ((Client, p) ∷ all) came (inl a) = absurd a.0
client_after before ((Server, q) ∷ all) came (inl a) = client_after before all came a.1 ∙ sym (of_server q all)
client_after before ((Client, p) ∷ all) came (inr a) =
    ap (payloads Client) a.2 ∙ of_client p a.1 ∙ ap (λ z. p ∷ z) (client_after (before ++ (Client, p) ∷ []) all a.1 a.3) ∙ sym (of_client p all)
client_after before ((Server, q) ∷ all) came (inr a) =
    ap (payloads Client) a.2 ∙ of_server q a.1 ∙ client_after (before ++ (Server, q) ∷ []) all a.1 a.3 ∙ sym (of_server q all)

pub seen_client : (late : Bool) (all came : Came) → Seen late all came → payloads Client came ≡ payloads Client all
seen_client false all came e = ap (payloads Client) e
seen_client true all came s = client_after [] all came s

-- ---- The first of the server's
none_after : (before all came : Came) → SeenAfter before all came → payloads Server all ≡ [] → payloads Server came ≡ []
none_after before [] came e none = ap (payloads Server) e ∙ no_payloads Server
none_after before ((Client, p) ∷ all) came (inl a) none = absurd a.0
none_after before ((Client, p) ∷ all) came (inr a) none =
    ap (payloads Server) a.2 ∙ past_client p a.1 ∙ none_after (before ++ (Client, p) ∷ []) all a.1 a.3 (sym (past_client p all) ∙ none)
none_after before ((Server, q) ∷ all) came a none = absurd (some_server q all none)

none_before : (before all came : Came) → SeenAfter before all came → payloads Server before ≡ [] → payloads Server came ≡ [] → payloads Server all ≡ []
none_before before [] came e none empty = no_payloads Server
none_before before ((Client, p) ∷ all) came (inl a) none empty = absurd a.0
none_before before ((Client, p) ∷ all) came (inr a) none empty =
    past_client p all ∙ none_before (before ++ (Client, p) ∷ []) all a.1 a.3 (payloads-other Client before p ∙ none) (sym (past_client p a.1) ∙ ap (payloads Server) (sym a.2) ∙ empty)
none_before before ((Server, q) ∷ all) came (inl a) none empty = absurd (a.0.0 none)
none_before before ((Server, q) ∷ all) came (inr a) none empty = absurd (some_server q a.1 (ap (payloads Server) (sym a.2) ∙ empty))

none_came : (late : Bool) (all came : Came) → Seen late all came → payloads Server all ≡ [] → payloads Server came ≡ []
none_came false all came e none = ap (payloads Server) e ∙ none
none_came true all came s none = none_after [] all came s none

none_seen : (late : Bool) (all came : Came) → Seen late all came → payloads Server came ≡ [] → payloads Server all ≡ []
none_seen false all came e none = ap (payloads Server) (sym e) ∙ none
none_seen true all came s none = none_before [] all came s (no_payloads Server) none

-- ---- One frame more
module _ (x : Side × List ℕ) where
  more_after : (before all came : Came) → SeenAfter before all came → (IsUnseen (before ++ came) x → ⊥) → SeenAfter before (all ++ x ∷ []) (came ++ x ∷ [])
  more_after before [] came e stays = inr ((λ u. stays (subst (λ z. IsUnseen z x) (sym (append-nil before) ∙ ap (λ z. before ++ z) (sym e)) u)), [], ap (λ z. z ++ x ∷ []) e, refl)
  more_after before (y ∷ all) came (inl a) stays = inl (a.0, more_after before all came a.1 stays)
  more_after before (y ∷ all) came (inr a) stays =
      inr (
        a.0,
        a.1 ++ x ∷ [],
        ap (λ z. z ++ x ∷ []) a.2,
        more_after (before ++ y ∷ []) all a.1 a.3 (λ u. stays (subst (λ z. IsUnseen z x) (append_assoc before (y ∷ []) a.1 ∙ ap (λ z. before ++ z) (sym a.2)) u)),
      )

  over_after : (before all came : Came) → SeenAfter before all came → IsUnseen (before ++ came) x → SeenAfter before (all ++ x ∷ []) came
  over_after before [] came e u = inl (subst (λ z. IsUnseen z x) (ap (λ z. before ++ z) e ∙ append-nil before) u, e)
  over_after before (y ∷ all) came (inl a) u = inl (a.0, over_after before all came a.1 u)
  over_after before (y ∷ all) came (inr a) u =
      inr (a.0, a.1, a.2, over_after (before ++ y ∷ []) all a.1 a.3 (subst (λ z. IsUnseen z x) (ap (λ z. before ++ z) a.2 ∙ sym (append_assoc before (y ∷ []) a.1)) u))

  pub seen_more : (late : Bool) (all came : Came) → Seen late all came → IsSeen late came x → Seen late (all ++ x ∷ []) (came ++ x ∷ [])
  seen_more false all came e stays = ap (λ z. z ++ x ∷ []) e
  seen_more true all came s stays = more_after [] all came s (stays refl)

  pub passed_over : (late : Bool) (all came : Came) → late ≡ true → Seen late all came → IsUnseen came x → Seen late (all ++ x ∷ []) came
  passed_over false all came e s u = absurd cc
  passed_over true all came e s u = over_after [] all came s u

-- ---- One list
one_after : (before all a b : Came) → SeenAfter before all a → SeenAfter before all b → a ≡ b
one_after before [] a b x y = x ∙ sym y
one_after before (f ∷ all) a b (inl x) (inl y) = one_after before all a b x.1 y.1
one_after before (f ∷ all) a b (inl x) (inr y) = absurd (y.0 x.0)
one_after before (f ∷ all) a b (inr x) (inl y) = absurd (x.0 y.0)
one_after before (f ∷ all) a b (inr x) (inr y) = x.2 ∙ ap (λ z. f ∷ z) (one_after (before ++ f ∷ []) all x.1 y.1 x.3 y.3) ∙ sym y.2

pub one_seen : (late : Bool) (all a b : Came) → Seen late all a → Seen late all b → a ≡ b
one_seen false all a b x y = x ∙ sym y
one_seen true all a b x y = one_after [] all a b x y

-- ---- How many came
module _ (t : ThroughState) (h : History) (c k : Came) (M : List Message) (r : Runs t h c k M) where
  pub client_counts : t.client.count ≡ length (payloads Client c)
  client_counts = r.counts Client ∙ ap length (sym (seen_client t.late r.all c r.seen))

  pub none_counts : payloads Server c ≡ [] → t.server.count ≡ 0
  none_counts none = r.counts Server ∙ ap length (none_seen t.late r.all c r.seen none)

  pub counts_none : t.server.count ≡ 0 → payloads Server c ≡ []
  counts_none nothing = none_came t.late r.all c r.seen (nil_from_length (payloads Server r.all) (omega (arith, nothing, r.counts Server)))

  pub server_some : 0 < t.server.count → payloads Server c ≢ []
  server_some some none = omega (arith, some, none_counts none)

  pub some_counts : payloads Server c ≢ [] → 0 < t.server.count
  some_counts some = go t.server.count refl
    where
      go : (n : ℕ) → n ≡ t.server.count → 0 < t.server.count
      go zero e = absurd (some (counts_none (sym e)))
      go (suc n) e = omega (arith, e)
