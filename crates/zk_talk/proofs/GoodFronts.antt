-- Each front of a good history is good.
use Rattle.std.proofs.Common.{◌≡◌, ℕ, List, [], ◌∷◌, ◌++◌, length, refl, sym, ap, ◌∙◌, subst, arith, append_assoc}
use Rattle.std.proofs.lemmas.List.{append-nil, length_push}
use Rattle.zk_records.specs.declared.profile.Profile.{Profile}
use Rattle.zk_asks.specs.Held.{ClientFrame}
use Rattle.zk_asks.specs.declared.frame.ClientFrameOf.TheVariants.{Connect, Ask}
use Rattle.zk_answers.specs.Held.{ServerFrame}
use Rattle.zk_answers.specs.declared.frame.ServerFrameOf.TheVariants.{Connected, Answered, Event}
use Rattle.zk_talk.specs.{Payloads.client_payload, Payloads.server_payload, declared.message.Side.Side, declared.limits.Limits.Limits, Splits.EachAfter, History.History, History.side_bytes}
use Rattle.zk_talk.specs.declared.message.Side.TheVariants.{Client, Server}
use Rattle.zk_frames.specs.Framing.{IsCut}
use Rattle.zk_waiting.specs.Lane.{lane_of}
use Rattle.zk_talk.specs.Conversation.{asks_on, ClientMay, ServerMay, IsAnswered, Answers, Conversation, IsConversation}
use Rattle.zk_talk.specs.Good.{client_payloads, server_payloads, client_bytes, IsWhole, IsCausal, IsBounded, Good, IsGood}
use Rattle.zk_talk.proofs.{Lists.EachAfter-left, Lists.EachAfter-at, Lists.map_pushed, Lists.InPushed, Lists.in_pushed, Cuts.cut_front, Cuts.Shorter, Cuts.Shorter.within_frame, Cuts.Shorter.frame_end}
use Rattle.zk_talk.proofs.{Histories.side_bytes-same, Histories.other-bytes, Histories.front-length, Steps.client_within, Steps.server_within, Steps.bytes_front, Lists.InPushed.at_end, Lists.InPushed.inside}

-- What the server may send where the client's last frame is not answered, it may send without it.
may_without : (profile : Profile) (C : List ClientFrame) (f : ClientFrame) (before : List ServerFrame) (s : ServerFrame) → ClientMay profile C f → (Answers before s C f → ⊥) → ServerMay (C ++ f ∷ []) before s → ServerMay C before s
may_without profile [] (Connect t g) [] (Connected u k) may alone m = absurd (alone tt)
may_without profile [] (Ask xid ask) [] (Connected u k) may alone m = absurd may.0
may_without profile (c ∷ cs) f [] (Connected u k) may alone m = (m.0, λ e. absurd (cc))
may_without profile C f [] (Answered r) may alone m = m
may_without profile C f [] (Event z k) may alone m = m
may_without profile C f (y ∷ ys) (Connected u k) may alone m = m
may_without profile C f (y ∷ ys) (Event z k) may alone m = m
may_without profile C f (y ∷ ys) (Answered r) may alone m = (m.0, go (in_pushed C f m.1.asked (Ask r.xid m.1.ask) m.1.after m.1.stands))
  where
    go : InPushed C f m.1.asked (Ask r.xid m.1.ask) m.1.after → IsAnswered C (y ∷ ys) r
    go (at_end a b n) = absurd (alone (subst (λ z. Answers (y ∷ ys) (Answered r) C z) (sym b) (refl, ap (asks_on (lane_of r.xid)) a ∙ m.1.counts)))
    go (inside b' a n) = record { asked = m.1.asked; ask = m.1.ask; after = b'; stands = a; fits = m.1.fits; counts = m.1.counts }

module _ (limits : Limits) (h : History) (b : ℕ) (v : Conversation) (cb sb : List ℕ) where
  longer : (side : Side) (front rest : History) → h ≡ front ++ rest → h ++ (side, b) ∷ [] ≡ front ++ (rest ++ (side, b) ∷ [])
  longer side front rest e = ap (λ z. z ++ (side, b) ∷ []) e ∙ append_assoc front rest ((side, b) ∷ [])

  -- what is whole without the last byte is good, where it is good but for that byte
  less : (side : Side) → Good limits (h ++ (side, b) ∷ []) v cb sb → (w : Conversation) (db tb : List ℕ) → IsConversation limits.profile w → IsWhole limits h w.client w.server db tb → IsCausal w h → IsBounded limits w h → Good limits h w db tb
  less side g w db tb conv whole causal bounded = record {
    conversation = conv;
    whole = whole;
    causal = causal;
    bounded = bounded;
    client_size = omega (arith, g.client_size, front-length Client h ((side, b) ∷ []) (h ++ (side, b) ∷ []) refl);
    server_size = omega (arith, g.server_size, front-length Server h ((side, b) ∷ []) (h ++ (side, b) ∷ []) refl);
  }

  shorter : (side : Side) → Good limits (h ++ (side, b) ∷ []) v cb sb → (db tb : List ℕ) → IsWhole limits h v.client v.server db tb → Good limits h v db tb
  shorter side g db tb whole =
      less side g v db tb g.conversation whole (λ front rest e. g.causal front (rest ++ (side, b) ∷ []) (longer side front rest e)) (λ front rest e. g.bounded front (rest ++ (side, b) ∷ []) (longer side front rest e))

  module _ (g : Good limits (h ++ (Client, b) ∷ []) v cb sb) where
    client_cut_off : (C : List ClientFrame) (c' : List ℕ) → IsCut limits.client (side_bytes Client h) (client_payloads C) c' → IsWhole limits h C v.server c' sb
    client_cut_off C c' cut = record { client_cut = cut; server_cut = subst (λ z. IsCut limits.server z (server_payloads v.server) sb) (other-bytes Client h b) g.whole.server_cut }

    client_fewer : (C : List ClientFrame) (f : ClientFrame) (c' : List ℕ) → v.client ≡ C ++ f ∷ [] → cb ≡ [] → IsCut limits.client (side_bytes Client h) (client_payloads C) c' → Good limits h (record { client = C; server = v.server }) c' sb
    client_fewer C f c' e n cut =
        let each = subst (EachAfter (ClientMay limits.profile)) e g.conversation.client in
        let may = EachAfter-at (ClientMay limits.profile) C f [] each in
        let conv : IsConversation limits.profile (record { client = C; server = v.server }) = record {
          client = EachAfter-left (ClientMay limits.profile) C (f ∷ []) each;
          server = λ before s after es. may_without limits.profile C f before s may (alone before s after es) (subst (λ z. ServerMay z before s) e (g.conversation.server before s after es));
        } in
        less Client g (record { client = C; server = v.server }) c' sb conv (client_cut_off C c' cut)
        (λ front rest eh sent s later es asked c further ec. g.causal front (rest ++ (Client, b) ∷ []) (longer Client front rest eh) sent s later es asked c (further ++ f ∷ []) (e ∙ ap (λ z. z ++ f ∷ []) ec ∙ append_assoc asked (c ∷ further) (f ∷ [])))
        (λ front rest eh client further ec. g.bounded front (rest ++ (Client, b) ∷ []) (longer Client front rest eh) client (further ++ f ∷ []) (e ∙ ap (λ z. z ++ f ∷ []) ec ∙ append_assoc client further (f ∷ [])))
      where
        alone : (before : List ServerFrame) (s : ServerFrame) (after : List ServerFrame) → v.server ≡ before ++ s ∷ after → Answers before s C f → ⊥
        alone before s after es answers =
            let r = g.causal h ((Client, b) ∷ []) refl before s after es C f [] e answers
            (omega (arith, bytes_front server_payload v.server before s after es, server_within limits (h ++ (Client, b) ∷ []) v.client v.server cb sb g.whole, ap length (other-bytes Client h b))) in
            omega (arith, r, client_within limits (h ++ (Client, b) ∷ []) v.client v.server cb sb g.whole, ap length (side_bytes-same Client h b), length_push (side_bytes Client h) b, ap (λ z. length (client_bytes z)) e, ap length n)

    pub front_client : IsGood limits h
    front_client = go (cut_front limits.client (side_bytes Client h) b (client_payloads v.client) cb (subst (λ z. IsCut limits.client z (client_payloads v.client) cb) (side_bytes-same Client h b) g.whole.client_cut))
      where
        go : Shorter limits.client (side_bytes Client h) b (client_payloads v.client) cb → IsGood limits h
        go (within_frame c' e cut) = (v, c', sb, shorter Client g c' sb (client_cut_off v.client c' cut))
        go (frame_end Q q c' e n l e2 cut) =
            let split = map_pushed client_payload v.client Q q e in
            (record { client = split.0; server = v.server }, c', sb, client_fewer split.0 split.1 c' split.2 n (subst (λ z. IsCut limits.client (side_bytes Client h) z c') (sym split.3) cut))

  module _ (g : Good limits (h ++ (Server, b) ∷ []) v cb sb) where
    server_cut_off : (S : List ServerFrame) (c' : List ℕ) → IsCut limits.server (side_bytes Server h) (server_payloads S) c' → IsWhole limits h v.client S cb c'
    server_cut_off S c' cut = record { client_cut = subst (λ z. IsCut limits.client z (client_payloads v.client) cb) (other-bytes Server h b) g.whole.client_cut; server_cut = cut }

    server_fewer : (S : List ServerFrame) (s : ServerFrame) (c' : List ℕ) → v.server ≡ S ++ s ∷ [] → IsCut limits.server (side_bytes Server h) (server_payloads S) c' → Good limits h (record { client = v.client; server = S }) cb c'
    server_fewer S s c' e cut =
        let conv : IsConversation limits.profile (record { client = v.client; server = S }) = record { client = g.conversation.client; server = EachAfter-left (ServerMay v.client) S (s ∷ []) (subst (EachAfter (ServerMay v.client)) e g.conversation.server) } in
        less Server g (record { client = v.client; server = S }) cb c' conv (server_cut_off S c' cut)
        (λ front rest eh sent t later es. g.causal front (rest ++ (Server, b) ∷ []) (longer Server front rest eh) sent t (later ++ s ∷ []) (e ∙ ap (λ z. z ++ s ∷ []) es ∙ append_assoc sent (t ∷ later) (s ∷ [])))
        (λ front rest eh client further ec server later es. g.bounded front (rest ++ (Server, b) ∷ []) (longer Server front rest eh) client further ec server (later ++ s ∷ []) (e ∙ ap (λ z. z ++ s ∷ []) es ∙ append_assoc server later (s ∷ [])))

    pub front_server : IsGood limits h
    front_server = go (cut_front limits.server (side_bytes Server h) b (server_payloads v.server) sb (subst (λ z. IsCut limits.server z (server_payloads v.server) sb) (side_bytes-same Server h b) g.whole.server_cut))
      where
        go : Shorter limits.server (side_bytes Server h) b (server_payloads v.server) sb → IsGood limits h
        go (within_frame c' e cut) = (v, cb, c', shorter Server g cb c' (server_cut_off v.server c' cut))
        go (frame_end Q q c' e n l e2 cut) =
            let split = map_pushed server_payload v.server Q q e in
            (record { client = v.client; server = split.0 }, cb, c', server_fewer split.0 split.1 c' split.2 (subst (λ z. IsCut limits.server (side_bytes Server h) z c') (sym split.3) cut))

one_less : (limits : Limits) (h : History) (side : Side) (b : ℕ) → IsGood limits (h ++ (side, b) ∷ []) → IsGood limits h
one_less limits h Client b n = front_client limits h b n.0 n.1 n.2 n.3
one_less limits h Server b n = front_server limits h b n.0 n.1 n.2 n.3

-- Each front of a good history is good.
pub good_front : (limits : Limits) (g r : History) → IsGood limits (g ++ r) → IsGood limits g
good_front limits g [] n = subst (IsGood limits) (append-nil g) n
good_front limits g (x ∷ r) n = one_less limits g x.0 x.1 (good_front limits (g ++ x ∷ []) r (subst (IsGood limits) (sym (append_assoc g (x ∷ []) r)) n))
