-- Which histories are good, byte after byte.
use Rattle.std.proofs.Common.{◌≡◌, ℕ, ◌+◌, ◌<◌, ◌≤◌, ◌^◌, List, [], ◌∷◌, ◌++◌, length, map, sym, ap, ◌∙◌, subst, arith}
use Rattle.std.proofs.lemmas.List.{append-nil, map-append, length_push}
use Rattle.zk_asks.specs.Held.{ClientFrame}
use Rattle.zk_answers.specs.Held.{ServerFrame}
use Rattle.zk_talk.specs.{Payloads.client_payload, Payloads.server_payload, declared.message.Side.Side, Fault.side_limit, Fault.rest_on, declared.limits.Limits.Limits, Splits.EachAfter, History.History, History.side_bytes}
use Rattle.zk_talk.specs.declared.message.Side.TheVariants.{Client, Server}
use Rattle.zk_frames.specs.Framing.{frame, IsCut, IsBeginning, IsBadLength}
use Rattle.zk_talk.specs.Conversation.{with_client, with_server, ClientMay, ServerMay, Conversation, IsConversation, load}
use Rattle.zk_talk.specs.Good.{client_payloads, server_payloads, IsCausal, IsBounded, IsWhole, Good, IsGood}
use Rattle.zk_talk.proofs.{Small.AreSmall, Lists.EachAfter-left, Lists.EachAfter-at, Lists.map_pushed, Cuts.cut_more, Cuts.cut_whole, Cuts.cut_bad, Cuts.cut_only, Turns.same_clients, Turns.same_servers}
use Rattle.zk_frames.proofs.Cuts.{same_cut}
use Rattle.zk_talk.proofs.Histories.{side_bytes-same, other-bytes}
use Rattle.zk_talk.proofs.Steps.{causal_lift, bounded_lift, each_still, conversation_client, conversation_server, causal_client, bounded_client, causal_server, bounded_server, load_reply}

module _ (limits : Limits) (h : History) (b : ℕ) where
  -- the cut of a history with one byte more of the client
  pub whole_client : (C C' : List ClientFrame) (S : List ServerFrame) (cb sb c : List ℕ) → IsWhole limits h C S cb sb → IsCut limits.client (side_bytes Client h ++ b ∷ []) (client_payloads C') c → IsWhole limits (h ++ (Client, b) ∷ []) C' S c sb
  whole_client C C' S cb sb c w cut = record {
    client_cut = subst (λ z. IsCut limits.client z (client_payloads C') c) (sym (side_bytes-same Client h b)) cut;
    server_cut = subst (λ z. IsCut limits.server z (server_payloads S) sb) (sym (other-bytes Client h b)) w.server_cut;
  }

  pub whole_server : (C : List ClientFrame) (S S' : List ServerFrame) (cb sb c : List ℕ) → IsWhole limits h C S cb sb → IsCut limits.server (side_bytes Server h ++ b ∷ []) (server_payloads S') c → IsWhole limits (h ++ (Server, b) ∷ []) C S' cb c
  whole_server C S S' cb sb c w cut = record {
    client_cut = subst (λ z. IsCut limits.client z (client_payloads C) cb) (sym (other-bytes Server h b)) w.client_cut;
    server_cut = subst (λ z. IsCut limits.server z (server_payloads S') c) (sym (side_bytes-same Server h b)) cut;
  }

-- the last of a side's frames, where its bytes are those of the frames before it and of this payload's
last_frame : {F : Type 0} (payload : F → List ℕ) (limit : ℕ) → limit < 2 ^ 31 → (X : List ℕ) (b : ℕ) (P : List (List ℕ)) (rest p : List ℕ) → IsCut limit X P rest → rest ++ b ∷ [] ≡ frame p → length p ≤ limit →
    (all : List F) (more : List ℕ) → IsCut limit (X ++ b ∷ []) (map payload all) more → (before : List F) × (found : F) × (all ≡ before ++ found ∷ []) × (map payload before ≡ P) × (payload found ≡ p)
last_frame payload limit small X b P rest p g e l all more cut = map_pushed payload all P p (cut_only limit X b P _ rest p more small g e l cut).0

pub load_here : (limits : Limits) (h : History) (v : Conversation) (cb sb : List ℕ) → Good limits h v cb sb → load v.client v.server ≤ limits.waiting
load_here limits h v cb sb g = g.bounded h [] (sym (append-nil h)) v.client [] (sym (append-nil v.client)) v.server [] (sym (append-nil v.server)) (cb, sb, g.whole)

module _ (limits : Limits) (small : AreSmall limits) (h : History) (b : ℕ) (v : Conversation) (cb sb : List ℕ) (g : Good limits h v cb sb) where
  sizes : (side : Side) → length (side_bytes side h) + 1 < 2 ^ 62 → (length (side_bytes Client (h ++ (side, b) ∷ [])) < 2 ^ 62) × (length (side_bytes Server (h ++ (side, b) ∷ [])) < 2 ^ 62)
  sizes Client fits = (omega (arith, fits, ap length (side_bytes-same Client h b), length_push (side_bytes Client h) b), omega (arith, g.server_size, ap length (other-bytes Client h b)))
  sizes Server fits = (omega (arith, g.client_size, ap length (other-bytes Server h b)), omega (arith, fits, ap length (side_bytes-same Server h b), length_push (side_bytes Server h) b))

  -- what the history is whole with is good, where it is good but for the last byte
  good_with : (side : Side) (w : Conversation) (db tb : List ℕ) → IsConversation limits.profile w → IsWhole limits (h ++ (side, b) ∷ []) w.client w.server db tb → IsCausal w h → IsBounded limits w h → load w.client w.server ≤ limits.waiting →
      length (side_bytes side h) + 1 < 2 ^ 62 → Good limits (h ++ (side, b) ∷ []) w db tb
  good_with side w db tb conv whole causal bounded loads size = record {
    conversation = conv;
    whole = whole;
    causal = causal_lift limits small h (side, b) w db tb whole causal;
    bounded = bounded_lift limits small h (side, b) w db tb whole loads bounded;
    client_size = (sizes side size).0;
    server_size = (sizes side size).1;
  }

  -- ---- A byte within a frame
  pub good_more_client : IsBeginning limits.client (cb ++ b ∷ []) → length (side_bytes Client h) + 1 < 2 ^ 62 → Good limits (h ++ (Client, b) ∷ []) v (cb ++ b ∷ []) sb
  good_more_client begin =
      let w = whole_client limits h b v.client v.client v.server cb sb (cb ++ b ∷ []) g.whole (cut_more limits.client _ b _ cb g.whole.client_cut begin) in
      good_with Client v (cb ++ b ∷ []) sb g.conversation w g.causal g.bounded (load_here limits h v cb sb g)

  pub good_more_server : IsBeginning limits.server (sb ++ b ∷ []) → length (side_bytes Server h) + 1 < 2 ^ 62 → Good limits (h ++ (Server, b) ∷ []) v cb (sb ++ b ∷ [])
  good_more_server begin =
      let w = whole_server limits h b v.client v.server v.server cb sb (sb ++ b ∷ []) g.whole (cut_more limits.server _ b _ sb g.whole.server_cut begin) in
      good_with Server v cb (sb ++ b ∷ []) g.conversation w g.causal g.bounded (load_here limits h v cb sb g)

  -- ---- A byte that makes a frame whole
  pub good_client : (f : ClientFrame) → cb ++ b ∷ [] ≡ frame (client_payload f) → length (client_payload f) ≤ limits.client → ClientMay limits.profile v.client f → load (v.client ++ f ∷ []) v.server ≤ limits.waiting → length (side_bytes Client h) + 1 < 2 ^ 62 →
      Good limits (h ++ (Client, b) ∷ []) (with_client v f) [] sb
  good_client f e l may fits =
      let cut = cut_whole limits.client _ b _ cb (client_payload f) g.whole.client_cut e l in
      let named = subst (λ z. IsCut limits.client (side_bytes Client h ++ b ∷ []) z []) (sym (map-append client_payload v.client (f ∷ []))) cut in
      let w = whole_client limits h b v.client (v.client ++ f ∷ []) v.server cb sb [] g.whole named in
      let shorter : length cb < length (frame (client_payload f)) = omega (arith, ap length e, length_push cb b) in
      good_with Client (with_client v f) [] sb (conversation_client limits.profile v f g.conversation may) w (causal_client limits h v cb sb g.whole f g.conversation may g.causal) (bounded_client limits h v cb sb g.whole f shorter g.bounded) fits

  pub good_server : (s : ServerFrame) → sb ++ b ∷ [] ≡ frame (server_payload s) → length (server_payload s) ≤ limits.server → ServerMay v.client v.server s → length (side_bytes Server h) + 1 < 2 ^ 62 →
      Good limits (h ++ (Server, b) ∷ []) (with_server v s) cb []
  good_server s e l may =
      let cut = cut_whole limits.server _ b _ sb (server_payload s) g.whole.server_cut e l in
      let named = subst (λ z. IsCut limits.server (side_bytes Server h ++ b ∷ []) z []) (sym (map-append server_payload v.server (s ∷ []))) cut in
      let w = whole_server limits h b v.client v.server (v.server ++ s ∷ []) cb sb [] g.whole named in
      let shorter : length sb < length (frame (server_payload s)) = omega (arith, ap length e, length_push sb b) in
      let loads : load v.client (v.server ++ s ∷ []) ≤ limits.waiting = omega (arith, load_reply v.client v.server s, load_here limits h v cb sb g) in
      good_with Server (with_server v s) cb [] (conversation_server limits.profile v s g.conversation may) w (causal_server limits h v cb sb g.whole s shorter g.causal) (bounded_server limits h v cb sb g.whole s shorter g.bounded) loads

  -- ---- A byte that nothing good goes on with
  pub bad_length : (side : Side) → IsBadLength (side_limit limits side) (rest_on side cb sb ++ b ∷ []) → IsGood limits (h ++ (side, b) ∷ []) → ⊥
  bad_length Client bad n =
      let cut = subst (λ z. IsCut limits.client z (client_payloads n.0.client) n.1) (side_bytes-same Client h b) n.3.whole.client_cut in
      cut_bad limits.client _ b _ _ cb n.1 small.0 g.whole.client_cut bad cut
  bad_length Server bad n =
      let cut = subst (λ z. IsCut limits.server z (server_payloads n.0.server) n.2) (side_bytes-same Server h b) n.3.whole.server_cut in
      cut_bad limits.server _ b _ _ sb n.2 small.1 g.whole.server_cut bad cut

  pub side_full : (side : Side) → 2 ^ 62 ≤ length (side_bytes side h) + 1 → IsGood limits (h ++ (side, b) ∷ []) → ⊥
  side_full Client full n = omega (arith, full, n.3.client_size, ap length (side_bytes-same Client h b), length_push (side_bytes Client h) b)
  side_full Server full n = omega (arith, full, n.3.server_size, ap length (side_bytes-same Server h b), length_push (side_bytes Server h) b)

  -- Where a whole payload of the client leaves the history good, it is that of a frame that may stand there.
  pub record FoundClient (p : List ℕ) : Type 0 where
    pub found : ClientFrame
    pub payload : client_payload found ≡ p
    pub may : ClientMay limits.profile v.client found
    pub fits : load (v.client ++ found ∷ []) v.server ≤ limits.waiting

  pub found_client : (p : List ℕ) → cb ++ b ∷ [] ≡ frame p → length p ≤ limits.client → IsGood limits (h ++ (Client, b) ∷ []) → FoundClient p
  found_client p e l n =
      let w = n.0 in
      let split = last_frame client_payload limits.client small.0 (side_bytes Client h) b (client_payloads v.client) cb p g.whole.client_cut e l w.client n.1 (subst (λ z. IsCut limits.client z (client_payloads w.client) n.1) (side_bytes-same Client h b) n.3.whole.client_cut) in
      let each = subst (EachAfter (ClientMay limits.profile)) split.2 n.3.conversation.client in
      let before = EachAfter-left (ClientMay limits.profile) split.0 (split.1 ∷ []) each in
      let same = same_clients limits.profile split.0 v.client before g.conversation.client split.3 in
      let clients : w.client ≡ v.client ++ split.1 ∷ [] = split.2 ∙ ap (λ z. z ++ split.1 ∷ []) same in
      let may = subst (λ z. ClientMay limits.profile z split.1) same (EachAfter-at (ClientMay limits.profile) split.0 split.1 [] each) in
      let server_cut = subst (λ z. IsCut limits.server z (server_payloads w.server) n.2) (other-bytes Client h b) n.3.whole.server_cut in
      let servers = same_servers (v.client ++ split.1 ∷ []) w.server v.server
      (subst (λ z. EachAfter (ServerMay z) w.server) clients n.3.conversation.server)
      (each_still v.client split.1 v.server g.conversation.server)
      (same_cut limits.server _ _ _ _ _ small.1 server_cut g.whole.server_cut).0 in
      let here = load_here limits (h ++ (Client, b) ∷ []) w n.1 n.2 n.3 in
      record {
        found = split.1;
        payload = split.4;
        may = may;
        fits = subst (λ z. load z v.server ≤ limits.waiting) clients (subst (λ z. load w.client z ≤ limits.waiting) servers here);
      }

  pub record FoundServer (p : List ℕ) : Type 0 where
    pub found : ServerFrame
    pub payload : server_payload found ≡ p
    pub may : ServerMay v.client v.server found

  pub found_server : (p : List ℕ) → sb ++ b ∷ [] ≡ frame p → length p ≤ limits.server → IsGood limits (h ++ (Server, b) ∷ []) → FoundServer p
  found_server p e l n =
      let w = n.0 in
      let split = last_frame server_payload limits.server small.1 (side_bytes Server h) b (server_payloads v.server) sb p g.whole.server_cut e l w.server n.2 (subst (λ z. IsCut limits.server z (server_payloads w.server) n.2) (side_bytes-same Server h b) n.3.whole.server_cut) in
      let client_cut = subst (λ z. IsCut limits.client z (client_payloads w.client) n.1) (other-bytes Server h b) n.3.whole.client_cut in
      let clients = same_clients limits.profile w.client v.client n.3.conversation.client g.conversation.client (same_cut limits.client _ _ _ _ _ small.0 client_cut g.whole.client_cut).0 in
      let each = subst (EachAfter (ServerMay v.client)) split.2 (subst (λ z. EachAfter (ServerMay z) w.server) clients n.3.conversation.server) in
      let before = EachAfter-left (ServerMay v.client) split.0 (split.1 ∷ []) each in
      let same = same_servers v.client split.0 v.server before g.conversation.server split.3 in
      record {
        found = split.1;
        payload = split.4;
        may = subst (λ z. ServerMay v.client z split.1) same (EachAfter-at (ServerMay v.client) split.0 split.1 [] each);
      }
