-- The talk takes a request of the profile that there is room for.
use Rattle.std.proofs.Common.{◌≡◌, ◌≢◌, ℕ, zero, suc, ◌+◌, ◌<◌, ◌≤◌, ◌^◌, inl, inr, List, [], ◌∷◌, ◌++◌, length, take, refl, sym, ap, ◌∙◌, subst, arith, length-append}
use Rattle.std.proofs.lemmas.List.{length-take-le, append-nil, nil_from_length, length-map}
use Rattle.zk_records.specs.declared.profile.Profile.{Profile}
use Rattle.zk_asks.specs.{Held.ClientFrame, Frames.IsLater, Frames.IsSent, Frames.IsOfProfile}
use Rattle.zk_asks.specs.declared.frame.ClientFrameOf.TheVariants.{Connect, Ask}
use Rattle.zk_frames.specs.Framing.{frame, frames}
use Rattle.zk_frames.proofs.Cuts.{length-frame}
use Rattle.zk_talk.specs.declared.message.Side.TheVariants.{Client, Server}
use Rattle.zk_talk.specs.{declared.limits.Limits.Limits, Good.Good, Good.IsOrder, Good.client_payloads, Good.server_payloads, Held.Message, declared.message.MessageOf.TheVariants.Client as FromClient}
use Rattle.zk_talk.specs.Conversation.{Conversation, ClientMay, with_client, load, weight}
use Rattle.zk_talk.specs.{History.History, History.side_bytes, History.on, Payloads.client_payload, Payloads.server_payload}
use Rattle.zk_talk.proofs.{Histories.side_bytes-append, Histories.no_bytes, Loads.load_ask, Spoken.step, Standing.other-on, Replays.own_bytes}
use Rattle.zk_through.specs.{Came.Came, Came.payloads, Came.told, LeftOut.KeptAfter, Runs.ThroughState, Runs.Runs, Runs.IsRequestOf}
use Rattle.zk_through.proofs.Frames.{payloads-other, no_payloads, of_client, of_server, past_client, some_server}
use Rattle.zk_through.proofs.Seen.{seen_client, client_counts, counts_none}

-- ---- The client's frames that the talk was given
none_on : (bs : List ℕ) → side_bytes Client (on Server bs) ≡ []
none_on bs = other-on Server bs [] ∙ no_bytes Client

bytes_are : (k : Came) → side_bytes Client (told k) ≡ frames (payloads Client k)
bytes_are [] = no_bytes Client ∙ ap frames (sym (no_payloads Client))
bytes_are ((Client, p) ∷ k) = side_bytes-append Client (on Client (frame p)) (told k) ∙ (λ i. own_bytes Client (frame p) i ++ bytes_are k i) ∙ ap frames (sym (of_client p k))
bytes_are ((Server, q) ∷ k) = side_bytes-append Client (on Server (frame q)) (told k) ∙ (λ i. none_on (frame q) i ++ bytes_are k i) ∙ ap frames (sym (of_server q k))

weight_more : (p : List ℕ) (k : Came) → length (frames (payloads Client ((Client, p) ∷ k))) ≡ length (frame p) + length (frames (payloads Client k))
weight_more p k = ap (λ z. length (frames z)) (of_client p k) ∙ length-append (frame p) (frames (payloads Client k))

weight_same : (q : List ℕ) (k : Came) → length (frames (payloads Client ((Server, q) ∷ k))) ≡ length (frames (payloads Client k))
weight_same q k = ap (λ z. length (frames z)) (of_server q k)

module _ (profile : Profile) where
  no_more : (before came kept : Came) → KeptAfter profile before came kept → length (frames (payloads Client kept)) ≤ length (frames (payloads Client came))
  no_more before [] kept e = omega (arith, ap (λ z. length (frames (payloads Client z))) e)
  no_more before ((Client, p) ∷ came) kept (inl a) = omega (arith, weight_more p came, no_more (before ++ (Client, p) ∷ []) came kept a.1)
  no_more before ((Server, q) ∷ came) kept (inl a) = omega (arith, weight_same q came, no_more (before ++ (Server, q) ∷ []) came kept a.1)
  no_more before ((Client, p) ∷ came) kept (inr a) = omega (arith, ap (λ z. length (frames (payloads Client z))) a.2, weight_more p a.1, weight_more p came, no_more (before ++ (Client, p) ∷ []) came a.1 a.3)
  no_more before ((Server, q) ∷ came) kept (inr a) = omega (arith, ap (λ z. length (frames (payloads Client z))) a.2, weight_same q a.1, weight_same q came, no_more (before ++ (Server, q) ∷ []) came a.1 a.3)

  -- the first of them is never left out
  first_kept : (before came kept : Came) → KeptAfter profile before came kept → payloads Client before ≡ [] → payloads Client kept ≡ [] → payloads Client came ≡ []
  first_kept before [] kept e none empty = no_payloads Client
  first_kept before ((Client, p) ∷ came) kept (inl a) none empty = absurd (a.0.0 none)
  first_kept before ((Client, p) ∷ came) kept (inr a) none empty = absurd (omega (arith, ap length empty, ap (λ z. length (payloads Client z)) a.2, ap length (of_client p a.1)))
  first_kept before ((Server, q) ∷ came) kept (inl a) none empty = of_server q came ∙ first_kept (before ++ (Server, q) ∷ []) came kept a.1 (payloads-other Server before q ∙ none) empty
  first_kept before ((Server, q) ∷ came) kept (inr a) none empty =
      of_server q came ∙ first_kept (before ++ (Server, q) ∷ []) came a.1 a.3 (payloads-other Server before q ∙ none) (sym (of_server q a.1) ∙ ap (payloads Client) (sym a.2) ∙ empty)

  -- of no frames none is kept
  none_kept : (before came kept : Came) → KeptAfter profile before came kept → payloads Server came ≡ [] → payloads Server kept ≡ []
  none_kept before [] kept e none = ap (payloads Server) e ∙ no_payloads Server
  none_kept before ((Client, p) ∷ came) kept (inl a) none = none_kept (before ++ (Client, p) ∷ []) came kept a.1 (sym (past_client p came) ∙ none)
  none_kept before ((Client, p) ∷ came) kept (inr a) none = ap (payloads Server) a.2 ∙ past_client p a.1 ∙ none_kept (before ++ (Client, p) ∷ []) came a.1 a.3 (sym (past_client p came) ∙ none)
  none_kept before ((Server, q) ∷ came) kept a none = absurd (some_server q came none)

none_told : (k : Came) → payloads Server k ≡ [] → side_bytes Server (told k) ≡ []
none_told [] none = no_bytes Server
none_told ((Client, p) ∷ k) none = side_bytes-append Server (on Client (frame p)) (told k) ∙ (λ i. (other-on Client (frame p) [] ∙ no_bytes Server) i ++ none_told k (sym (past_client p k) ∙ none) i)
none_told ((Server, q) ∷ k) none = absurd (some_server q k none)

no_frames : (P : List (List ℕ)) → length (frames P) ≡ 0 → P ≡ []
no_frames [] e = refl
no_frames (p ∷ P) e = absurd (omega (arith, e, length-append (frame p) (frames P), length-frame p))

-- ---- One request more
later_may : (profile : Profile) (C : List ClientFrame) (f : ClientFrame) → C ≢ [] → IsLater f → IsSent f → IsOfProfile profile f → ClientMay profile C f
later_may profile [] f some later sent of = absurd (some refl)
later_may profile (first ∷ C) f some later sent of = (later, sent, of)

pub some_weight : (f : ClientFrame) → IsLater f → 0 < weight f
some_weight (Connect hello read_only) later = absurd later
some_weight (Ask xid ask) later = omega arith

module _ (limits : Limits) (h : History) (v : Conversation) (M : List Message) (g : Good limits h v [] []) (o : IsOrder limits h v M) (p : List ℕ) (fits : length p ≤ limits.client) (size : length (side_bytes Client h) + length (frame p) < 2 ^ 62) where
  good_with : (f : ClientFrame) → client_payload f ≡ p → ClientMay limits.profile v.client f → load (v.client ++ f ∷ []) v.server ≤ limits.waiting → Good limits (h ++ on Client (frame p)) (with_client v f) [] []
  good_with f is may loads =
      let r = step limits h v M (record { good = g; order = o }) (FromClient f) (omega (arith, fits, ap length is)) (may, loads) (omega (arith, size, ap (λ (z : List ℕ). length (frame z)) is)) in
      subst (λ z. Good limits (h ++ on Client (frame z)) (with_client v f) [] []) is r.good

-- the talk's conversation with the request is good
module _ (t : ThroughState) (h : History) (c k : Came) (M : List Message) (r : Runs t h c k M) where
  pub its_good : Good t.talk.limits (told k) r.stands.conversation [] []
  its_good =
      subst (λ z. Good t.talk.limits (told k) r.stands.conversation z []) r.alone.0
      (subst (λ z. Good t.talk.limits (told k) r.stands.conversation t.talk.client_held z) r.alone.1 r.stands.good)

  pub has_begun : 0 < t.client.count → r.stands.conversation.client ≢ []
  has_begun some none =
      let empty : length (side_bytes Client (told k)) ≡ 0 = ap length (its_good.whole.client_cut.whole ∙ ap (λ z. frames (client_payloads z) ++ []) none) in
      let given = no_frames (payloads Client k) (ap length (sym (bytes_are k)) ∙ empty) in
      let came = first_kept t.talk.limits.profile [] c k r.kept (no_payloads Client) given in
      omega (arith, some, client_counts t h c k M r, ap length came)

  pub begins : r.stands.conversation.client ≢ [] → 0 < t.client.count
  begins some = go t.client.count refl
    where
      go : (n : ℕ) → n ≡ t.client.count → 0 < t.client.count
      go zero e =
          let came : payloads Client c ≡ [] = nil_from_length (payloads Client c) (omega (arith, e, client_counts t h c k M r)) in
          let none : length (frames (client_payloads r.stands.conversation.client)) ≡ 0 = omega (arith, ap length (its_good.whole.client_cut.whole ∙ append-nil (frames (client_payloads r.stands.conversation.client))), ap length (bytes_are k), no_more t.talk.limits.profile [] c k r.kept, ap (λ z. length (frames z)) came) in
          absurd (some (nil_from_length r.stands.conversation.client (omega (arith, ap length (no_frames (client_payloads r.stands.conversation.client) none), length-map r.stands.conversation.client client_payload))))
      go (suc n) e = omega (arith, e)

  pub server_begins : r.stands.conversation.server ≢ [] → 0 < t.server.count
  server_begins some = go t.server.count refl
    where
      go : (n : ℕ) → n ≡ t.server.count → 0 < t.server.count
      go zero e =
          let S = r.stands.conversation.server in
          let came : payloads Server c ≡ [] = counts_none t h c k M r (sym e) in
          let bytes = none_told k (none_kept t.talk.limits.profile [] c k r.kept came) in
          let none : length (frames (server_payloads S)) ≡ 0 = ap length (sym (append-nil (frames (server_payloads S))) ∙ sym its_good.whole.server_cut.whole ∙ bytes) in
          absurd (some (nil_from_length S (omega (arith, ap length (no_frames (server_payloads S) none), length-map S server_payload))))
      go (suc n) e = omega (arith, e)

  module _ (piece : List ℕ) (used : ℕ) (p : List ℕ) (part : used ≤ length piece) (small : t.client.size + used < 2 ^ 62) (is : t.client.held ++ take used piece ≡ frame p) (fits : length p ≤ t.talk.limits.client) (some : 0 < t.client.count) where
    bounded : length (side_bytes Client (told k)) + length (frame p) < 2 ^ 62
    bounded =
        let held = t.client.held in
        let whole : length (side_bytes Client h) ≡ length (frames (payloads Client r.all)) + length held = ap length (r.frames.cut Client).whole ∙ length-append (frames (payloads Client r.all)) held in
        let same : length (frames (payloads Client c)) ≡ length (frames (payloads Client r.all)) = ap (λ z. length (frames z)) (seen_client t.late r.all c r.seen) in
        let all : length (frame p) ≡ length held + used = ap length (sym is) ∙ length-append held (take used piece) ∙ ap (λ z. length held + z) (length-take-le used piece part) in
        omega (arith, small, r.sizes Client, whole, same, all, ap length (bytes_are k), no_more t.talk.limits.profile [] c k r.kept)

    pub talk_takes : (w : ℕ) (q : IsRequestOf t.talk.limits.profile p w) → load r.stands.conversation.client r.stands.conversation.server + w ≤ t.talk.limits.waiting →
        Good t.talk.limits (told k ++ on Client (frame p)) (with_client r.stands.conversation q.0) [] []
    talk_takes w q loads =
        let v = r.stands.conversation in
        good_with t.talk.limits (told k) v M its_good r.stands.order p fits bounded q.0 q.4 (later_may t.talk.limits.profile v.client q.0 (has_begun some) q.1 q.2 q.3)
        (omega (arith, loads, load_ask v q.0 its_good.conversation.server, q.5))
