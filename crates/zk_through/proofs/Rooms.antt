-- What waits weighs no more than may, those that are left out too; and each lane has room for it.
use Rattle.std.proofs.Common.{◌≡◌, ◌≢◌, ℕ, ◌+◌, ◌-◌, ◌^◌, ◌<◌, ◌≤◌, map, List, [], ◌∷◌, ◌++◌, length, drop, refl, sym, ap, ◌∙◌, subst, arith, false}
use Rattle.std.proofs.lemmas.Bool.{false≢true}
use Rattle.std.proofs.lemmas.List.{append-nil, map-append, same_from_push, length_push, length-drop}
use Rattle.zk_records.specs.declared.profile.Profile.{Profile}
use Rattle.zk_asks.specs.{Held.ClientFrame, Frames.IsFirst, Frames.IsLater, Frames.IsSent, Frames.IsOfProfile}
use Rattle.zk_asks.specs.declared.frame.ClientFrameOf.TheVariants.{Connect, Ask}
use Rattle.zk_answers.specs.Held.{ServerFrame}
use Rattle.zk_answers.specs.declared.frame.ServerFrameOf.TheVariants.{Connected, Answered, Event}
use Rattle.zk_frames.specs.Framing.{frame, frames, IsCut}
use Rattle.zk_frames.proofs.Cuts.{whole_frame}
use Rattle.zk_waiting.specs.{declared.lane.Lane.Lane, declared.lane.Lane.TheVariants.Ping, Waiting.count_of}
use Rattle.zk_talk.specs.declared.message.Side.TheVariants.{Client, Server}
use Rattle.zk_talk.specs.declared.message.MessageOf.TheVariants.{Client as FromClient, Server as FromServer}
use Rattle.zk_talk.specs.{declared.limits.Limits.Limits, Good.Good, Good.client_payloads, Good.server_payloads, Good.clients, Good.servers, Held.Message, History.History, History.side_bytes, History.on}
use Rattle.zk_talk.specs.Conversation.{Conversation, ClientMay, ServerMay, load, weight}
use Rattle.zk_talk.specs.{Payloads.client_payload, Payloads.server_payload, Stands.TalkState, Stands.Stands, Viewed.Shows}
use Rattle.zk_talk.proofs.{Headline.same_good, Loads.load_ask, Queues.weight_is_load, Steps.load_reply, Small.small_limits, Standing.clients-append, Standing.servers-append}
use Rattle.zk_through.specs.{declared.turn.Turn.Turn, Came.Came, Came.told, LeftOut.has_turn, Turns.TurnsState, Turns.left_out, Turns.waits_on, Turns.with_waits, Turns.and_turn, Turns.number_of_turns}
use Rattle.zk_through.specs.Runs.{ThroughState, Runs, IsRequestOf}
use Rattle.zk_through.proofs.Counts.{IsNoReply, reply_has_turn, count_kept, count_ask, count_reply, count_still, count_weighs}
use Rattle.zk_through.proofs.{Telling.bytes_more, Fitting.its_good, Fitting.begins, Fitting.server_begins, Fitting.has_begun, Fitting.some_weight}

-- ---- How many wait, with one lane changed
turns_with : (l : Lane) (f : List Turn → List Turn) (t : TurnsState) → number_of_turns (with_waits l f t) + length (waits_on l t) ≡ number_of_turns t + length (f (waits_on l t))
turns_with Ping f t = omega arith
turns_with _ f t = omega arith

pub with_one : (l : Lane) (turn : Turn) (t : TurnsState) → number_of_turns (with_waits l (and_turn t.room turn) t) ≤ number_of_turns t + 1
with_one l turn t =
    let turns = waits_on l t in
    omega (arith, turns_with l (and_turn t.room turn) t, length-drop (length (turns ++ turn ∷ []) - t.room) (turns ++ turn ∷ []), length_push turns turn)

pub without_one : (l : Lane) (t : TurnsState) → 0 < length (waits_on l t) → number_of_turns (with_waits l (drop 1) t) + 1 ≡ number_of_turns t
without_one l t some = omega (arith, some, turns_with l (drop 1) t, length-drop 1 (waits_on l t))

in_lane : (l : Lane) (t : TurnsState) → length (waits_on l t) ≤ number_of_turns t
in_lane Ping t = omega arith
in_lane _ t = omega arith

-- ---- Those of the talk
-- the payload of the frame that a side has more, where its bytes are those of a frame more
its_payload : {F : Type 0} (limit : ℕ) (bytes p : List ℕ) (payload : F → List ℕ) (old new : List F) (f : F) → limit < 2 ^ 31 → IsCut limit bytes (map payload old) [] → length p ≤ limit → IsCut limit (bytes ++ frame p) (map payload new) [] → new ≡ old ++ f ∷ [] →
    payload f ≡ p
its_payload limit bytes p payload old new f small before fits after one =
    let P = map payload old in
    let cut = subst (λ z. IsCut limit z (map payload new) []) (ap (λ z. z ++ frame p) (before.whole ∙ append-nil (frames P))) after in
    let w = whole_frame limit bytes P (map payload new) [] p [] small before fits cut in
    (same_from_push P P (payload f) p (sym (map-append payload old (f ∷ [])) ∙ ap (map payload) (sym one) ∙ w.0)).1

no_weight : (f : ClientFrame) → IsFirst f → 0 ≡ weight f
no_weight (Connect hello read_only) first = refl
no_weight (Ask xid ask) first = absurd first

later_is : (profile : Profile) (C : List ClientFrame) (f : ClientFrame) → C ≢ [] → ClientMay profile C f → IsLater f × IsSent f × IsOfProfile profile f
later_is profile [] f some may = absurd (some refl)
later_is profile (first ∷ C) f some may = may

-- the frame that the talk was told, after its conversation
record ToldClient (limits : Limits) (old new : Conversation) (p : List ℕ) : Type 0 where
  pub f : ClientFrame
  pub client : new.client ≡ old.client ++ f ∷ []
  pub server : new.server ≡ old.server
  pub may : ClientMay limits.profile old.client f
  pub payload : client_payload f ≡ p

record ToldServer (old new : Conversation) (q : List ℕ) : Type 0 where
  pub s : ServerFrame
  pub client : new.client ≡ old.client
  pub server : new.server ≡ old.server ++ s ∷ []
  pub may : ServerMay new.client old.server s
  pub payload : server_payload s ≡ q

module _ (t : ThroughState) (h : History) (c k : Came) (M : List Message) (r : Runs t h c k M) where
  -- each lane has room for one more, where there is room for more
  pub waits_fit : (size : ℕ) → 0 < size → load r.stands.conversation.client r.stands.conversation.server + left_out t.turns + size ≤ t.talk.limits.waiting → t.turns.room ≡ t.talk.limits.waiting →
      (l : Lane) → length (waits_on l t.turns) < t.turns.room
  waits_fit size some fits room l = omega (arith, some, fits, room, r.few, in_lane l t.turns, count_weighs t.talk.waiting, weight_is_load r.stands.conversation t.talk.waiting r.stands.queues)

  module _ (new : TalkState) (same : new.limits ≡ t.talk.limits) (ch : new.client_held ≡ []) (sh : new.server_held ≡ []) where
    good_now : (H : History) (N : List Message) (st : Stands new H N) → Good t.talk.limits H st.conversation [] []
    good_now H N st =
        subst (λ (z : List ℕ). Good t.talk.limits H st.conversation z []) ch
        (subst (λ (z : List ℕ). Good t.talk.limits H st.conversation new.client_held z) sh (subst (λ (l : Limits). Good l H st.conversation new.client_held new.server_held) same st.good))

    module _ (p : List ℕ) (fits : length p ≤ t.talk.limits.client) where
      told_client : (m : Message) → Shows new Client m → (st : Stands new (told k ++ on Client (frame p)) (M ++ m ∷ [])) → ToldClient t.talk.limits r.stands.conversation st.conversation p
      told_client (FromServer s) shows st = absurd shows
      told_client (FromClient f) shows st =
          let old = r.stands.conversation in
          let g0 = its_good t h c k M r in
          let g = good_now (told k ++ on Client (frame p)) (M ++ FromClient f ∷ []) st in
          let ec : st.conversation.client ≡ old.client ++ f ∷ [] = sym st.order.client ∙ clients-append M (FromClient f ∷ []) ∙ ap (λ z. z ++ f ∷ []) r.stands.order.client in
          let es : st.conversation.server ≡ old.server = sym st.order.server ∙ servers-append M (FromClient f ∷ []) ∙ append-nil (servers M) ∙ r.stands.order.server in
          let payload = its_payload t.talk.limits.client (side_bytes Client (told k)) p client_payload old.client st.conversation.client f (small_limits t.talk.limits).0 g0.whole.client_cut fits (subst (λ z. IsCut t.talk.limits.client z (client_payloads st.conversation.client) []) (bytes_more Client (told k) (frame p)) g.whole.client_cut) ec in
          record { f = f; client = ec; server = es; may = g.conversation.client old.client f [] ec; payload = payload }

      module _ (m : Message) (shows : Shows new Client m) (st : Stands new (told k ++ on Client (frame p)) (M ++ m ∷ [])) where
        its : ToldClient t.talk.limits r.stands.conversation st.conversation p
        its = told_client m shows st

        -- no fewer wait
        pub kept_client : count_of t.talk.waiting ≤ count_of new.waiting
        kept_client = count_kept r.stands.conversation st.conversation t.talk.waiting new.waiting r.stands.queues st.queues its.f its.client its.server (its_good t h c k M r).conversation.server

        module _ (begun : 0 < t.client.count) where
          may_now : IsLater its.f × IsSent its.f × IsOfProfile t.talk.limits.profile its.f
          may_now = later_is t.talk.limits.profile r.stands.conversation.client its.f (has_begun t h c k M r begun) its.may

          -- one more waits
          pub one_more : count_of new.waiting ≡ count_of t.talk.waiting + 1
          one_more = count_ask r.stands.conversation st.conversation t.talk.waiting new.waiting r.stands.queues st.queues its.f its.client its.server (its_good t h c k M r).conversation.server may_now.0

          pub weighs_some : (size : ℕ) → ((n : ℕ) → IsRequestOf t.talk.limits.profile p n → n ≤ size) → 0 < size
          weighs_some size only = omega (arith, some_weight its.f may_now.0, only (weight its.f) (its.f, may_now.0, may_now.1, may_now.2, its.payload, refl))

        -- the load is more by what the frame weighs, at most
        pub load_client : (size : ℕ) → (0 < t.client.count → (n : ℕ) → IsRequestOf t.talk.limits.profile p n → n ≤ size) → (v : Conversation) → Good t.talk.limits (told k ++ on Client (frame p)) v [] [] →
            load v.client v.server ≤ load r.stands.conversation.client r.stands.conversation.server + size
        load_client size only v g =
            let limits = t.talk.limits in
            let old = r.stands.conversation in
            let H = told k ++ on Client (frame p) in
            let alike : v ≡ st.conversation = (same_good limits (small_limits limits) H v st.conversation [] [] [] [] g (good_now H (M ++ m ∷ []) st)).0 in
            let more : load v.client v.server ≡ load old.client old.server + weight its.f =
            (λ i. load (alike i).client (alike i).server) ∙ (λ i. load (its.client i) (its.server i)) ∙ load_ask old its.f (its_good t h c k M r).conversation.server in
            weighed old.client refl its.may more
          where
            weighed : (C : List ClientFrame) → C ≡ r.stands.conversation.client → ClientMay t.talk.limits.profile C its.f → load v.client v.server ≡ load r.stands.conversation.client r.stands.conversation.server + weight its.f →
                load v.client v.server ≤ load r.stands.conversation.client r.stands.conversation.server + size
            weighed [] e may more = omega (arith, more, no_weight its.f may.0)
            weighed (first ∷ C) e may more =
                let begun = begins t h c k M r (λ none. omega (arith, ap length e, ap length none)) in
                omega (arith, more, only begun (weight its.f) (its.f, may.0, may.1, may.2, its.payload, refl))

    module _ (q : List ℕ) (fits : length q ≤ t.talk.limits.server) where
      told_server : (m : Message) → Shows new Server m → (st : Stands new (told k ++ on Server (frame q)) (M ++ m ∷ [])) → ToldServer r.stands.conversation st.conversation q
      told_server (FromClient f) shows st = absurd shows
      told_server (FromServer s) shows st =
          let old = r.stands.conversation in
          let g0 = its_good t h c k M r in
          let g = good_now (told k ++ on Server (frame q)) (M ++ FromServer s ∷ []) st in
          let ec : st.conversation.client ≡ old.client = sym st.order.client ∙ clients-append M (FromServer s ∷ []) ∙ append-nil (clients M) ∙ r.stands.order.client in
          let es : st.conversation.server ≡ old.server ++ s ∷ [] = sym st.order.server ∙ servers-append M (FromServer s ∷ []) ∙ ap (λ z. z ++ s ∷ []) r.stands.order.server in
          let payload = its_payload t.talk.limits.server (side_bytes Server (told k)) q server_payload old.server st.conversation.server s (small_limits t.talk.limits).1 g0.whole.server_cut fits (subst (λ z. IsCut t.talk.limits.server z (server_payloads st.conversation.server) []) (bytes_more Server (told k) (frame q)) g.whole.server_cut) es in
          record { s = s; client = ec; server = es; may = g.conversation.server old.server s [] es; payload = payload }

      module _ (m : Message) (shows : Shows new Server m) (st : Stands new (told k ++ on Server (frame q)) (M ++ m ∷ [])) where
        theirs : ToldServer r.stands.conversation st.conversation q
        theirs = told_server m shows st

        -- one less waits at most
        pub one_less : count_of t.talk.waiting ≤ count_of new.waiting + 1
        one_less = count_reply r.stands.conversation st.conversation t.talk.waiting new.waiting r.stands.queues st.queues theirs.s theirs.client theirs.server

        -- none less, if it is no reply: the first of the server's, or with another header
        pub kept_server : (0 < t.server.count → has_turn 16 q ≡ false) → count_of t.talk.waiting ≤ count_of new.waiting
        kept_server other = count_still r.stands.conversation st.conversation t.talk.waiting new.waiting r.stands.queues st.queues theirs.s theirs.client theirs.server (no_reply theirs.s r.stands.conversation.server refl theirs.may theirs.payload)
          where
            begun : (first : ServerFrame) (S : List ServerFrame) → first ∷ S ≡ r.stands.conversation.server → 0 < t.server.count
            begun first S e = server_begins t h c k M r (λ none. omega (arith, ap length e, ap length none))

            no_reply : (s : ServerFrame) (S : List ServerFrame) → S ≡ r.stands.conversation.server → ServerMay st.conversation.client S s → server_payload s ≡ q → IsNoReply s
            no_reply (Connected hello read_only) S e may payload = tt
            no_reply (Event zxid event) S e may payload = tt
            no_reply (Answered reply) [] e may payload = absurd may
            no_reply (Answered reply) (first ∷ S) e may payload = false≢true (sym (other (begun first S e)) ∙ reply_has_turn reply q may.0 payload)

        -- and the load is less by what is answered
        pub load_server : (v : Conversation) → Good t.talk.limits (told k ++ on Server (frame q)) v [] [] → load v.client v.server ≤ load r.stands.conversation.client r.stands.conversation.server
        load_server v g =
            let limits = t.talk.limits in
            let old = r.stands.conversation in
            let H = told k ++ on Server (frame q) in
            let alike : v ≡ st.conversation = (same_good limits (small_limits limits) H v st.conversation [] [] [] [] g (good_now H (M ++ m ∷ []) st)).0 in
            let fewer : load v.client v.server ≡ load old.client (old.server ++ theirs.s ∷ []) = (λ i. load (alike i).client (alike i).server) ∙ (λ i. load (theirs.client i) (theirs.server i)) in
            omega (arith, fewer, load_reply old.client old.server theirs.s)
