-- One more byte keeps a history good, or can't.
use Rattle.std.proofs.Common.{◌≡◌, ℕ, ◌+◌, ◌<◌, ◌≤◌, List, [], ◌∷◌, ◌++◌, length, map, refl, sym, ap, ◌∙◌, subst, arith, append_assoc, length-append, Bool, true, false, filter, cond, leb}
use Rattle.std.proofs.lemmas.List.{append-nil, map-append, length-map, nil_from_length}
use Rattle.std.proofs.{lemmas.List.Concat.flat_map-append, lemmas.List.Elements.filter-append, lemmas.Bool.leb-true, lemmas.Bool.leb-false}
use Rattle.zk_records.specs.declared.profile.Profile.{Profile}
use Rattle.zk_asks.specs.Held.{ClientFrame}
use Rattle.zk_asks.specs.declared.frame.ClientFrameOf.TheVariants.{Connect, Ask}
use Rattle.zk_answers.specs.Held.{ServerFrame}
use Rattle.zk_answers.specs.declared.frame.ServerFrameOf.TheVariants.{Connected, Answered, Event}
use Rattle.zk_talk.specs.{Payloads.client_payload, Payloads.server_payload, declared.message.Side.Side, declared.limits.Limits.Limits, Splits.EachAfter, History.History, History.side_bytes}
use Rattle.zk_talk.specs.declared.message.Side.TheVariants.{Client, Server}
use Rattle.zk_frames.specs.Framing.{frame, frames}
use Rattle.zk_waiting.specs.Lane.{lane_of}
use Rattle.zk_talk.specs.Conversation.{with_client, with_server, is_ask_on, is_reply_on, asks_on, replies_on, ClientMay, ServerMay, Answers, Conversation, IsConversation, load, sum_waiting, is_unanswered, weight}
use Rattle.zk_talk.specs.Good.{client_payloads, server_payloads, client_bytes, server_bytes, IsCausal, IsWhole, IsBounded}
use Rattle.zk_talk.proofs.{Small.AreSmall, Lists.InPushed.at_end, Lists.InPushed.inside, Lists.FrontOfPushed.all_of_it, Lists.FrontOfPushed.front_of, Turns.count_split, Turns.same_lane-itself, Histories.front-length}
use Rattle.zk_talk.proofs.Lists.{not_empty, InPushed, in_pushed, FrontOfPushed, front_of_pushed, EachAfter-push}
use Rattle.zk_frames.proofs.Cuts.{same_cut}

module _ {X : Type 0} (payload : X → List ℕ) where
  bytes-append : (A B : List X) → frames (map payload (A ++ B)) ≡ frames (map payload A) ++ frames (map payload B)
  bytes-append A B = ap frames (map-append payload A B) ∙ flat_map-append frame (map payload A) (map payload B)

  -- the bytes of some frames, and of the first of them
  pub bytes_front : (C a : List X) (c : X) (b : List X) → C ≡ a ++ c ∷ b → length (frames (map payload (a ++ c ∷ []))) ≤ length (frames (map payload C))
  bytes_front C a c b e =
      let same : C ≡ (a ++ c ∷ []) ++ b = e ∙ sym (append_assoc a (c ∷ []) b) in
      omega (arith, ap (λ z. length (frames (map payload z))) same, ap length (bytes-append (a ++ c ∷ []) b), length-append (frames (map payload (a ++ c ∷ []))) (frames (map payload b)))

  length-bytes_push : (C : List X) (f : X) → length (frames (map payload (C ++ f ∷ []))) ≡ length (frames (map payload C)) + length (frame (payload f))
  length-bytes_push C f = ap length (bytes-append C (f ∷ [])) ∙ length-append (frames (map payload C)) (frames (map payload (f ∷ []))) ∙ ap (λ z. length (frames (map payload C)) + length z) (append-nil (frame (payload f)))

-- a front with as many elements as the whole is the whole
pub front_is_all : {X Y : Type 0} (f : X → Y) (xs as' bs : List X) → xs ≡ as' ++ bs → map f as' ≡ map f xs → as' ≡ xs
front_is_all f xs as' bs e m =
    let n = nil_from_length bs (omega (arith, ap length e, length-append as' bs, ap length m, length-map as' f, length-map xs f)) in
    sym (append-nil as') ∙ ap (λ z. as' ++ z) (sym n) ∙ sym e

-- a history is whole in one way
pub same_whole : (limits : Limits) → AreSmall limits → (h : History) (C D : List ClientFrame) (S T : List ServerFrame) (cb db sb tb : List ℕ) →
    IsWhole limits h C S cb sb → IsWhole limits h D T db tb → (client_payloads C ≡ client_payloads D) × (server_payloads S ≡ server_payloads T) × (cb ≡ db) × (sb ≡ tb)
same_whole limits small h C D S T cb db sb tb x y =
    let c = same_cut limits.client _ _ _ _ _ small.0 x.client_cut y.client_cut in
    let s = same_cut limits.server _ _ _ _ _ small.1 x.server_cut y.server_cut in
    (c.0, s.0, c.1, s.1)

pub client_within : (limits : Limits) (h : History) (C : List ClientFrame) (S : List ServerFrame) (cb sb : List ℕ) → IsWhole limits h C S cb sb → length (side_bytes Client h) ≡ length (client_bytes C) + length cb
client_within limits h C S cb sb w = ap length w.client_cut.whole ∙ length-append (client_bytes C) cb

pub server_within : (limits : Limits) (h : History) (C : List ClientFrame) (S : List ServerFrame) (cb sb : List ℕ) → IsWhole limits h C S cb sb → length (side_bytes Server h) ≡ length (server_bytes S) + length sb
server_within limits h C S cb sb w = ap length w.server_cut.whole ∙ length-append (server_bytes S) sb

module _ (limits : Limits) (small : AreSmall limits) (h : History) (x : Side × ℕ) (v : Conversation) (cb sb : List ℕ) (whole : IsWhole limits (h ++ x ∷ []) v.client v.server cb sb) where
  -- In the longer history all frames have come, so only its fronts are left to see.
  pub causal_lift : IsCausal v h → IsCausal v (h ++ x ∷ [])
  causal_lift before front rest e sent s later es asked c further ec answers = go (front_of_pushed h x front rest e)
    where
      go : FrontOfPushed h x front rest → length (server_bytes (sent ++ s ∷ [])) ≤ length (side_bytes Server front) → length (client_bytes (asked ++ c ∷ [])) ≤ length (side_bytes Client front)
      go (all_of_it f r) _ = omega (arith, ap (λ z. length (side_bytes Client z)) f, client_within limits (h ++ x ∷ []) v.client v.server cb sb whole, bytes_front client_payload v.client asked c further ec)
      go (front_of r' f r) short = before front r' f sent s later es asked c further ec answers short

  pub bounded_lift : load v.client v.server ≤ limits.waiting → IsBounded limits v h → IsBounded limits v (h ++ x ∷ [])
  bounded_lift fits before front rest e client further ec server later es w = go (front_of_pushed h x front rest e)
    where
      go : FrontOfPushed h x front rest → load client server ≤ limits.waiting
      go (all_of_it f r) =
          let here = subst (λ z. IsWhole limits z client server w.0 w.1) f w.2 in
          let same = same_whole limits small (h ++ x ∷ []) client v.client server v.server w.0 cb w.1 sb here whole in
          let c = front_is_all client_payload v.client client further ec same.0 in
          let s = front_is_all server_payload v.server server later es same.1 in
          subst (λ z. load z server ≤ limits.waiting) (sym c) (subst (λ z. load v.client z ≤ limits.waiting) (sym s) fits)
      go (front_of r' f r) = before front r' f client further ec server later es w

-- a frame that may stand after all of the client's is answered by nothing yet
no_early : (profile : Profile) (v : Conversation) → IsConversation profile v → (f : ClientFrame) → ClientMay profile v.client f → (sent : List ServerFrame) (s : ServerFrame) (later : List ServerFrame) → v.server ≡ sent ++ s ∷ later → Answers sent s v.client f → ⊥
no_early profile v conv f may sent s later e answers = go v.client sent f s may (conv.server sent s later e) answers
  where
    go : (C : List ClientFrame) (sent : List ServerFrame) (f : ClientFrame) (s : ServerFrame) → ClientMay profile C f → ServerMay C sent s → Answers sent s C f → ⊥
    go [] [] (Connect t g) (Connected u k) m n a = n.1 refl
    go [] (y ∷ ys) (Connect t g) (Connected u k) m n a = n
    go (c ∷ cs) sent (Connect t g) (Connected u k) m n a = m.0
    go C [] (Ask xid ask) (Answered r) m n a = n
    go C (y ∷ ys) (Ask xid ask) (Answered r) m n a =
        let w = n.1 in
        let lane = lane_of r.xid in
        omega (arith, a.1, w.counts, ap (asks_on lane) w.stands, count_split (is_ask_on lane) w.asked (Ask r.xid w.ask) w.after (same_lane-itself lane))
    go C sent (Connect t g) (Answered r) m n a = a
    go C sent (Ask xid ask) (Connected u k) m n a = a
    go C sent (Connect t g) (Event z k) m n a = a
    go C sent (Ask xid ask) (Event z k) m n a = a

-- More frames of the client take nothing away from what the server may send.
pub may_still : (C : List ClientFrame) (f : ClientFrame) (before : List ServerFrame) (s : ServerFrame) → ServerMay C before s → ServerMay (C ++ f ∷ []) before s
may_still C f [] (Connected t g) m = (m.0, not_empty C f [])
may_still C f [] (Answered r) m = m
may_still C f [] (Event z k) m = m
may_still C f (y ∷ ys) (Connected t g) m = m
may_still C f (y ∷ ys) (Answered r) m =
    let w = m.1 in
    (m.0, record { asked = w.asked; ask = w.ask; after = w.after ++ f ∷ []; stands = ap (λ z. z ++ f ∷ []) w.stands ∙ append_assoc w.asked (Ask r.xid w.ask ∷ w.after) (f ∷ []); fits = w.fits; counts = w.counts })
may_still C f (y ∷ ys) (Event z k) m = m

pub each_still : (C : List ClientFrame) (f : ClientFrame) (S : List ServerFrame) → EachAfter (ServerMay C) S → EachAfter (ServerMay (C ++ f ∷ [])) S
each_still C f S each before s after e = may_still C f before s (each before s after e)

pub conversation_client : (profile : Profile) (v : Conversation) (f : ClientFrame) → IsConversation profile v → ClientMay profile v.client f → IsConversation profile (with_client v f)
conversation_client profile v f conv may = record {
  client = EachAfter-push (ClientMay profile) v.client f conv.client may;
  server = each_still v.client f v.server conv.server;
}

pub conversation_server : (profile : Profile) (v : Conversation) (s : ServerFrame) → IsConversation profile v → ServerMay v.client v.server s → IsConversation profile (with_server v s)
conversation_server profile v s conv may = record {
  client = conv.client;
  server = EachAfter-push (ServerMay v.client) v.server s conv.server may;
}

module _ (limits : Limits) (h : History) (v : Conversation) (cb sb : List ℕ) (whole : IsWhole limits h v.client v.server cb sb) where
  pub causal_client : (f : ClientFrame) → IsConversation limits.profile v → ClientMay limits.profile v.client f → IsCausal v h → IsCausal (with_client v f) h
  causal_client f conv may causal front rest e sent s later es asked c further ec answers short = go (in_pushed v.client f asked c further ec)
    where
      go : InPushed v.client f asked c further → length (client_bytes (asked ++ c ∷ [])) ≤ length (side_bytes Client front)
      go (at_end a b n) = absurd (no_early limits.profile v conv f may sent s later es (subst (λ z. Answers sent s z f) (sym a) (subst (λ z. Answers sent s asked z) (sym b) answers)))
      go (inside b' a n) = causal front rest e sent s later es asked c b' a answers short

  pub bounded_client : (f : ClientFrame) → length cb < length (frame (client_payload f)) → IsBounded limits v h → IsBounded limits (with_client v f) h
  bounded_client f more bounded front rest e client further ec server later es w = go (front_of_pushed v.client f client further ec)
    where
      go : FrontOfPushed v.client f client further → load client server ≤ limits.waiting
      go (all_of_it a n) = absurd (omega (arith, more, front-length Client front rest h e, client_within limits h v.client v.server cb sb whole, client_within limits front client server w.0 w.1 w.2, ap (λ z. length (client_bytes z)) a, length-bytes_push client_payload v.client f))
      go (front_of r' a n) = bounded front rest e client r' a server later es w

  pub causal_server : (s : ServerFrame) → length sb < length (frame (server_payload s)) → IsCausal v h → IsCausal (with_server v s) h
  causal_server s more causal front rest e sent t later es asked c further ec answers short = go (in_pushed v.server s sent t later es)
    where
      go : InPushed v.server s sent t later → length (client_bytes (asked ++ c ∷ [])) ≤ length (side_bytes Client front)
      go (at_end a b n) =
          absurd (omega (arith, more, short, front-length Server front rest h e, server_within limits h v.client v.server cb sb whole, ap (λ z. length (server_bytes (z ++ t ∷ []))) a, ap (λ z. length (server_bytes (v.server ++ z ∷ []))) b, length-bytes_push server_payload v.server s))
      go (inside b' a n) = causal front rest e sent t b' a asked c further ec answers short

  pub bounded_server : (s : ServerFrame) → length sb < length (frame (server_payload s)) → IsBounded limits v h → IsBounded limits (with_server v s) h
  bounded_server s more bounded front rest e client further ec server later es w = go (front_of_pushed v.server s server later es)
    where
      go : FrontOfPushed v.server s server later → load client server ≤ limits.waiting
      go (all_of_it a n) = absurd (omega (arith, more, front-length Server front rest h e, server_within limits h v.client v.server cb sb whole, server_within limits front client server w.0 w.1 w.2, ap (λ z. length (server_bytes z)) a, length-bytes_push server_payload v.server s))
      go (front_of r' a n) = bounded front rest e client further ec server r' a w

-- A reply takes nothing onto the load.
replies_more : (of : ClientFrame → ℕ) (S : List ServerFrame) (s : ServerFrame) (x : ClientFrame) (asked : List ClientFrame) → (cond {A = ℕ} (is_unanswered (S ++ s ∷ []) asked x) (of x) 0) ≤ (cond (is_unanswered S asked x) (of x) 0)
replies_more of S s (Connect t f) asked = omega arith
replies_more of S s (Ask xid ask) asked = go (leb (replies_on (lane_of xid) (S ++ s ∷ [])) (asks_on (lane_of xid) asked)) (leb (replies_on (lane_of xid) S) (asks_on (lane_of xid) asked)) refl refl
  where
    more : replies_on (lane_of xid) S ≤ replies_on (lane_of xid) (S ++ s ∷ [])
    more = omega (arith, ap length (filter-append (is_reply_on (lane_of xid)) S (s ∷ [])), length-append (filter (is_reply_on (lane_of xid)) S) (filter (is_reply_on (lane_of xid)) (s ∷ [])))

    go : (a b : Bool) → leb (replies_on (lane_of xid) (S ++ s ∷ [])) (asks_on (lane_of xid) asked) ≡ a → leb (replies_on (lane_of xid) S) (asks_on (lane_of xid) asked) ≡ b → cond {A = ℕ} a (of (Ask xid ask)) 0 ≤ cond b (of (Ask xid ask)) 0
    go true true p q = omega arith
    go true false p q = absurd (omega (arith, leb-true _ _ p, leb-false _ _ q, more))
    go false b p q = omega arith

sum_reply : (of : ClientFrame → ℕ) (asked C : List ClientFrame) (S : List ServerFrame) (s : ServerFrame) → sum_waiting of asked C (S ++ s ∷ []) ≤ sum_waiting of asked C S
sum_reply of asked [] S s = omega arith
sum_reply of asked (x ∷ C) S s = omega (arith, replies_more of S s x asked, sum_reply of (asked ++ x ∷ []) C S s)

pub load_reply : (C : List ClientFrame) (S : List ServerFrame) (s : ServerFrame) → load C (S ++ s ∷ []) ≤ load C S
load_reply C S s = sum_reply weight [] C S s
