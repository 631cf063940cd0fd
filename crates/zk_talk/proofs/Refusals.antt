-- Why a history is not good with one more frame.
use Rattle.std.proofs.Common.{◌≡◌, ◌≢◌, ℕ, ◌≤◌, List, [], ◌∷◌, ◌++◌, length, refl, sym, ap, ◌∙◌, subst, arith, ℤ}
use Rattle.zk_asks.specs.{Held.ClientFrame, Held.Ask as Asked, declared.frame.ClientFrameOf.TheVariants.Ask, Codes.event_xid, Frames.IsFirst, Frames.IsLater, Frames.IsOfProfile, Frames.ops_of_ask, Rows.op_of_ask}
use Rattle.zk_answers.specs.{Held.ServerFrame, Held.Reply, Frames.IsConnected, Frames.IsEvent, Frames.Fits}
use Rattle.zk_answers.specs.declared.frame.ServerFrameOf.TheVariants.{Connected, Answered, Event}
use Rattle.zk_talk.specs.{Payloads.client_payload, Payloads.server_payload, declared.message.Side.Side, declared.limits.Limits.Limits, Splits.EachAfter, History.History, Good.Good, Good.IsGood}
use Rattle.zk_talk.specs.declared.message.Side.TheVariants.{Client, Server}
use Rattle.zk_frames.specs.Framing.{frame}
use Rattle.zk_waiting.specs.Lane.{lane_of, same_lane}
use Rattle.zk_talk.specs.Conversation.{asks_on, replies_on, ClientMay, ServerMay, IsAnswered, Conversation, load, is_ask_on}
use Rattle.zk_talk.proofs.{Small.AreSmall, Turns.count_split, Turns.nth_passing, Turns.same_lane-itself, Loads.load_ask, GoodSteps.found_client, GoodSteps.found_server}
use Rattle.zk_jute.specs.declared.fault.Reason.{Reason}
use Rattle.zk_records.specs.declared.profile.Profile.{Profile}
use Rattle.zk_asks.specs.Frames as asks
use Rattle.zk_answers.specs.Frames as answers
use Rattle.zk_asks.proofs.Later.{ask_injective}
use Rattle.zk_talk.proofs.Payloads.{first_excluded, connected_excluded, ask_excluded, asks_alike, head_excluded, reply_excluded, event_excluded, xid_of, reply_head_is, reply_no_event, event_head_is}
use Rattle.zk_talk.specs.Fault.{IsNext, IsClientFault, IsServerFault, IsPayloadFault, side_limit, rest_on}
use Rattle.zk_talk.specs.Fault.IsClientFault.{connect_fault, ask_fault, queue_full}
use Rattle.zk_talk.specs.Fault.IsServerFault.{no_connect, connected_fault, head_fault, event_fault, unasked, wrong_xid, reply_fault}

-- what may stand after no frame, and after some
pub may_first : (profile : Profile) (C : List ClientFrame) (f : ClientFrame) → C ≡ [] → ClientMay profile C f → IsFirst f × asks.IsSent f
may_first profile [] f n m = m
may_first profile (c ∷ cs) f n m = absurd (cc)

pub may_later : (profile : Profile) (C : List ClientFrame) (f : ClientFrame) → C ≢ [] → ClientMay profile C f → IsLater f × asks.IsSent f × IsOfProfile profile f
may_later profile [] f n m = absurd (n refl)
may_later profile (c ∷ cs) f n m = m

pub sent_first : (C : List ClientFrame) (S : List ServerFrame) (s : ServerFrame) → S ≡ [] → ServerMay C S s → IsConnected s × answers.IsSent s × (C ≢ [])
sent_first C [] (Connected t g) n m = (tt, m.0, m.1)
sent_first C [] (Answered r) n m = absurd m
sent_first C [] (Event z k) n m = absurd m
sent_first C (x ∷ xs) s n m = absurd (cc)

pub data SentLater (C : List ClientFrame) (S : List ServerFrame) (s : ServerFrame) : Type 0 where
  a_reply : (r : Reply) → s ≡ Answered r → answers.IsSent (Answered r) → IsAnswered C S r → SentLater C S s
  an_event : IsEvent s → answers.IsSent s → SentLater C S s

pub sent_later : (C : List ClientFrame) (S : List ServerFrame) (s : ServerFrame) → S ≢ [] → ServerMay C S s → SentLater C S s
sent_later C [] s n m = absurd (n refl)
sent_later C (x ∷ xs) (Connected t g) n m = absurd m
sent_later C (x ∷ xs) (Answered r) n m = a_reply r refl m.0 m.1
sent_later C (x ∷ xs) (Event z k) n m = an_event tt m

-- no frame that may stand after the client's has a payload with a fault
client_alone : (limits : Limits) (v : Conversation) (p : List ℕ) (place : ℕ) (reason : Reason) → EachAfter (ServerMay v.client) v.server → IsClientFault limits v p place reason →
    (f : ClientFrame) → ClientMay limits.profile v.client f → client_payload f ≡ p → load (v.client ++ f ∷ []) v.server ≤ limits.waiting → ⊥
client_alone limits v p place reason each (connect_fault n bad) f may e fits =
    let t = may_first limits.profile v.client f n may in
    first_excluded p place reason bad f t.0 t.1 e
client_alone limits v p place reason each (ask_fault n bad) f may e fits =
    let t = may_later limits.profile v.client f n may in
    ask_excluded limits.profile p place reason bad f t.0 t.1 t.2 e
client_alone limits v p place reason each (queue_full n g later sent of pay over x y) f may e fits =
    let t = may_later limits.profile v.client f n may in
    let same = ask_injective g f later t.0 sent t.1 (asks_alike g f (pay ∙ sym e)) in
    omega (arith, over, fits, ap (λ z. load (v.client ++ z ∷ []) v.server) same, load_ask v g each)

-- the next ask of the lane is the one that the reply answers
next_is : (v : Conversation) (r : Reply) (next xid : ℤ) (ask : Asked) → r.xid ≡ xid → IsNext v (lane_of xid) next ask → (w : IsAnswered v.client v.server r) → (next ≡ r.xid) × (ask ≡ w.ask)
next_is v r next xid ask e n w =
    let lane = lane_of r.xid in
    let lanes : lane_of xid ≡ lane = ap lane_of (sym e) in
    let counts = subst (λ l. asks_on l n.asked ≡ replies_on l v.server) lanes n.counts in
    let s = nth_passing (is_ask_on lane) n.asked (Ask next ask) n.after w.asked (Ask r.xid w.ask) w.after (sym n.stands ∙ w.stands)
    (ap (same_lane lane) (n.same_lane ∙ lanes) ∙ same_lane-itself lane) (same_lane-itself lane) (counts ∙ sym w.counts) in
    let t = s.1 in
    (cc, cc)

pub server_alone : (v : Conversation) (p : List ℕ) (place : ℕ) (reason : Reason) → IsServerFault v p place reason → (s : ServerFrame) → ServerMay v.client v.server s → server_payload s ≡ p → ⊥
server_alone v p place reason (no_connect es ec a b) s may e = (sent_first v.client v.server s es may).2 ec
server_alone v p place reason (connected_fault es ec bad) s may e =
    let t = sent_first v.client v.server s es may in
    connected_excluded p place reason bad s t.0 t.1 e
server_alone v p place reason (head_fault n bad) s may e = go (sent_later v.client v.server s n may)
  where
    go : SentLater v.client v.server s → ⊥
    go (a_reply r q ok w) = let h = reply_head_is p r ok (ap server_payload (sym q) ∙ e) in head_excluded p place reason bad h.header h.rest h.is
    go (an_event k ok) = let h = event_head_is p s k ok e in head_excluded p place reason bad h.header h.rest h.is
server_alone v p place reason (event_fault n header rest h is bad) s may e = go (sent_later v.client v.server s n may)
  where
    go : SentLater v.client v.server s → ⊥
    go (a_reply r q ok w) = reply_no_event r ok (xid_of p r.xid header rest (reply_head_is p r ok (ap server_payload (sym q) ∙ e)) h ∙ is)
    go (an_event k ok) = event_excluded p place reason bad s k ok e
server_alone v p place reason (unasked n header rest h m few a b) s may e = go (sent_later v.client v.server s n may)
  where
    go : SentLater v.client v.server s → ⊥
    go (a_reply r q ok w) =
        let same = xid_of p r.xid header rest (reply_head_is p r ok (ap server_payload (sym q) ∙ e)) h in
        let few' = subst (λ z. asks_on (lane_of z) v.client ≤ replies_on (lane_of z) v.server) (sym same) few in
        omega (arith, few', w.counts, ap (asks_on (lane_of r.xid)) w.stands, count_split (is_ask_on (lane_of r.xid)) w.asked (Ask r.xid w.ask) w.after (same_lane-itself (lane_of r.xid)))
    go (an_event k ok) = m (sym (xid_of p event_xid header rest (event_head_is p s k ok e) h))
server_alone v p place reason (wrong_xid n header rest h m next ask nx other a b) s may e = go (sent_later v.client v.server s n may)
  where
    go : SentLater v.client v.server s → ⊥
    go (a_reply r q ok w) =
        let same = xid_of p r.xid header rest (reply_head_is p r ok (ap server_payload (sym q) ∙ e)) h in
        other ((next_is v r next header.xid ask same nx w).0 ∙ same)
    go (an_event k ok) = m (sym (xid_of p event_xid header rest (event_head_is p s k ok e) h))
server_alone v p place reason (reply_fault n header rest h m ask nx bad) s may e = go (sent_later v.client v.server s n may)
  where
    go : SentLater v.client v.server s → ⊥
    go (a_reply r q ok w) =
        let same = xid_of p r.xid header rest (reply_head_is p r ok (ap server_payload (sym q) ∙ e)) h in
        let fits = subst (λ z. Fits (op_of_ask z) (ops_of_ask z) r) (sym (next_is v r header.xid header.xid ask same nx w).1) w.fits in
        reply_excluded (op_of_ask ask) (ops_of_ask ask) p place reason bad r fits ok (ap server_payload (sym q) ∙ e)
    go (an_event k ok) = m (sym (xid_of p event_xid header rest (event_head_is p s k ok e) h))

module _ (limits : Limits) (small : AreSmall limits) (h : History) (b : ℕ) (v : Conversation) (cb sb : List ℕ) (g : Good limits h v cb sb) (p : List ℕ) (place : ℕ) (reason : Reason) where
  -- A payload with a fault leaves no good history.
  pub refused : (side : Side) → rest_on side cb sb ++ b ∷ [] ≡ frame p → length p ≤ side_limit limits side → IsPayloadFault limits v side p place reason → IsGood limits (h ++ (side, b) ∷ []) → ⊥
  refused Client e l fault n =
      let f = found_client limits small h b v cb sb g p e l n in
      client_alone limits v p place reason g.conversation.server fault f.found f.may f.payload f.fits
  refused Server e l fault n =
      let f = found_server limits small h b v cb sb g p e l n in
      server_alone v p place reason fault f.found f.may f.payload
