-- A history has one fault.
use Rattle.std.proofs.Common.{◌≡◌, ◌≢◌, ℕ, ◌+◌, ◌<◌, ◌≤◌, ◌^◌, ◌⊎◌, inl, inr, List, [], ◌∷◌, ◌++◌, length, refl, sym, ap, ◌∙◌, subst, arith, append_assoc, ℤ}
use Rattle.std.proofs.{lemmas.List.append-nil, lemmas.List.append_cancel_left, lemmas.Bool.cases_order}
use Rattle.zk_asks.specs.{declared.frame.ClientFrameOf.TheVariants.Ask, Held.Ask as Asked, Codes.event_xid, Rows.op_of_ask, Frames.ops_of_ask}
use Rattle.zk_talk.specs.{declared.message.Side.Side, declared.limits.Limits.Limits, History.History, History.side_bytes, Good.Good, Good.IsGood, declared.message.Fault.Fault}
use Rattle.zk_talk.specs.declared.message.Side.TheVariants.{Client, Server}
use Rattle.zk_frames.specs.Framing.{frame}
use Rattle.zk_waiting.specs.{Lane.lane_of, Lane.same_lane, declared.lane.Lane.Lane}
use Rattle.zk_talk.specs.Conversation.{asks_on, replies_on, Conversation, is_ask_on}
use Rattle.zk_talk.proofs.{Small.AreSmall, GoodFronts.good_front, Turns.count_split, Turns.nth_passing, Turns.same_lane-itself, Headline.same_good, Headline.fault_is_bad, Advancing.never_both}
use Rattle.zk_jute.specs.{declared.fault.Reason.Reason, Reading.told_place}
use Rattle.zk_talk.specs.Fault.{IsCause, IsFaultOf, IsPayloadFault, IsNext, IsClientFault, IsServerFault, side_limit, frame_count, rest_on}
use Rattle.zk_talk.specs.{Fault.IsCause.stream_end, Fault.IsCause.length_range, Fault.IsCause.payload_fault, declared.message.Ending.Ending, Ending.IsEnding}
use Rattle.zk_talk.specs.declared.message.Ending.TheVariants.{Whole, Cut, Refused}
use Rattle.zk_frames.proofs.Cuts.{same_fronts, same_frame}
use Rattle.zk_records.specs.declared.header.ReplyHeader.{ReplyHeader}
use Rattle.zk_answers.specs.Faults.{IsConnectedFault, IsHead, IsHeadFault, IsReplyFault, IsEventFault}
use Rattle.zk_jute.specs.declared.fault.Reason.TheVariants.{Unasked, XidOrder}
use Rattle.zk_asks.proofs.{First.first_unique, Later.ask_unique}
use Rattle.zk_answers.proofs.{Connected.connected_unique, Replies.reply_unique, Events.event_unique}
use Rattle.zk_talk.proofs.Payloads.{Same, ask_excluded, head_excluded, same_head, head_once}
use Rattle.zk_talk.specs.Fault.IsClientFault.{connect_fault, ask_fault, queue_full}
use Rattle.zk_talk.specs.Fault.IsServerFault.{no_connect, connected_fault, head_fault, event_fault, unasked, wrong_xid, reply_fault}

-- of two fronts of a list one is a front of the other
pub fronts_nested : {X : Type 0} (a b c d : List X) → a ++ b ≡ c ++ d → length a < length c → (x : X) × (more : List X) × (c ≡ a ++ x ∷ more)
fronts_nested [] b [] d e l = absurd (omega arith)
fronts_nested [] b (x ∷ c) d e l = (x, c, refl)
fronts_nested (y ∷ a) b [] d e l = absurd (omega arith)
fronts_nested (y ∷ a) b (x ∷ c) d e l =
    let rest : a ++ b ≡ c ++ d = cc in
    let same : x ≡ y = cc in
    let r = fronts_nested a b c d rest (omega arith) in
    (r.0, r.1, ap (λ z. z ∷ c) same ∙ ap (λ z. y ∷ z) r.2)

-- the byte of a fault is the first with which the history isn't good
not_later : (limits : Limits) (h : History) (f g : Fault) (is : IsFaultOf limits h f) (js : IsFaultOf limits h g) → length is.before < length js.before → ⊥
not_later limits h f g is js l =
    let n = fronts_nested is.before ((f.side, is.byte) ∷ is.after) js.before ((g.side, js.byte) ∷ js.after) (sym is.stands ∙ js.stands) l in
    let same : (f.side, is.byte) ∷ is.after ≡ n.0 ∷ (n.1 ++ (g.side, js.byte) ∷ js.after) =
    append_cancel_left is.before ((f.side, is.byte) ∷ is.after) (n.0 ∷ (n.1 ++ (g.side, js.byte) ∷ js.after)) (sym is.stands ∙ js.stands ∙ ap (λ z. z ++ (g.side, js.byte) ∷ js.after) n.2 ∙ append_assoc is.before (n.0 ∷ n.1) ((g.side, js.byte) ∷ js.after)) in
    let first : (f.side, is.byte) ≡ n.0 = cc in
    let good : IsGood limits js.before = (js.conversation, js.client_rest, js.server_rest, js.good) in
    let front : js.before ≡ (is.before ++ (f.side, is.byte) ∷ []) ++ n.1 = n.2 ∙ ap (λ z. is.before ++ z ∷ n.1) (sym first) ∙ sym (append_assoc is.before ((f.side, is.byte) ∷ []) n.1) in
    is.bad (good_front limits (is.before ++ (f.side, is.byte) ∷ []) n.1 (subst (IsGood limits) front good))

pub same_before : (limits : Limits) (h : History) (f g : Fault) (is : IsFaultOf limits h f) (js : IsFaultOf limits h g) → (is.before ≡ js.before) × (f.side ≡ g.side) × (is.byte ≡ js.byte)
same_before limits h f g is js = go (cases_order (length is.before) (length js.before))
  where
    go : ((length is.before ≡ length js.before) ⊎ ((length is.before < length js.before) ⊎ (length js.before < length is.before))) → (is.before ≡ js.before) × (f.side ≡ g.side) × (is.byte ≡ js.byte)
    go (inl e) =
        let p = same_fronts is.before js.before _ _ e (sym is.stands ∙ js.stands) in
        let q : (f.side, is.byte) ≡ (g.side, js.byte) = head p.1 in
        (p.0, ap (λ z. z.0) q, ap (λ z. z.1) q)
      where
        head : {X : Type 0} {x y : X} {a b : List X} → x ∷ a ≡ y ∷ b → x ≡ y
        head e = cc
    go (inr (inl l)) = absurd (not_later limits h f g is js l)
    go (inr (inr l)) = absurd (not_later limits h g f js is l)

-- ---- One place and one reason
client_once : (limits : Limits) (v : Conversation) (p : List ℕ) (m n : ℕ) (r s : Reason) → IsClientFault limits v p m r → IsClientFault limits v p n s → Same m n r s
client_once limits v p m n r s (connect_fault e a) (connect_fault f b) = first_unique p m n r s a b
client_once limits v p m n r s (connect_fault e a) (ask_fault f b) = absurd (f e)
client_once limits v p m n r s (connect_fault e a) (queue_full f g later sent o q l i j) = absurd (f e)
client_once limits v p m n r s (ask_fault e a) (connect_fault f b) = absurd (e f)
client_once limits v p m n r s (ask_fault e a) (ask_fault f b) = ask_unique limits.profile p m n r s a b
client_once limits v p m n r s (ask_fault e a) (queue_full f g later sent o q l i j) = absurd (ask_excluded limits.profile p m r a g later sent o q)
client_once limits v p m n r s (queue_full f g later sent o q l i j) (connect_fault e a) = absurd (f e)
client_once limits v p m n r s (queue_full f g later sent o q l i j) (ask_fault e a) = absurd (ask_excluded limits.profile p n s a g later sent o q)
client_once limits v p m n r s (queue_full f g later sent o q l i j) (queue_full f' g' later' sent' o' q' l' i' j') = (i ∙ sym i', j ∙ sym j')

-- the next ask of a lane is one
pub next_once : (v : Conversation) (lane other : Lane) (a b : ℤ) (x y : Asked) → lane ≡ other → IsNext v lane a x → IsNext v other b y → (a ≡ b) × (x ≡ y)
next_once v lane other a b x y e n k =
    let k' = subst (λ z. IsNext v z b y) (sym e) k in
    let s = nth_passing (is_ask_on lane) n.asked (Ask a x) n.after k'.asked (Ask b y) k'.after (sym n.stands ∙ k'.stands)
    (ap (same_lane lane) n.same_lane ∙ same_lane-itself lane) (ap (same_lane lane) k'.same_lane ∙ same_lane-itself lane) (n.counts ∙ sym k'.counts) in
    let t = s.1 in
    (cc, cc)

pub next_exists : (v : Conversation) (lane other : Lane) (a : ℤ) (x : Asked) → lane ≡ other → IsNext v lane a x → asks_on other v.client ≤ replies_on other v.server → ⊥
next_exists v lane other a x e n few =
    let few' = subst (λ z. asks_on z v.client ≤ replies_on z v.server) (sym e) few in
    omega (arith, few', n.counts, ap (asks_on lane) n.stands, count_split (is_ask_on lane) n.asked (Ask a x) n.after (ap (same_lane lane) n.same_lane ∙ same_lane-itself lane))

-- what the server's payload is judged as, once its header is whole
data Later (v : Conversation) (p : List ℕ) (place : ℕ) (reason : Reason) : Type 0 where
  l_event : (header : ReplyHeader) (rest : List ℕ) → IsHead p header rest → header.xid ≡ event_xid → IsEventFault p place reason → Later v p place reason
  l_none : (header : ReplyHeader) (rest : List ℕ) → IsHead p header rest → header.xid ≢ event_xid → asks_on (lane_of header.xid) v.client ≤ replies_on (lane_of header.xid) v.server → place ≡ 0 → reason ≡ Unasked → Later v p place reason
  l_wrong : (header : ReplyHeader) (rest : List ℕ) → IsHead p header rest → header.xid ≢ event_xid → (next : ℤ) (ask : Asked) → IsNext v (lane_of header.xid) next ask → next ≢ header.xid → place ≡ 0 → reason ≡ XidOrder next header.xid → Later v p place reason
  l_reply : (header : ReplyHeader) (rest : List ℕ) → IsHead p header rest → header.xid ≢ event_xid → (ask : Asked) → IsNext v (lane_of header.xid) header.xid ask → IsReplyFault (op_of_ask ask) (ops_of_ask ask) p place reason → Later v p place reason

data Stage (v : Conversation) (p : List ℕ) (place : ℕ) (reason : Reason) : Type 0 where
  s_early : v.server ≡ [] → v.client ≡ [] → place ≡ 0 → reason ≡ Unasked → Stage v p place reason
  s_first : v.server ≡ [] → v.client ≢ [] → IsConnectedFault p place reason → Stage v p place reason
  s_head : v.server ≢ [] → IsHeadFault p place reason → Stage v p place reason
  s_later : v.server ≢ [] → Later v p place reason → Stage v p place reason

stage : (v : Conversation) (p : List ℕ) (m : ℕ) (r : Reason) → IsServerFault v p m r → Stage v p m r
stage v p m r (no_connect es ec a b) = s_early es ec a b
stage v p m r (connected_fault es ec f) = s_first es ec f
stage v p m r (head_fault n f) = s_head n f
stage v p m r (event_fault n x t h k f) = s_later n (l_event x t h k f)
stage v p m r (unasked n x t h k few a b) = s_later n (l_none x t h k few a b)
stage v p m r (wrong_xid n x t h k nx o i w a b) = s_later n (l_wrong x t h k nx o i w a b)
stage v p m r (reply_fault n x t h k o i f) = s_later n (l_reply x t h k o i f)

later_head : (v : Conversation) (p : List ℕ) (m : ℕ) (r : Reason) → Later v p m r → (n : ℕ) (s : Reason) → IsHeadFault p n s → ⊥
later_head v p m r (l_event x t h k f) n s b = head_excluded p n s b x t h
later_head v p m r (l_none x t h k few a b) n s c = head_excluded p n s c x t h
later_head v p m r (l_wrong x t h k nx o i w a b) n s c = head_excluded p n s c x t h
later_head v p m r (l_reply x t h k o i f) n s c = head_excluded p n s c x t h

module _ (v : Conversation) (p : List ℕ) where
  xids : (x y : ReplyHeader) (s t : List ℕ) → IsHead p x s → IsHead p y t → x.xid ≡ y.xid
  xids x y s t a b = ap (λ z. z.xid) (same_head p x y s t a b)

  -- a header of an event is none of a reply
  apart : (x y : ReplyHeader) (s t : List ℕ) → IsHead p x s → x.xid ≡ event_xid → IsHead p y t → (y.xid ≡ event_xid → ⊥) → ⊥
  apart x y s t a e b other = other (xids y x t s b a ∙ e)

  later_once : (m n : ℕ) (r s : Reason) → Later v p m r → Later v p n s → Same m n r s
  later_once m n r s (l_event x t h e f) (l_event x' t' h' e' f') = event_unique p m n r s f f'
  later_once m n r s (l_event x t h e f) (l_none x' t' h' k few a b) = absurd (apart x x' t t' h e h' k)
  later_once m n r s (l_event x t h e f) (l_wrong x' t' h' k nx o i w a b) = absurd (apart x x' t t' h e h' k)
  later_once m n r s (l_event x t h e f) (l_reply x' t' h' k o i g) = absurd (apart x x' t t' h e h' k)
  later_once m n r s (l_none x' t' h' k few a b) (l_event x t h e f) = absurd (apart x x' t t' h e h' k)
  later_once m n r s (l_none x t h k few a b) (l_none x' t' h' k' few' a' b') = (a ∙ sym a', b ∙ sym b')
  later_once m n r s (l_none x t h k few a b) (l_wrong x' t' h' k' nx o i w a' b') = absurd (next_exists v (lane_of x'.xid) (lane_of x.xid) nx o (ap lane_of (xids x' x t' t h' h)) i few)
  later_once m n r s (l_none x t h k few a b) (l_reply x' t' h' k' o i f) = absurd (next_exists v (lane_of x'.xid) (lane_of x.xid) x'.xid o (ap lane_of (xids x' x t' t h' h)) i few)
  later_once m n r s (l_wrong x' t' h' k nx o i w a b) (l_event x t h e f) = absurd (apart x x' t t' h e h' k)
  later_once m n r s (l_wrong x' t' h' k' nx o i w a' b') (l_none x t h k few a b) = absurd (next_exists v (lane_of x'.xid) (lane_of x.xid) nx o (ap lane_of (xids x' x t' t h' h)) i few)
  later_once m n r s (l_wrong x t h k nx o i w a b) (l_wrong x' t' h' k' nx' o' i' w' a' b') =
      let q = xids x x' t t' h h' in
      let z = next_once v (lane_of x.xid) (lane_of x'.xid) nx nx' o o' (ap lane_of q) i i' in
      (a ∙ sym a', b ∙ ap (λ z. XidOrder z x.xid) z.0 ∙ ap (XidOrder nx') q ∙ sym b')
  later_once m n r s (l_wrong x t h k nx o i w a b) (l_reply x' t' h' k' o' i' f) =
      let q = xids x x' t t' h h' in
      absurd (w ((next_once v (lane_of x.xid) (lane_of x'.xid) nx x'.xid o o' (ap lane_of q) i i').0 ∙ sym q))
  later_once m n r s (l_reply x' t' h' k o i g) (l_event x t h e f) = absurd (apart x x' t t' h e h' k)
  later_once m n r s (l_reply x' t' h' k' o i f) (l_none x t h k few a b) = absurd (next_exists v (lane_of x'.xid) (lane_of x.xid) x'.xid o (ap lane_of (xids x' x t' t h' h)) i few)
  later_once m n r s (l_reply x' t' h' k' o' i' f) (l_wrong x t h k nx o i w a b) =
      let q = xids x x' t t' h h' in
      absurd (w ((next_once v (lane_of x.xid) (lane_of x'.xid) nx x'.xid o o' (ap lane_of q) i i').0 ∙ sym q))
  later_once m n r s (l_reply x t h k o i f) (l_reply x' t' h' k' o' i' f') =
      let q = xids x x' t t' h h' in
      let z = next_once v (lane_of x.xid) (lane_of x'.xid) x.xid x'.xid o o' (ap lane_of q) i i' in
      reply_unique (op_of_ask o) (ops_of_ask o) p m n r s f (subst (λ z. IsReplyFault (op_of_ask z) (ops_of_ask z) p n s) (sym z.1) f')

  stage_once : (m n : ℕ) (r s : Reason) → Stage v p m r → Stage v p n s → Same m n r s
  stage_once m n r s (s_early es ec a b) (s_early es' ec' a' b') = (a ∙ sym a', b ∙ sym b')
  stage_once m n r s (s_early es ec a b) (s_first es' ec' f) = absurd (ec' ec)
  stage_once m n r s (s_early es ec a b) (s_head k f) = absurd (k es)
  stage_once m n r s (s_early es ec a b) (s_later k f) = absurd (k es)
  stage_once m n r s (s_first es ec f) (s_early es' ec' a' b') = absurd (ec ec')
  stage_once m n r s (s_first es ec f) (s_first es' ec' f') = connected_unique p m n r s f f'
  stage_once m n r s (s_first es ec f) (s_head k f') = absurd (k es)
  stage_once m n r s (s_first es ec f) (s_later k f') = absurd (k es)
  stage_once m n r s (s_head k f) (s_early es ec a b) = absurd (k es)
  stage_once m n r s (s_head k f) (s_first es ec f') = absurd (k es)
  stage_once m n r s (s_head k f) (s_head k' f') = head_once p m n r s f f'
  stage_once m n r s (s_head k f) (s_later k' f') = absurd (later_head v p n s f' m r f)
  stage_once m n r s (s_later k f) (s_early es ec a b) = absurd (k es)
  stage_once m n r s (s_later k f) (s_first es ec f') = absurd (k es)
  stage_once m n r s (s_later k f) (s_head k' f') = absurd (later_head v p m r f n s f')
  stage_once m n r s (s_later k f) (s_later k' f') = later_once m n r s f f'

payload_once : (limits : Limits) (v : Conversation) (side : Side) (p : List ℕ) (m n : ℕ) (r s : Reason) → IsPayloadFault limits v side p m r → IsPayloadFault limits v side p n s → Same m n r s
payload_once limits v Client p m n r s a b = client_once limits v p m n r s a b
payload_once limits v Server p m n r s a b = stage_once v p m n r s (stage v p m r a) (stage v p n s b)

cause_once : (limits : Limits) → AreSmall limits → (v : Conversation) (side : Side) (size : ℕ) (rest : List ℕ) (b : ℕ) (m n : ℕ) (r s : Reason) → IsCause limits v side size rest b m r → IsCause limits v side size rest b n s → Same m n r s
cause_once limits small v side size rest b m n r s (stream_end e a q) (stream_end e' a' q') = (a ∙ sym a', q ∙ sym q')
cause_once limits small v side size rest b m n r s (stream_end e a q) (length_range e' w a' q') = absurd (omega (arith, e, e'))
cause_once limits small v side size rest b m n r s (stream_end e a q) (payload_fault e' p w l f) = absurd (omega (arith, e, e'))
cause_once limits small v side size rest b m n r s (length_range e w a q) (stream_end e' a' q') = absurd (omega (arith, e, e'))
cause_once limits small v side size rest b m n r s (length_range e w a q) (length_range e' w' a' q') = (a ∙ sym a', q ∙ sym q')
cause_once limits small v side size rest b m n r s (length_range e bad a q) (payload_fault e' p w l f) = absurd (never_both (side_limit limits side) (rest ++ b ∷ []) p l w bad)
cause_once limits small v side size rest b m n r s (payload_fault e p w l f) (stream_end e' a' q') = absurd (omega (arith, e, e'))
cause_once limits small v side size rest b m n r s (payload_fault e p w l f) (length_range e' bad a q) = absurd (never_both (side_limit limits side) (rest ++ b ∷ []) p l w bad)
cause_once limits small v side size rest b m n r s (payload_fault e p w l f) (payload_fault e' p' w' l' f') =
    let same = same_frame (side_limit limits side) p p' [] [] (limit_small side) l l' (append-nil (frame p) ∙ sym w ∙ w' ∙ sym (append-nil (frame p'))) in
    payload_once limits v side p m n r s f (subst (λ z. IsPayloadFault limits v side z n s) (sym same.0) f')
  where
    limit_small : (side : Side) → side_limit limits side < 2 ^ 31
    limit_small Client = small.0
    limit_small Server = small.1

-- A history has one fault.
pub fault_once : (limits : Limits) → AreSmall limits → (h : History) (f g : Fault) → IsFaultOf limits h f → IsFaultOf limits h g → f ≡ g
fault_once limits small h f g is js =
    let q = same_before limits h f g is js in
    let good = subst (λ z. Good limits z js.conversation js.client_rest js.server_rest) (sym q.0) js.good in
    let s = same_good limits small is.before is.conversation js.conversation is.client_rest is.server_rest js.client_rest js.server_rest is.good good in
    let c1 = subst (λ z. IsCause limits js.conversation z (length (side_bytes z js.before)) (rest_on z js.client_rest js.server_rest) js.byte js.place g.reason) (sym q.1) js.cause in
    let c2 = subst (λ z. IsCause limits js.conversation f.side (length (side_bytes f.side z)) (rest_on f.side js.client_rest js.server_rest) js.byte js.place g.reason) (sym q.0) c1 in
    let c3 = subst (λ z. IsCause limits js.conversation f.side (length (side_bytes f.side is.before)) (rest_on f.side z js.server_rest) js.byte js.place g.reason) (sym s.1) c2 in
    let c4 = subst (λ z. IsCause limits js.conversation f.side (length (side_bytes f.side is.before)) (rest_on f.side is.client_rest z) js.byte js.place g.reason) (sym s.2) c3 in
    let c5 = subst (λ z. IsCause limits js.conversation f.side (length (side_bytes f.side is.before)) (rest_on f.side is.client_rest is.server_rest) z js.place g.reason) (sym q.2) c4 in
    let c6 = subst (λ z. IsCause limits z f.side (length (side_bytes f.side is.before)) (rest_on f.side is.client_rest is.server_rest) is.byte js.place g.reason) (sym s.0) c5 in
    let one = cause_once limits small is.conversation f.side (length (side_bytes f.side is.before)) (rest_on f.side is.client_rest is.server_rest) is.byte is.place js.place f.reason g.reason is.cause c6 in
    let frames : f.frame ≡ g.frame = is.frame ∙ ap (λ z. frame_count z f.side) s.0 ∙ ap (frame_count js.conversation) q.1 ∙ sym js.frame in
    let offsets : f.offset ≡ g.offset = is.offset ∙ ap (λ z. length (side_bytes f.side z) + 1) q.0 ∙ ap (λ z. length (side_bytes z js.before) + 1) q.1 ∙ sym js.offset in
    let places : f.place ≡ g.place = is.told ∙ ap told_place one.0 ∙ sym js.told in
    λ i. record { side = q.1 i; frame = frames i; offset = offsets i; place = places i; reason = one.1 i }

-- So whatever is answered where a history has a fault is that fault.
pub answer_fault : (limits : Limits) → AreSmall limits → (h : History) (e : Ending) → IsEnding limits h e → (f : Fault) → IsFaultOf limits h f → e ≡ Refused f
answer_fault limits small h (Refused g) is f js = ap Refused (fault_once limits small h g f is js)
answer_fault limits small h (Cut side n k) is f js = absurd (fault_is_bad limits h f js (is.0, is.1, is.2, is.3))
answer_fault limits small h (Whole n) is f js = absurd (fault_is_bad limits h f js (is.0, [], [], is.1))
