-- What is judged, over plain values.
use Rattle.std.proofs.Common.{◌≡◌, ◌≢◌, ℕ, ◌+◌, ◌<◌, ◌≤◌, ◌⊎◌, inl, inr, List, [], ◌∷◌, ◌++◌, length, drop, filter, refl, sym, ap, ◌∙◌, subst, arith, Some, None, length-drop}
use Rattle.std.specs.Prelude.{slice_get, true}
use Rattle.zk_jute.specs.{declared.fault.Reason.Reason, declared.fault.ItemFault.ItemFault}
use Rattle.zk_jute.specs.declared.fault.Reason.TheVariants.{QueueFull, Unasked, XidOrder}
use Rattle.zk_records.specs.{declared.header.ReplyHeader.ReplyHeader, declared.profile.Profile.Profile}
use Rattle.zk_asks.specs.{Held.Ask as Asked, Held.ClientFrame, Codes.event_xid, Frames.IsFirst, Frames.IsLater, Frames.IsOfProfile, Frames.ops_of_ask, Rows.op_of_ask, Faults.IsFirstFault, Faults.IsAskFault}
use Rattle.zk_asks.specs.declared.frame.ClientFrameOf.TheVariants.{Connect, Ask}
use Rattle.zk_asks.specs.Frames as asks
use Rattle.zk_answers.specs.{Held.ServerFrame, Frames.IsConnected, Frames.IsEvent, Frames.IsReplyTo, Frames.Fits, Faults.IsHead, Faults.IsConnectedFault, Faults.IsHeadFault, Faults.IsReplyFault, Faults.IsEventFault}
use Rattle.zk_answers.specs.declared.frame.ServerFrameOf.TheVariants.{Connected, Answered, Event}
use Rattle.zk_answers.specs.Frames as answers
use Rattle.zk_waiting.specs.{declared.lane.Lane.Lane, Lane.lane_of, Waiting.Request, Waiting.Lanes, Waiting.queue_on, Waiting.weight_of}
use Rattle.zk_talk.specs.{declared.limits.Limits.Limits, Payloads.client_payload, Payloads.server_payload, Fault.IsNext, Fault.IsClientFault, Fault.IsServerFault, Queues.IsRequest, Queues.AreRequests, Describes.Describes}
use Rattle.zk_talk.specs.Conversation.{Conversation, is_ask_on, asks_on, replies_on, ClientMay, ServerMay, IsAnswered, load, weight}
use Rattle.zk_talk.specs.Fault.IsClientFault.{connect_fault, ask_fault, queue_full}
use Rattle.zk_talk.specs.Fault.IsServerFault.{no_connect, connected_fault, head_fault, event_fault, unasked, wrong_xid, reply_fault}
use Rattle.std.proofs.lemmas.Bool.{cases_order}
use Rattle.zk_talk.specs.Judged.{Tells, IsInTurn, IsNumbered, HasRoomFor, IsDue, HasAsk}
use Rattle.zk_talk.proofs.{Turns.first_left, Loads.load_ask, Loads.lanes_same, Queues.weight_is_load, Queues.requests-head, Queues.requests-length, Lanes.front_some, Payloads.reply_head_is, Payloads.xid_of}

some_of : {X : Type 0} (n : ℕ) (xs : List X) → n ≡ length xs → (n ≡ 0 → ⊥) → xs ≢ []
some_of n xs e h z = h (e ∙ ap length z)

none_of : {X : Type 0} (n : ℕ) (xs : List X) → n ≡ length xs → n ≡ 0 → xs ≡ []
none_of n [] e h = refl
none_of n (x ∷ xs) e h = absurd (omega arith)

pub first_or_later : (f : ClientFrame) → IsFirst f → IsLater f → ⊥
first_or_later (Connect t g) a b = b
first_or_later (Ask xid ask) a b = a

pub front_none : {X : Type 0} (xs : List X) → slice_get xs 0 ≡ None → xs ≡ []
front_none [] e = refl
front_none (x ∷ xs) e = absurd (cc)

module _ (n m : ℕ) (w : Lanes) (v : Conversation) (d : Describes n m w v) where
  -- ---- the client's frames

  pub first_may : (profile : Profile) (f : ClientFrame) → n ≡ 0 → IsFirst f → asks.IsSent f → ClientMay profile v.client f
  first_may profile f z a s = go v.client (none_of n v.client d.client z)
    where
      go : (C : List ClientFrame) → C ≡ [] → ClientMay profile C f
      go [] e = (a, s)
      go (c ∷ cs) e = absurd (cc)

  pub later_may : (profile : Profile) (f : ClientFrame) → (n ≡ 0 → ⊥) → IsLater f → asks.IsSent f → IsOfProfile profile f → ClientMay profile v.client f
  later_may profile f z a s o = go v.client (some_of n v.client d.client z)
    where
      go : (C : List ClientFrame) → C ≢ [] → ClientMay profile C f
      go [] e = absurd (e refl)
      go (c ∷ cs) e = (a, s, o)

  pub in_turn : (profile : Profile) (f : ClientFrame) → IsInTurn profile n f → asks.IsSent f → ClientMay profile v.client f
  in_turn profile f a s = go (cases_order n 0)
    where
      go : ((n ≡ 0) ⊎ ((n < 0) ⊎ (0 < n))) → ClientMay profile v.client f
      go (inl z) = first_may profile f z (a.0 z) s
      go (inr (inl l)) = absurd (omega arith)
      go (inr (inr l)) = let some : n ≡ 0 → ⊥ = (λ z. omega (arith, z, l)) in later_may profile f some (a.1 some).0 s (a.1 some).1

  pub first_refused : (limits : Limits) (p : List ℕ) (place : ℕ) (reason : Reason) → n ≡ 0 → IsFirstFault p place reason → IsClientFault limits v p place reason
  first_refused limits p place reason z f = connect_fault (none_of n v.client d.client z) f

  pub ask_refused : (limits : Limits) (p : List ℕ) (place : ℕ) (reason : Reason) → (n ≡ 0 → ⊥) → IsAskFault limits.profile p place reason → IsClientFault limits v p place reason
  ask_refused limits p place reason z f = ask_fault (some_of n v.client d.client z) f

  pub full : (limits : Limits) (p : List ℕ) (f : ClientFrame) → ClientMay limits.profile v.client f → IsLater f → client_payload f ≡ p → limits.waiting < weight_of w + weight f → IsClientFault limits v p 0 QueueFull
  full limits p f may later e l = go v.client refl may
    where
      go : (C : List ClientFrame) → v.client ≡ C → ClientMay limits.profile C f → IsClientFault limits v p 0 QueueFull
      go [] q may = absurd (first_or_later f may.0 later)
      go (c ∷ cs) q may = queue_full (λ z. absurd (nothing (sym q ∙ z))) f may.0 may.1 may.2 e (omega (arith, l, weight_is_load v w d.queues)) refl refl
        where
          nothing : (c ∷ cs) ≡ [] → ⊥
          nothing e = cc

  pub heavier : (max : ℕ) (f : ClientFrame) → weight_of w + weight f ≤ max → load (v.client ++ f ∷ []) v.server ≤ max
  heavier max f l = omega (arith, l, load_ask v f d.may, weight_is_load v w d.queues)

  pub next_load : (number : ℕ) (x : Lanes) (f : ClientFrame) → IsNumbered number f w x → load v.client v.server ≤ w.max → load (v.client ++ f ∷ []) v.server ≤ w.max
  next_load number x (Connect t g) r l = omega (arith, l, load_ask v (Connect t g) d.may)
  next_load number x (Ask xid ask) r l = heavier w.max (Ask xid ask) r.0

  pub put_refused : (limits : Limits) (p : List ℕ) (f : ClientFrame) (e : ItemFault) → limits.waiting ≡ w.max → ClientMay limits.profile v.client f → client_payload f ≡ p → IsLater f × (e ≡ record { place = 0; reason = QueueFull }) × (w.max < weight_of w + weight f) → Tells (IsClientFault limits v p) e
  put_refused limits p f e q may pay r = (0, subst (λ z. IsClientFault limits v p 0 z.reason) (sym r.1) (full limits p f may r.0 pay (omega (arith, q, r.2))), ap (λ z. z.place) r.1)

  -- ---- the server's frames

  pub too_early : (p : List ℕ) → m ≡ 0 → n ≡ 0 → IsServerFault v p 0 Unasked
  too_early p y z = no_connect (none_of m v.server d.server y) (none_of n v.client d.client z) refl refl

  pub connected_refused : (p : List ℕ) (place : ℕ) (reason : Reason) → m ≡ 0 → (n ≡ 0 → ⊥) → IsConnectedFault p place reason → IsServerFault v p place reason
  connected_refused p place reason y z f = connected_fault (none_of m v.server d.server y) (some_of n v.client d.client z) f

  pub connected_may : (s : ServerFrame) → m ≡ 0 → (n ≡ 0 → ⊥) → IsConnected s → answers.IsSent s → ServerMay v.client v.server s
  connected_may s y z a sent = go v.server s (none_of m v.server d.server y) a sent
    where
      go : (S : List ServerFrame) (s : ServerFrame) → S ≡ [] → IsConnected s → answers.IsSent s → ServerMay v.client S s
      go [] (Connected t g) e a sent = (sent, some_of n v.client d.client z)
      go [] (Answered r) e a sent = absurd a
      go [] (Event t g) e a sent = absurd a
      go (x ∷ xs) s e a sent = absurd (cc)

  pub head_refused : (p : List ℕ) (place : ℕ) (reason : Reason) → (m ≡ 0 → ⊥) → IsHeadFault p place reason → IsServerFault v p place reason
  head_refused p place reason y f = head_fault (some_of m v.server d.server y) f

  pub event_refused : (p : List ℕ) (place : ℕ) (reason : Reason) (header : ReplyHeader) (rest : List ℕ) → (m ≡ 0 → ⊥) → IsHead p header rest → header.xid ≡ event_xid → IsEventFault p place reason → IsServerFault v p place reason
  event_refused p place reason header rest y h x f = event_fault (some_of m v.server d.server y) header rest h x f

  pub event_may : (s : ServerFrame) → (m ≡ 0 → ⊥) → IsEvent s → answers.IsSent s → ServerMay v.client v.server s
  event_may s y a sent = go v.server s (some_of m v.server d.server y) a sent
    where
      go : (S : List ServerFrame) (s : ServerFrame) → S ≢ [] → IsEvent s → answers.IsSent s → ServerMay v.client S s
      go [] s e a sent = absurd (e refl)
      go (x ∷ xs) (Connected t g) e a sent = absurd a
      go (x ∷ xs) (Answered r) e a sent = absurd a
      go (x ∷ xs) (Event t g) e a sent = sent

  pub nothing_waits : (p : List ℕ) (header : ReplyHeader) (rest : List ℕ) → (m ≡ 0 → ⊥) → IsHead p header rest → header.xid ≢ event_xid → slice_get (queue_on (lane_of header.xid) w) 0 ≡ None → IsServerFault v p 0 Unasked
  nothing_waits p header rest y h x none =
      let lane = lane_of header.xid in
      let empty = sym (requests-length (queue_on lane w) _ (d.queues lane)) ∙ ap length (front_none (queue_on lane w) none) in
      unasked (some_of m v.server d.server y) header rest h x (omega (arith, empty, length-drop (replies_on lane v.server) (filter (is_ask_on lane) v.client))) refl refl

  -- the ask that the next reply of the lane answers
  pub record Waits (lane : Lane) (r : Request) : Type 0 where
    pub ask : Asked
    pub next : IsNext v lane r.xid ask
    pub op : r.op ≡ op_of_ask ask
    pub parts : r.parts ≡ ops_of_ask ask

  pub next_waits : (lane : Lane) (r : Request) → slice_get (queue_on lane w) 0 ≡ Some r → Waits lane r
  next_waits lane r some =
      let q = front_some (queue_on lane w) r some in
      let h = requests-head r q.0 _ (subst (λ z. AreRequests z (drop (replies_on lane v.server) (filter (is_ask_on lane) v.client))) q.1 (d.queues lane)) in
      let f = first_left (is_ask_on lane) (replies_on lane v.server) v.client h.0 h.1 h.2 in
      go h.0 f.0 f.1 f.2 f.3 f.4 h.3
    where
      go : (f : ClientFrame) (a b : List ClientFrame) → v.client ≡ a ++ f ∷ b → length (filter (is_ask_on lane) a) ≡ replies_on lane v.server → is_ask_on lane f ≡ true → IsRequest r f → Waits lane r
      go (Connect t g) a b e c p i = absurd i
      go (Ask xid ask) a b e c p i =
          let same : r.xid ≡ xid = ap (λ z. z.xid) i in
          record {
            ask = ask;
            next = record { asked = a; after = b; stands = e ∙ ap (λ z. a ++ Ask z ask ∷ b) (sym same); same_lane = ap lane_of same ∙ sym (lanes_same lane (lane_of xid) p); counts = c };
            op = ap (λ z. z.op) i;
            parts = ap (λ z. z.parts) i;
          }

  pub wrong : (p : List ℕ) (header : ReplyHeader) (rest : List ℕ) (r : Request) → (m ≡ 0 → ⊥) → IsHead p header rest → header.xid ≢ event_xid → slice_get (queue_on (lane_of header.xid) w) 0 ≡ Some r → r.xid ≢ header.xid → IsServerFault v p 0 (XidOrder r.xid header.xid)
  wrong p header rest r y h x some other =
      let t = next_waits (lane_of header.xid) r some in
      wrong_xid (some_of m v.server d.server y) header rest h x r.xid t.ask t.next other refl refl

  pub reply_refused : (p : List ℕ) (place : ℕ) (reason : Reason) (header : ReplyHeader) (rest : List ℕ) (r : Request) → (m ≡ 0 → ⊥) → IsHead p header rest → header.xid ≢ event_xid → slice_get (queue_on (lane_of header.xid) w) 0 ≡ Some r → r.xid ≡ header.xid →
      IsReplyFault r.op r.parts p place reason → IsServerFault v p place reason
  reply_refused p place reason header rest r y h x some same f =
      let t = next_waits (lane_of header.xid) r some in
      let f' = subst (λ z. IsReplyFault z (ops_of_ask t.ask) p place reason) t.op (subst (λ z. IsReplyFault r.op z p place reason) t.parts f) in
      reply_fault (some_of m v.server d.server y) header rest h x t.ask (subst (λ z. IsNext v (lane_of header.xid) z t.ask) same t.next) f'

  pub reply_may : (p : List ℕ) (header : ReplyHeader) (rest : List ℕ) (r : Request) (s : ServerFrame) → (m ≡ 0 → ⊥) → IsHead p header rest → slice_get (queue_on (lane_of header.xid) w) 0 ≡ Some r → r.xid ≡ header.xid → IsReplyTo r.op r.parts s → answers.IsSent s → server_payload s ≡ p → ServerMay v.client v.server s
  reply_may p header rest r (Connected t g) y h some same a sent e = absurd a
  reply_may p header rest r (Event t g) y h some same a sent e = absurd a
  reply_may p header rest r (Answered q) y h some same a sent e = go v.server (some_of m v.server d.server y) answered
    where
      xids : q.xid ≡ header.xid
      xids = xid_of p q.xid header rest (reply_head_is p q sent e) h

      answered : IsAnswered v.client v.server q
      answered =
          let t = next_waits (lane_of header.xid) r some in
          let fits = subst (λ z. Fits z (ops_of_ask t.ask) q) t.op (subst (λ z. Fits r.op z q) t.parts a) in
          record {
            asked = t.next.asked;
            ask = t.ask;
            after = t.next.after;
            stands = t.next.stands ∙ ap (λ z. t.next.asked ++ Ask z t.ask ∷ t.next.after) (same ∙ sym xids);
            fits = fits;
            counts = subst (λ z. asks_on (lane_of z) t.next.asked ≡ replies_on (lane_of z) v.server) (sym xids) t.next.counts;
          }

      go : (S : List ServerFrame) → S ≢ [] → IsAnswered v.client S q → ServerMay v.client S (Answered q)
      go [] e a = absurd (e refl)
      go (x ∷ xs) e a = (sent, a)

-- what there is no room for is a request
pub no_room : (f : ClientFrame) (w : Lanes) → (HasRoomFor f w → ⊥) → IsLater f × (w.max < weight_of w + weight f)
no_room (Connect t g) w n = absurd (n tt)
no_room (Ask xid ask) w n = (tt, omega (arith, n))

-- a reply that was found fits its ask
pub reply_due : (w : Lanes) (p : List ℕ) (header : ReplyHeader) (rest : List ℕ) (r : Request) (s : ServerFrame) → IsHead p header rest → slice_get (queue_on (lane_of header.xid) w) 0 ≡ Some r → IsReplyTo r.op r.parts s → answers.IsSent s → server_payload s ≡ p → IsDue s w
reply_due w p header rest r (Connected t g) h some a sent e = absurd a
reply_due w p header rest r (Event t g) h some a sent e = absurd a
reply_due w p header rest r (Answered q) h some a sent e =
    let xids = xid_of p q.xid header rest (reply_head_is p q sent e) h in
    (r, subst (λ z. slice_get (queue_on (lane_of z) w) 0 ≡ Some r) (sym xids) some, a)

pub due_waits : (w : Lanes) (s : ServerFrame) → IsDue s w → HasAsk s w
due_waits w (Connected t g) d = tt
due_waits w (Answered q) d = (d.0, d.1)
due_waits w (Event t g) d = tt

pub connected_due : (w : Lanes) (s : ServerFrame) → IsConnected s → IsDue s w
connected_due w (Connected t g) a = tt
connected_due w (Answered r) a = absurd a
connected_due w (Event t g) a = absurd a

pub event_due : (w : Lanes) (s : ServerFrame) → IsEvent s → IsDue s w
event_due w (Connected t g) a = absurd a
event_due w (Answered r) a = absurd a
event_due w (Event t g) a = tt
