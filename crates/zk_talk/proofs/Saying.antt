-- What one message more does to what is known of those before it.
use Rattle.std.proofs.Common.{◌≡◌, ◌≢◌, ◌+◌, ◌<◌, ◌≤◌, ◌⊎◌, inl, inr, List, [], ◌∷◌, ◌++◌, length, filter, refl, sym, ap, ◌∙◌, subst, arith, Some, ℤ, Bool, true, false, MatchBool, IsTrue, length-drop}
use Rattle.std.specs.Prelude.{slice_get, negsuc}
use Rattle.std.proofs.lemmas.Bool.{both_ways}
use Rattle.zk_jute.specs.Item.{Fit}
use Rattle.zk_asks.specs.{Held.ClientFrame, Frames.IsFirst, Frames.IsLater, Frames.ops_of_ask, Rows.op_of_ask}
use Rattle.zk_asks.specs.declared.frame.ClientFrameOf.TheVariants.{Connect, Ask}
use Rattle.zk_asks.specs.Frames as asks
use Rattle.zk_answers.specs.{Held.Reply, Held.ServerFrame, Frames.IsConnected, Frames.Fits}
use Rattle.zk_answers.specs.declared.frame.ServerFrameOf.TheVariants.{Connected, Answered, Event}
use Rattle.zk_answers.specs.Frames as answers
use Rattle.zk_waiting.specs.{declared.lane.Lane.Lane, Lane.lane_of}
use Rattle.zk_waiting.specs.Waiting.{Lanes, Request, queue_on, weight_of, asked_parts}
use Rattle.zk_talk.specs.{declared.limits.Limits.Limits, declared.say.SayFault.SayFault, Payloads.client_payload, Payloads.server_payload, Describes.Describes, Judged.HasRoomFor, Judged.IsRemembered, Judged.IsForgotten, Judged.HasAsk, Fault.IsNext}
use Rattle.zk_talk.specs.declared.say.SayFault.TheVariants.{XidOrder, Misfit, NoMemory}
use Rattle.zk_talk.specs.Conversation.{Conversation, with_client, with_server, is_ask_on, replies_on, ClientMay, ServerMay, IsAnswered, load, weight}
use Rattle.zk_talk.specs.Said.{Heard, HasSpoken, MayAsk, IsSaidClient, IsSaidServer, IsClientRefusal, IsServerRefusal, IsUnwritten, IsUnput, IsUnfit, MayAnswer, CannotAnswer}
use Rattle.zk_talk.specs.Said.IsClientRefusal.{queue_full}
use Rattle.zk_talk.specs.Said.IsServerRefusal.{no_connect, long_connected, long_event, event_xid, unasked, xid_order, misfit, long_reply}
use Rattle.zk_talk.specs.Said.IsUnfit.{not_a_reply, none_waits, other_waits, unlike}
use Rattle.zk_talk.proofs.{Hearing.described, Lists.not_empty, Lists.EachAfter-push, Steps.each_still, Queues.weight_is_load, Queues.requests-length, Lanes.remembered, Lanes.forgotten, Loads.load_ask}
use mathlib.Core.Bool.{beq}
use Rattle.zk_talk.proofs.Judging.{first_may, later_may, heavier, connected_may, event_may, next_waits, front_none}

opposite : (a b : Bool) → (a ≡ b → ⊥) → (a ≡ true) → b ≡ false
opposite true true n e = absurd (n refl)
opposite true false n e = refl
opposite false b n e = absurd (cc)

other_side : (a b : Bool) → (a ≡ b → ⊥) → (a ≡ false) → b ≡ true
other_side false false n e = absurd (n refl)
other_side false true n e = refl
other_side true b n e = absurd (cc)

pub unequal : (a b : Bool) → beq a b ≡ false → a ≡ b → ⊥
unequal true true e q = cc
unequal false false e q = cc
unequal true false e q = cc
unequal false true e q = cc

zero_length : {X : Type 0} (xs : List X) → xs ≡ [] → length xs ≡ 0
zero_length xs e = ap length e

some_length : {X : Type 0} (xs : List X) → xs ≢ [] → length xs ≡ 0 → ⊥
some_length [] n e = n refl
some_length (x ∷ xs) n e = omega (arith, e)

-- ---- what the lane's oldest request says of a reply
pub unfit_other : (w : Lanes) (r : Reply) (lane : Lane) (q : Request) (expected got : ℤ) → lane ≡ lane_of r.xid → r.xid ≢ negsuc 0 → slice_get (queue_on lane w) 0 ≡ Some q → expected ≡ q.xid → got ≡ r.xid → q.xid ≢ r.xid → IsUnfit w r (XidOrder expected got)
unfit_other w r lane q expected got same n some e g other =
    other_waits n q (subst (λ l. slice_get (queue_on l w) 0 ≡ Some q) same some) other (ap (λ z. XidOrder z got) e ∙ ap (λ z. XidOrder q.xid z) g)

pub unfit_unlike : (w : Lanes) (r : Reply) (lane : Lane) (q : Request) (fits : Bool) → lane ≡ lane_of r.xid → r.xid ≢ negsuc 0 → slice_get (queue_on lane w) 0 ≡ Some q → q.xid ≡ r.xid → asked_parts q ≡ q.parts → (Fits q.op (asked_parts q) r → IsTrue fits) → fits ≡ false → IsUnfit w r Misfit
unfit_unlike w r lane q fits same n some x parts tells off =
    unlike n q (subst (λ l. slice_get (queue_on l w) 0 ≡ Some q) same some) x (λ f. both_ways fits off (tells (subst (λ z. Fits q.op z r) (sym parts) f))) refl

module _ (limits : Limits) (asked welcomed : Bool) (w : Lanes) (v : Conversation) (heard : Heard asked welcomed w v) where
  describes : Describes (length v.client) (length v.server) w v
  describes = described asked welcomed w v heard

  clients_none : asked ≡ false → v.client ≡ []
  clients_none e = subst (λ b. HasSpoken b v.client) e heard.client

  clients_some : asked ≡ true → v.client ≢ []
  clients_some e = subst (λ b. HasSpoken b v.client) e heard.client

  servers_none : welcomed ≡ false → v.server ≡ []
  servers_none e = subst (λ b. HasSpoken b v.server) e heard.server

  servers_some : welcomed ≡ true → v.server ≢ []
  servers_some e = subst (λ b. HasSpoken b v.server) e heard.server

  -- ---- the client's messages
  module _ (f : ClientFrame) (connect : Bool) (kind : MatchBool connect (IsFirst f) (IsLater f)) (turn : connect ≡ asked → ⊥) where
    pub client_full : (e : SayFault) → w.max ≡ limits.waiting → MayAsk limits f → Fit limits.client (asks.frame_items f) → IsUnput f w e → (e ≡ NoMemory) ⊎ IsClientRefusal limits v f e
    client_full e room may fit (inl m) = inl m
    client_full e room may fit (inr full) = inr (go f connect refl kind may fit full.0 full.2)
      where
        go : (g : ClientFrame) (b : Bool) → connect ≡ b → MatchBool b (IsFirst g) (IsLater g) → MayAsk limits g → Fit limits.client (asks.frame_items g) → IsLater g → w.max < weight_of w + weight g → IsClientRefusal limits v g e
        go (Connect t h) b q k may fit later l = absurd later
        go (Ask xid ask) true q k may fit later l = absurd k
        go (Ask xid ask) false q k may fit later l =
            queue_full (clients_some (other_side connect asked turn q)) later may fit (omega (arith, l, room, weight_is_load v w heard.queues)) full.1

    pub client_stands : MayAsk limits f → Fit limits.client (asks.frame_items f) → ClientMay limits.profile v.client f × (length (client_payload f) ≤ limits.client)
    unfolding client_payload
    client_stands may fit = (may_stand connect refl kind, fit.1)
      where
        may_stand : (b : Bool) → connect ≡ b → MatchBool b (IsFirst f) (IsLater f) → ClientMay limits.profile v.client f
        may_stand true q k = first_may (length v.client) (length v.server) w v describes limits.profile f (zero_length v.client (clients_none (opposite connect asked turn q))) k (may.0, fit.0)
        may_stand false q k = later_may (length v.client) (length v.server) w v describes limits.profile f (some_length v.client (clients_some (other_side connect asked turn q))) k (may.0, fit.0) may.1

    pub client_may : w.max ≡ limits.waiting → MayAsk limits f → Fit limits.client (asks.frame_items f) → HasRoomFor f w → IsSaidClient limits v f
    client_may room may fit has =
        let stands = client_stands may fit in
        (stands.0, stands.1, loads f connect refl kind has)
      where
        loads : (g : ClientFrame) (b : Bool) → connect ≡ b → MatchBool b (IsFirst g) (IsLater g) → HasRoomFor g w → load (v.client ++ g ∷ []) v.server ≤ limits.waiting
        loads (Connect t h) true q k has =
            let none = subst (λ z. load z v.server ≤ limits.waiting) (sym (clients_none (opposite connect asked turn q))) (omega arith) in
            omega (arith, none, load_ask v (Connect t h) heard.may)
        loads (Connect t h) false q k has = absurd k
        loads (Ask xid ask) b q k has = heavier (length v.client) (length v.server) w v describes limits.waiting (Ask xid ask) (omega (arith, has, room))

    pub client_said : (x : Lanes) → w.max ≡ limits.waiting → MayAsk limits f → Fit limits.client (asks.frame_items f) → IsRemembered f w x → IsSaidClient limits v f × Heard true welcomed x (with_client v f)
    client_said x room may fit put =
        let stands = client_stands may fit in (
          (stands.0, stands.1, loads f connect refl kind put),
          record {
            client = λ e. not_empty v.client f [] e;
            server = heard.server;
            may = each_still v.client f v.server heard.may;
            queues = λ k. remembered (length v.client) (length v.server) w x v describes 0 f put k;
          },
        )
      where
        loads : (g : ClientFrame) (b : Bool) → connect ≡ b → MatchBool b (IsFirst g) (IsLater g) → IsRemembered g w x → load (v.client ++ g ∷ []) v.server ≤ limits.waiting
        loads (Connect t h) true q k put =
            let none = subst (λ z. load z v.server ≤ limits.waiting) (sym (clients_none (opposite connect asked turn q))) (omega arith) in
            omega (arith, none, load_ask v (Connect t h) heard.may)
        loads (Connect t h) false q k put = absurd k
        loads (Ask xid ask) b q k put = heavier (length v.client) (length v.server) w v describes limits.waiting (Ask xid ask) (omega (arith, put.0, room))

  -- ---- the server's messages
  module _ (s : ServerFrame) (connected : Bool) (kind : MatchBool connected (IsConnected s) (IsConnected s → ⊥)) (turn : connected ≡ welcomed → ⊥) where
    in_front : IsConnected s → v.server ≡ []
    in_front c = go connected refl kind
      where
        go : (b : Bool) → connected ≡ b → MatchBool b (IsConnected s) (IsConnected s → ⊥) → v.server ≡ []
        go true q k = servers_none (opposite connected welcomed turn q)
        go false q k = absurd (k c)

    behind : (IsConnected s → ⊥) → v.server ≢ []
    behind n = go connected refl kind
      where
        go : (b : Bool) → connected ≡ b → MatchBool b (IsConnected s) (IsConnected s → ⊥) → v.server ≢ []
        go true q k = absurd (n k)
        go false q k = servers_some (other_side connected welcomed turn q)

  reply_unfit : (r : Reply) (e : SayFault) → v.server ≢ [] → IsUnfit w r e → IsServerRefusal limits v (Answered r) e
  reply_unfit r e some (not_a_reply x q) = event_xid some r refl x q
  reply_unfit r e some (none_waits x none q) =
      let lane = lane_of r.xid in
      let empty = sym (requests-length (queue_on lane w) _ (heard.queues lane)) ∙ ap length (front_none (queue_on lane w) none) in
      unasked some r refl x (omega (arith, empty, length-drop (replies_on lane v.server) (filter (is_ask_on lane) v.client))) q
  reply_unfit r e some (other_waits x q got other is) =
      let t = next_waits (length v.client) (length v.server) w v describes (lane_of r.xid) q got in
      xid_order some r refl x q.xid t.ask t.next other is
  reply_unfit r e some (unlike x q got same n is) =
      let t = next_waits (length v.client) (length v.server) w v describes (lane_of r.xid) q got in
      misfit some r refl x t.ask (subst (λ z. IsNext v (lane_of r.xid) z t.ask) same t.next) (λ f. n (subst (λ z. Fits z q.parts r) (sym t.op) (subst (λ z. Fits (op_of_ask t.ask) z r) (sym t.parts) f))) is

  pub server_unfit : (s : ServerFrame) (connected : Bool) → MatchBool connected (IsConnected s) (IsConnected s → ⊥) → (connected ≡ welcomed → ⊥) → (e : SayFault) → CannotAnswer asked w s e → IsServerRefusal limits v s e
  server_unfit (Connected t h) c k turn e u = no_connect (in_front (Connected t h) c k turn tt) tt (clients_none u.0) u.1
  server_unfit (Answered r) c k turn e u = reply_unfit r e (behind (Answered r) c k turn (λ z. z)) u
  server_unfit (Event z x) c k turn e u = absurd u

  pub server_long : (s : ServerFrame) (connected : Bool) → MatchBool connected (IsConnected s) (IsConnected s → ⊥) → (connected ≡ welcomed → ⊥) → (e : SayFault) → MayAnswer asked w s → IsUnwritten limits.server (answers.frame_items s) e → (e ≡ NoMemory) ⊎ IsServerRefusal limits v s e
  server_long s c k turn e may (inl m) = inl m
  server_long (Connected t h) c k turn e may (inr l) = inr (long_connected (in_front (Connected t h) c k turn tt) tt (clients_some may) l.1 l.0)
  server_long (Answered r) c k turn e may (inr l) =
      let t = next_waits (length v.client) (length v.server) w v describes (lane_of r.xid) may.1.0 may.1.1 in
      inr (long_reply (behind (Answered r) c k turn (λ z. z)) r refl may.0 t.ask (subst (λ z. IsNext v (lane_of r.xid) z t.ask) may.1.2 t.next) (subst (λ z. Fits z (ops_of_ask t.ask) r) t.op (subst (λ z. Fits may.1.0.op z r) t.parts may.1.3)) l.1 l.0)
  server_long (Event z x) c k turn e may (inr l) = inr (long_event (behind (Event z x) c k turn (λ z. z)) tt l.1 l.0)

  has_ask : (s : ServerFrame) → MayAnswer asked w s → HasAsk s w
  has_ask (Connected t h) may = tt
  has_ask (Answered r) may = (may.1.0, may.1.1)
  has_ask (Event z x) may = tt

  server_may : (s : ServerFrame) (connected : Bool) → MatchBool connected (IsConnected s) (IsConnected s → ⊥) → (connected ≡ welcomed → ⊥) → MayAnswer asked w s → Fit limits.server (answers.frame_items s) → ServerMay v.client v.server s
  server_may (Connected t h) c k turn may fit =
      connected_may (length v.client) (length v.server) w v describes (Connected t h) (zero_length v.server (in_front (Connected t h) c k turn tt)) (some_length v.client (clients_some may)) tt (tt, tt, fit.0)
  server_may (Answered r) c k turn may fit = go v.server refl (behind (Answered r) c k turn (λ z. z))
    where
      answered : IsAnswered v.client v.server r
      answered =
          let t = next_waits (length v.client) (length v.server) w v describes (lane_of r.xid) may.1.0 may.1.1 in
          record {
            asked = t.next.asked;
            ask = t.ask;
            after = t.next.after;
            stands = t.next.stands ∙ ap (λ z. t.next.asked ++ Ask z t.ask ∷ t.next.after) may.1.2;
            fits = subst (λ z. Fits z (ops_of_ask t.ask) r) t.op (subst (λ z. Fits may.1.0.op z r) t.parts may.1.3);
            counts = t.next.counts;
          }

      go : (S : List ServerFrame) → v.server ≡ S → S ≢ [] → ServerMay v.client S (Answered r)
      go [] e n = absurd (n refl)
      go (x ∷ xs) e n = ((may.0, may.2, fit.0), subst (λ z. IsAnswered v.client z r) e answered)
  server_may (Event z x) c k turn may fit = event_may (length v.client) (length v.server) w v describes (Event z x) (some_length v.server (behind (Event z x) c k turn (λ z. z))) tt (tt, tt, fit.0)

  pub server_stands : (s : ServerFrame) (connected : Bool) → MatchBool connected (IsConnected s) (IsConnected s → ⊥) → (connected ≡ welcomed → ⊥) → MayAnswer asked w s → Fit limits.server (answers.frame_items s) → IsSaidServer limits v s
  unfolding server_payload
  server_stands s c k turn may fit = (server_may s c k turn may fit, fit.1)

  pub server_said : (s : ServerFrame) (connected : Bool) → MatchBool connected (IsConnected s) (IsConnected s → ⊥) → (connected ≡ welcomed → ⊥) → (x : Lanes) → MayAnswer asked w s → Fit limits.server (answers.frame_items s) → IsForgotten s w x →
      IsSaidServer limits v s × Heard asked true x (with_server v s)
  server_said s c k turn x may fit left =
      let stands = server_stands s c k turn may fit in (
        stands,
        record {
          client = heard.client;
          server = λ e. not_empty v.server s [] e;
          may = EachAfter-push (ServerMay v.client) v.server s heard.may stands.0;
          queues = λ lane. forgotten (length v.client) (length v.server) w x v describes s (has_ask s may) left lane;
        },
      )

pub is_wanting : (e : SayFault) → (e ≡ NoMemory) ⊎ (e ≡ NoMemory → ⊥)
is_wanting NoMemory = inl refl
is_wanting _ = inr (λ (e : _). cc)

-- want of memory, or a refusal whatever came before
pub either : {X : Type 0} (e : SayFault) (H P : X → Type 0) → ((x : X) → H x → (e ≡ NoMemory) ⊎ P x) → (e ≡ NoMemory) ⊎ ((x : X) → H x → P x)
either {X} e H P all = go (is_wanting e)
  where
    go : ((e ≡ NoMemory) ⊎ (e ≡ NoMemory → ⊥)) → (e ≡ NoMemory) ⊎ ((x : X) → H x → P x)
    go (inl m) = inl m
    go (inr n) = inr (λ v h. keep (all v h))
      where
        keep : {Q : Type 0} → ((e ≡ NoMemory) ⊎ Q) → Q
        keep (inl m) = absurd (n m)
        keep (inr q) = q
