-- A talk goes on with its history.
use Rattle.std.proofs.Common.{◌≡◌, ℕ, ◌+◌, ◌<◌, ◌≤◌, ◌^◌, List, [], ◌∷◌, ◌++◌, length, refl, sym, ap, ◌∙◌, subst, arith, append_assoc}
use Rattle.std.proofs.lemmas.List.{append-nil, length_push, map_push}
use Rattle.zk_talk.specs.{declared.message.Side.Side, declared.limits.Limits.Limits, History.History, History.side_bytes, History.on, Held.Message, Fault.IsCause, Fault.rest_on, Fault.side_limit, Said.payload_of, Viewed.other_side}
use Rattle.zk_talk.specs.declared.message.Side.TheVariants.{Client, Server}
use Rattle.zk_frames.specs.Framing.{frame, IsBeginning}
use Rattle.zk_talk.specs.Conversation.{Conversation, with_client, with_server, ClientMay, ServerMay, load}
use Rattle.zk_talk.specs.Good.{IsWhole, AreWholeIn, Good, IsGood, clients, servers, IsOrder}
use Rattle.zk_talk.proofs.{Small.AreSmall, Histories.side_bytes-same, Histories.other-bytes, Lists.FrontOfPushed, Lists.front_of_pushed, Lists.FrontOfPushed.all_of_it, Lists.FrontOfPushed.front_of, Refusals.refused}
use Rattle.zk_jute.specs.declared.fault.Reason.{Reason}
use Rattle.zk_talk.specs.declared.message.MessageOf.TheVariants.{Client as FromClient, Server as FromServer}
use Rattle.zk_talk.specs.Fault.IsCause.{stream_end, length_range, payload_fault}
use Rattle.zk_frames.proofs.Taking as frames
use Rattle.zk_talk.proofs.GoodSteps.{good_more_client, good_more_server, good_client, good_server, found_client, found_server, bad_length, side_full}

-- ---- Sides
-- what a side has, where one side has something new
abbrev pub own : {X : Type 0} → Side → Side → X → X → X
own Client Client new old = new
own Server Server new old = new
own Client Server new old = old
own Server Client new old = old

-- a side has the new of itself
pub own_rest : (side : Side) (new a b : List ℕ) → rest_on side (own Client side new a) (own Server side new b) ≡ new
own_rest Client new a b = refl
own_rest Server new a b = refl

-- the conversation with one more message
abbrev pub with_message : Conversation → Message → Conversation
with_message v (FromClient f) = with_client v f
with_message v (FromServer s) = with_server v s

-- the message may come next on the side
abbrev pub MayOn : Side → Limits → Conversation → Message → Type 0
MayOn Client limits v (FromClient f) = ClientMay limits.profile v.client f × (load (v.client ++ f ∷ []) v.server ≤ limits.waiting)
MayOn Server limits v (FromServer s) = ServerMay v.client v.server s
MayOn Client limits v (FromServer s) = ⊥
MayOn Server limits v (FromClient f) = ⊥

-- ---- Beginnings
pub frame_front : (limit : ℕ) (c d q : List ℕ) (y : ℕ) → length q ≤ limit → c ++ y ∷ d ≡ frame q → IsBeginning limit c
frame_front limit c d q y l e = frames.frame_front limit c (y ∷ d) (omega arith) (q, e, l)

-- ---- Order
pub clients-append : (M N : List Message) → clients (M ++ N) ≡ clients M ++ clients N
clients-append [] N = refl
clients-append (FromClient f ∷ M) N = ap (λ z. f ∷ z) (clients-append M N)
clients-append (FromServer f ∷ M) N = clients-append M N

pub servers-append : (M N : List Message) → servers (M ++ N) ≡ servers M ++ servers N
servers-append [] N = refl
servers-append (FromClient f ∷ M) N = servers-append M N
servers-append (FromServer f ∷ M) N = ap (λ z. f ∷ z) (servers-append M N)

module _ (limits : Limits) (h : History) (x : Side × ℕ) (v w : Conversation) (cb sb : List ℕ) (M more : List Message) where
  -- the messages in order, with those that the byte makes whole
  pub order_more : IsOrder limits h v M → clients (M ++ more) ≡ w.client → servers (M ++ more) ≡ w.server → IsWhole limits (h ++ x ∷ []) w.client w.server cb sb → IsOrder limits (h ++ x ∷ []) w (M ++ more)
  order_more o c s whole = record {
    client = c;
    server = s;
    fronts = λ front rest e. go front rest (front_of_pushed h x front rest e);
  }
    where
      go : (front rest : History) → FrontOfPushed h x front rest → (first after : List Message) × (M ++ more ≡ first ++ after) × AreWholeIn limits front (clients first) (servers first)
      go front rest (all_of_it f r) = (
        M ++ more,
        [],
        sym (append-nil (M ++ more)),
        (
          cb,
          sb,
          subst (λ z. IsWhole limits z (clients (M ++ more)) (servers (M ++ more)) cb sb) (sym f)
              (subst (λ z. IsWhole limits (h ++ x ∷ []) z (servers (M ++ more)) cb sb) (sym c) (subst (λ z. IsWhole limits (h ++ x ∷ []) w.client z cb sb) (sym s) whole)),
        ),
      )
      go front rest (front_of r' f r) =
          let p = o.fronts front r' f in
          (p.0, p.1 ++ more, ap (λ z. z ++ more) p.2 ∙ append_assoc p.0 p.1 more, p.3)

pub order_same : (limits : Limits) (h : History) (x : Side × ℕ) (v : Conversation) (cb sb : List ℕ) (M : List Message) → IsOrder limits h v M → IsWhole limits (h ++ x ∷ []) v.client v.server cb sb → IsOrder limits (h ++ x ∷ []) v M
order_same limits h x v cb sb M o whole =
    subst (IsOrder limits (h ++ x ∷ []) v) (append-nil M)
    (order_more limits h x v v cb sb M [] o (ap clients (append-nil M) ∙ o.client) (ap servers (append-nil M) ∙ o.server) whole)

-- ---- A piece within a frame
pub record Runs (limits : Limits) (h : History) (v : Conversation) (M : List Message) (cb sb : List ℕ) : Type 0 where
  pub good : Good limits h v cb sb
  pub order : IsOrder limits h v M

module _ (limits : Limits) (small : AreSmall limits) (v : Conversation) (M : List Message) where
  pub runs_client : (bs : List ℕ) (h : History) (cb sb : List ℕ) → Runs limits h v M cb sb → IsBeginning limits.client (cb ++ bs) → length (side_bytes Client h) + length bs < 2 ^ 62 → Runs limits (h ++ on Client bs) v M (cb ++ bs) sb
  runs_client [] h cb sb r begin size = subst (λ z. Runs limits z v M (cb ++ []) sb) (sym (append-nil h)) (subst (λ z. Runs limits h v M z sb) (sym (append-nil cb)) r)
  runs_client (b ∷ bs) h cb sb r begin size =
      let begin' = subst (IsBeginning limits.client) (sym (append_assoc cb (b ∷ []) bs)) begin in
      let g = good_more_client limits small h b v cb sb r.good (frames.beginning_front limits.client (cb ++ b ∷ []) bs begin') (omega arith) in
      let o = order_same limits h (Client, b) v (cb ++ b ∷ []) sb M r.order g.whole in
      let next = runs_client bs (h ++ (Client, b) ∷ []) (cb ++ b ∷ []) sb (record { good = g; order = o }) begin' (omega (arith, size, ap length (side_bytes-same Client h b), length_push (side_bytes Client h) b)) in
      subst (λ z. Runs limits z v M (cb ++ b ∷ bs) sb) (append_assoc h ((Client, b) ∷ []) (on Client bs)) (subst (λ z. Runs limits ((h ++ (Client, b) ∷ []) ++ on Client bs) v M z sb) (append_assoc cb (b ∷ []) bs) next)

  pub runs_server : (bs : List ℕ) (h : History) (cb sb : List ℕ) → Runs limits h v M cb sb → IsBeginning limits.server (sb ++ bs) → length (side_bytes Server h) + length bs < 2 ^ 62 → Runs limits (h ++ on Server bs) v M cb (sb ++ bs)
  runs_server [] h cb sb r begin size = subst (λ z. Runs limits z v M cb (sb ++ [])) (sym (append-nil h)) (subst (λ z. Runs limits h v M cb z) (sym (append-nil sb)) r)
  runs_server (b ∷ bs) h cb sb r begin size =
      let begin' = subst (IsBeginning limits.server) (sym (append_assoc sb (b ∷ []) bs)) begin in
      let g = good_more_server limits small h b v cb sb r.good (frames.beginning_front limits.server (sb ++ b ∷ []) bs begin') (omega arith) in
      let o = order_same limits h (Server, b) v cb (sb ++ b ∷ []) M r.order g.whole in
      let next = runs_server bs (h ++ (Server, b) ∷ []) cb (sb ++ b ∷ []) (record { good = g; order = o }) begin' (omega (arith, size, ap length (side_bytes-same Server h b), length_push (side_bytes Server h) b)) in
      subst (λ z. Runs limits z v M cb (sb ++ b ∷ bs)) (append_assoc h ((Server, b) ∷ []) (on Server bs)) (subst (λ z. Runs limits ((h ++ (Server, b) ∷ []) ++ on Server bs) v M cb z) (append_assoc sb (b ∷ []) bs) next)

-- ---- A byte that makes a frame whole
module _ (limits : Limits) (small : AreSmall limits) (h : History) (b : ℕ) (v : Conversation) (M : List Message) (cb sb : List ℕ) (r : Runs limits h v M cb sb) where
  pub runs_message : (side : Side) (m : Message) → rest_on side cb sb ++ b ∷ [] ≡ frame (payload_of m) → length (payload_of m) ≤ side_limit limits side → MayOn side limits v m → length (side_bytes side h) + 1 < 2 ^ 62 →
      Runs limits (h ++ (side, b) ∷ []) (with_message v m) (M ++ m ∷ []) (own Client side [] cb) (own Server side [] sb)
  runs_message Client (FromClient f) e l may size =
      let g = good_client limits small h b v cb sb r.good f e l may.0 may.1 size in
      let clients-now = clients-append M (FromClient f ∷ []) ∙ ap (λ z. z ++ f ∷ []) r.order.client in
      let servers-now = servers-append M (FromClient f ∷ []) ∙ append-nil (servers M) ∙ r.order.server in
      record { good = g; order = order_more limits h (Client, b) v (with_client v f) [] sb M (FromClient f ∷ []) r.order clients-now servers-now g.whole }
  runs_message Server (FromServer s) e l may size =
      let g = good_server limits small h b v cb sb r.good s e l may size in
      let clients-now = clients-append M (FromServer s ∷ []) ∙ append-nil (clients M) ∙ r.order.client in
      let servers-now = servers-append M (FromServer s ∷ []) ∙ ap (λ z. z ++ s ∷ []) r.order.server in
      record { good = g; order = order_more limits h (Server, b) v (with_server v s) cb [] M (FromServer s ∷ []) r.order clients-now servers-now g.whole }
  runs_message Client (FromServer s) e l may size = absurd may
  runs_message Server (FromClient f) e l may size = absurd may

  -- the message of a payload that leaves the history good
  pub found_message : (side : Side) (p : List ℕ) → rest_on side cb sb ++ b ∷ [] ≡ frame p → length p ≤ side_limit limits side → IsGood limits (h ++ (side, b) ∷ []) → (m : Message) × (payload_of m ≡ p) × MayOn side limits v m
  found_message Client p e l n = let f = found_client limits small h b v cb sb r.good p e l n in (FromClient f.found, f.payload, (f.may, f.fits))
  found_message Server p e l n = let s = found_server limits small h b v cb sb r.good p e l n in (FromServer s.found, s.payload, s.may)

-- the bytes of a piece on its own side and on the other
pub bytes-on : (side : Side) (bs : List ℕ) (h : History) → length (side_bytes side (h ++ on side bs)) ≡ length (side_bytes side h) + length bs
bytes-on side [] h = ap (λ z. length (side_bytes side z)) (append-nil h) ∙ omega arith
bytes-on side (b ∷ bs) h = ap (λ z. length (side_bytes side z)) (sym (append_assoc h ((side, b) ∷ []) (on side bs))) ∙ bytes-on side bs (h ++ (side, b) ∷ []) ∙ omega (arith, ap length (side_bytes-same side h b), length_push (side_bytes side h) b)

pub other-on : (side : Side) (bs : List ℕ) (h : History) → side_bytes (other_side side) (h ++ on side bs) ≡ side_bytes (other_side side) h
other-on side [] h = ap (side_bytes (other_side side)) (append-nil h)
other-on side (b ∷ bs) h = ap (side_bytes (other_side side)) (sym (append_assoc h ((side, b) ∷ []) (on side bs))) ∙ other-on side bs (h ++ (side, b) ∷ []) ∙ other-bytes side h b

pub on-push : (side : Side) (bs : List ℕ) (b : ℕ) → on side (bs ++ b ∷ []) ≡ on side bs ++ (side, b) ∷ []
on-push side bs b = map_push (λ (z : ℕ). (side, z)) bs b

pub last-on : (side : Side) (h : History) (bs : List ℕ) (b : ℕ) → (h ++ on side bs) ++ (side, b) ∷ [] ≡ h ++ on side (bs ++ b ∷ [])
last-on side h bs b = append_assoc h (on side bs) ((side, b) ∷ []) ∙ ap (λ z. h ++ z) (sym (on-push side bs b))

-- ---- A byte that nothing good goes on with
module _ (limits : Limits) (small : AreSmall limits) (h : History) (b : ℕ) (v : Conversation) (cb sb : List ℕ) (g : Good limits h v cb sb) (side : Side) (place : ℕ) (reason : Reason) where
  pub cause_bad : IsCause limits v side (length (side_bytes side h)) (rest_on side cb sb) b place reason → IsGood limits (h ++ (side, b) ∷ []) → ⊥
  cause_bad (stream_end e a r) = side_full limits small h b v cb sb g side (omega (arith, e))
  cause_bad (length_range e bad a r) = bad_length limits small h b v cb sb g side bad
  cause_bad (payload_fault e p w l f) = refused limits small h b v cb sb g p place reason side w l f
