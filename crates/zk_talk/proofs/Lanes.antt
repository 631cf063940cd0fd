-- The lanes after a frame more.
use Rattle.std.proofs.Common.{◌≡◌, ℕ, List, [], ◌∷◌, ◌++◌, drop, refl, sym, ap, ◌∙◌, subst, Bool, true, false, cond, Some}
use Rattle.std.specs.Prelude.{slice_get}
use Rattle.zk_asks.specs.{Held.ClientFrame, Rows.op_of_ask, Frames.ops_of_ask}
use Rattle.zk_asks.specs.declared.frame.ClientFrameOf.TheVariants.{Connect, Ask}
use Rattle.zk_answers.specs.Held.{ServerFrame}
use Rattle.zk_answers.specs.declared.frame.ServerFrameOf.TheVariants.{Connected, Answered, Event}
use Rattle.zk_waiting.specs.{declared.lane.Lane.Lane, Lane.lane_of, Lane.same_lane}
use Rattle.zk_waiting.specs.declared.lane.Lane.TheVariants.{Ping, Auth, Watches, Plain}
use Rattle.zk_waiting.specs.Waiting.{Request, Lanes, queue_on, IsPut, IsDropped}
use Rattle.zk_talk.specs.{Conversation.Conversation, Conversation.with_client, Conversation.with_server, Queues.IsQueue, Describes.Describes, Judged.HasRoomFor, Judged.IsNumbered, Judged.HasAsk, Judged.IsForgotten}
use Rattle.zk_talk.proofs.{Loads.lanes_same, Queues.queue_ask, Queues.queue_skip, Queues.queue_keep, Queues.queue_pop}

pub put_on : (l k : Lane) (r : Request) (w x : Lanes) → IsPut l r w x → queue_on k x ≡ cond (same_lane k l) (queue_on k w ++ r ∷ []) (queue_on k w)
put_on Ping Ping r w x e = ap (queue_on Ping) e
put_on Auth Auth r w x e = ap (queue_on Auth) e
put_on Watches Watches r w x e = ap (queue_on Watches) e
put_on Plain Plain r w x e = ap (queue_on Plain) e
put_on _ k r w x e = ap (queue_on k) e

pub drop_on : (l k : Lane) (w x : Lanes) → IsDropped l w x → queue_on k x ≡ cond (same_lane k l) (drop 1 (queue_on k w)) (queue_on k w)
drop_on Ping Ping w x e = ap (queue_on Ping) e
drop_on Auth Auth w x e = ap (queue_on Auth) e
drop_on Watches Watches w x e = ap (queue_on Watches) e
drop_on Plain Plain w x e = ap (queue_on Plain) e
drop_on _ k w x e = ap (queue_on k) e

pub front_some : {X : Type 0} (xs : List X) (x : X) → slice_get xs 0 ≡ Some x → (rest : List X) × (xs ≡ x ∷ rest)
front_some [] x e = absurd (cc)
front_some (y ∷ xs) x e = (xs, ap (λ z. z ∷ xs) (cc))

-- what is so of a lane with one request more or less, by whether the request is of the lane
module _ (P : List Request → Type 0) (k l : Lane) (w x : Lanes) where
  pub with_put : (r : Request) → IsPut l r w x → (same_lane k l ≡ true → P (queue_on k w ++ r ∷ [])) → (same_lane k l ≡ false → P (queue_on k w)) → P (queue_on k x)
  with_put r e own other = go (same_lane k l) refl
    where
      go : (b : Bool) → same_lane k l ≡ b → P (queue_on k x)
      go true q = subst P (sym (put_on l k r w x e ∙ ap (λ z. cond z (queue_on k w ++ r ∷ []) (queue_on k w)) q)) (own q)
      go false q = subst P (sym (put_on l k r w x e ∙ ap (λ z. cond z (queue_on k w ++ r ∷ []) (queue_on k w)) q)) (other q)

  pub with_drop : (r : Request) → slice_get (queue_on l w) 0 ≡ Some r → IsDropped l w x → (same_lane k l ≡ true → (rest : List Request) → queue_on k w ≡ r ∷ rest → P rest) → (same_lane k l ≡ false → P (queue_on k w)) → P (queue_on k x)
  with_drop r some e own other = go (same_lane k l) refl
    where
      go : (b : Bool) → same_lane k l ≡ b → P (queue_on k x)
      go true q =
          let first = front_some (queue_on l w) r some in
          let queue : queue_on k w ≡ r ∷ first.0 = ap (λ z. queue_on z w) (lanes_same k l q) ∙ first.1 in
          subst P (sym (drop_on l k w x e ∙ ap (λ z. cond z (drop 1 (queue_on k w)) (queue_on k w)) q ∙ ap (drop 1) queue)) (own q first.0 queue)
      go false q = subst P (sym (drop_on l k w x e ∙ ap (λ z. cond z (drop 1 (queue_on k w)) (queue_on k w)) q)) (other q)

module _ (n m : ℕ) (w x : Lanes) (v : Conversation) (d : Describes n m w v) where
  pub remembered : (number : ℕ) (f : ClientFrame) → IsNumbered number f w x → (k : Lane) → IsQueue k (with_client v f) (queue_on k x)
  remembered number (Connect t g) e k = subst (λ z. IsQueue k (with_client v (Connect t g)) (queue_on k z)) (sym e) (queue_skip k v (queue_on k w) (Connect t g) refl (d.queues k))
  remembered number (Ask xid ask) e k =
      let f = Ask xid ask in
      let r : Request = record { xid = xid; op = op_of_ask ask; parts = ops_of_ask ask; frame = number } in
      with_put (IsQueue k (with_client v f)) k (lane_of xid) w x r e.1 (λ q. queue_ask k v (queue_on k w) r f d.may q refl (d.queues k)) (λ q. queue_skip k v (queue_on k w) f q (d.queues k))

  pub forgotten : (s : ServerFrame) → HasAsk s w → IsForgotten s w x → (k : Lane) → IsQueue k (with_server v s) (queue_on k x)
  forgotten (Connected t g) a e k = subst (λ z. IsQueue k (with_server v (Connected t g)) (queue_on k z)) (sym e) (queue_keep k v (queue_on k w) (Connected t g) refl (d.queues k))
  forgotten (Event z y) a e k = subst (λ u. IsQueue k (with_server v (Event z y)) (queue_on k u)) (sym e) (queue_keep k v (queue_on k w) (Event z y) refl (d.queues k))
  forgotten (Answered r) a e k =
      with_drop (IsQueue k (with_server v (Answered r))) k (lane_of r.xid) w x a.0 a.1 e (λ q rest is. queue_pop k v a.0 rest (Answered r) q (subst (IsQueue k v) is (d.queues k))) (λ q. queue_keep k v (queue_on k w) (Answered r) q (d.queues k))

-- there are lanes with one request more, and with one less, of the same limit
put_there : (lane : Lane) (r : Request) (w : Lanes) → (x : Lanes) × IsPut lane r w x × (x.max ≡ w.max)
put_there Ping r w = (record w { ping = w.ping ++ r ∷ [] }, refl, refl)
put_there Auth r w = (record w { auth = w.auth ++ r ∷ [] }, refl, refl)
put_there Watches r w = (record w { watches = w.watches ++ r ∷ [] }, refl, refl)
put_there Plain r w = (record w { plain = w.plain ++ r ∷ [] }, refl, refl)

drop_there : (lane : Lane) (w : Lanes) → (x : Lanes) × IsDropped lane w x × (x.max ≡ w.max)
drop_there Ping w = (record w { ping = drop 1 w.ping }, refl, refl)
drop_there Auth w = (record w { auth = drop 1 w.auth }, refl, refl)
drop_there Watches w = (record w { watches = drop 1 w.watches }, refl, refl)
drop_there Plain w = (record w { plain = drop 1 w.plain }, refl, refl)

pub remembered_there : (number : ℕ) (f : ClientFrame) (w : Lanes) → HasRoomFor f w → (x : Lanes) × IsNumbered number f w x × (x.max ≡ w.max)
remembered_there number (Connect t g) w room = (w, refl, refl)
remembered_there number (Ask xid ask) w room = let x = put_there (lane_of xid) (record { xid = xid; op = op_of_ask ask; parts = ops_of_ask ask; frame = number }) w in (x.0, (room, x.1), x.2)

pub forgotten_there : (s : ServerFrame) (w : Lanes) → (x : Lanes) × IsForgotten s w x × (x.max ≡ w.max)
forgotten_there (Connected t g) w = (w, refl, refl)
forgotten_there (Answered r) w = drop_there (lane_of r.xid) w
forgotten_there (Event z k) w = (w, refl, refl)
