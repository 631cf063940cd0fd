-- The lanes hold the asks that wait.
use Rattle.std.proofs.Common.{◌≡◌, ℕ, zero, suc, ◌+◌, ◌-◌, List, [], ◌∷◌, ◌++◌, length, drop, refl, sym, ap, ◌∙◌, subst, arith, length-append, Bool, true, false, filter, cond, leb}
use Rattle.std.proofs.{lemmas.List.append-nil, lemmas.List.drop-append-le, lemmas.List.drop-drop, lemmas.List.Elements.filter-append, lemmas.List.Sums.sum_by-cons, lemmas.Bool.leb-true, lemmas.Bool.leb-false}
use Rattle.zk_asks.specs.Held.{ClientFrame}
use Rattle.zk_asks.specs.declared.frame.ClientFrameOf.TheVariants.{Connect, Ask}
use Rattle.zk_answers.specs.Held.{ServerFrame}
use Rattle.zk_waiting.specs.{declared.lane.Lane.Lane, Lane.lane_of, Lane.same_lane}
use Rattle.zk_waiting.specs.declared.lane.Lane.TheVariants.{Ping, Auth, Watches, Plain}
use Rattle.zk_waiting.specs.Waiting.{Request, Lanes, queue_on, request_weight, queue_weight, weight_of, count_of}
use Rattle.zk_talk.specs.{Splits.EachAfter, Queues.IsRequest, Queues.AreRequests, Queues.IsQueue}
use Rattle.zk_talk.specs.Conversation.{is_ask_on, is_reply_on, asks_on, replies_on, ServerMay, Conversation, with_client, with_server, load, sum_waiting, weight}
use Rattle.zk_talk.proofs.{Turns.count_cons, Loads.replies_in_asks}

-- ---- requests and the asks that they stand for

requests-push : (rs : List Request) (fs : List ClientFrame) (r : Request) (f : ClientFrame) → AreRequests rs fs → IsRequest r f → AreRequests (rs ++ r ∷ []) (fs ++ f ∷ [])
requests-push [] [] r f a i = (i, tt)
requests-push [] (g ∷ fs) r f a i = absurd a
requests-push (q ∷ rs) [] r f a i = absurd a
requests-push (q ∷ rs) (g ∷ fs) r f a i = (a.0, requests-push rs fs r f a.1 i)

requests-tail : (r : Request) (rs : List Request) (fs : List ClientFrame) → AreRequests (r ∷ rs) fs → AreRequests rs (drop 1 fs)
requests-tail r rs [] a = absurd a
requests-tail r rs (f ∷ fs) a = a.1

pub requests-head : (r : Request) (rs : List Request) (fs : List ClientFrame) → AreRequests (r ∷ rs) fs → (f : ClientFrame) × (more : List ClientFrame) × (fs ≡ f ∷ more) × IsRequest r f
requests-head r rs [] a = absurd a
requests-head r rs (f ∷ fs) a = (f, fs, refl, a.0)

pub requests-length : (rs : List Request) (fs : List ClientFrame) → AreRequests rs fs → length rs ≡ length fs
requests-length [] [] a = refl
requests-length [] (g ∷ fs) a = absurd a
requests-length (q ∷ rs) [] a = absurd a
requests-length (q ∷ rs) (g ∷ fs) a = omega (arith, requests-length rs fs a.1)

-- ---- a lane after a frame more

pub filter-skip : {X : Type 0} (p : X → Bool) (xs : List X) (x : X) → p x ≡ false → filter p (xs ++ x ∷ []) ≡ filter p xs
filter-skip p xs x e = filter-append p xs (x ∷ []) ∙ ap (λ b. filter p xs ++ cond b (x ∷ []) []) e ∙ append-nil (filter p xs)

pub filter-keep : {X : Type 0} (p : X → Bool) (xs : List X) (x : X) → p x ≡ true → filter p (xs ++ x ∷ []) ≡ filter p xs ++ x ∷ []
filter-keep p xs x e = filter-append p xs (x ∷ []) ∙ ap (λ b. filter p xs ++ cond b (x ∷ []) []) e

pub queue_ask : (lane : Lane) (v : Conversation) (queue : List Request) (r : Request) (f : ClientFrame) → EachAfter (ServerMay v.client) v.server → is_ask_on lane f ≡ true → IsRequest r f → IsQueue lane v queue → IsQueue lane (with_client v f) (queue ++ r ∷ [])
queue_ask lane v queue r f each e i q =
    let n = replies_on lane v.server in
    let xs = filter (is_ask_on lane) v.client in
    let longer : drop n xs ++ f ∷ [] ≡ drop n (filter (is_ask_on lane) (v.client ++ f ∷ [])) = sym (drop-append-le n xs (f ∷ []) (replies_in_asks v lane each)) ∙ ap (drop n) (sym (filter-keep (is_ask_on lane) v.client f e)) in
    subst (AreRequests (queue ++ r ∷ [])) longer (requests-push queue (drop n xs) r f q i)

pub queue_skip : (lane : Lane) (v : Conversation) (queue : List Request) (f : ClientFrame) → is_ask_on lane f ≡ false → IsQueue lane v queue → IsQueue lane (with_client v f) queue
queue_skip lane v queue f e q = subst (λ z. AreRequests queue (drop (replies_on lane v.server) z)) (sym (filter-skip (is_ask_on lane) v.client f e)) q

pub queue_keep : (lane : Lane) (v : Conversation) (queue : List Request) (s : ServerFrame) → is_reply_on lane s ≡ false → IsQueue lane v queue → IsQueue lane (with_server v s) queue
queue_keep lane v queue s e q = subst (λ z. AreRequests queue (drop (length z) (filter (is_ask_on lane) v.client))) (sym (filter-skip (is_reply_on lane) v.server s e)) q

pub queue_pop : (lane : Lane) (v : Conversation) (x : Request) (queue : List Request) (s : ServerFrame) → is_reply_on lane s ≡ true → IsQueue lane v (x ∷ queue) → IsQueue lane (with_server v s) queue
queue_pop lane v x queue s e q =
    let n = replies_on lane v.server in
    let xs = filter (is_ask_on lane) v.client in
    let more : replies_on lane (v.server ++ s ∷ []) ≡ n + 1 = ap length (filter-keep (is_reply_on lane) v.server s e) ∙ length-append (filter (is_reply_on lane) v.server) (s ∷ []) in
    subst (AreRequests queue) (drop-drop 1 n xs ∙ ap (λ z. drop z xs) (sym more)) (requests-tail x queue (drop n xs) q)

-- ---- a sum over what waits, lane by lane

abbrev pub sum_of : (ClientFrame → ℕ) → List ClientFrame → ℕ
sum_of of [] = 0
sum_of of (f ∷ fs) = of f + sum_of of fs

drop-nil : {X : Type 0} (n : ℕ) → drop {A = X} n [] ≡ []
drop-nil zero = refl
drop-nil (suc n) = refl

asks_push : (lane : Lane) (C : List ClientFrame) (f : ClientFrame) → asks_on lane (C ++ f ∷ []) ≡ asks_on lane C + cond {A = ℕ} (is_ask_on lane f) 1 0
asks_push lane C f = ap length (filter-append (is_ask_on lane) C (f ∷ [])) ∙ length-append (filter (is_ask_on lane) C) (filter (is_ask_on lane) (f ∷ [])) ∙ ap (λ z. asks_on lane C + z) (count_cons (is_ask_on lane) f [] ∙ omega arith)

module _ (of : ClientFrame → ℕ) (S : List ServerFrame) where
  -- the sum over the asks of the lane among C that wait, where `asked` stands before them
  abbrev left : Lane → List ClientFrame → List ClientFrame → ℕ
  left lane asked C = sum_of of (drop (replies_on lane S - asks_on lane asked) (filter (is_ask_on lane) C))

  gap : (r a : ℕ) (f : ClientFrame) (fs : List ClientFrame) (b : Bool) → leb r a ≡ b → sum_of of (drop (r - a) (f ∷ fs)) ≡ cond {A = ℕ} b (of f) 0 + sum_of of (drop (r - (a + 1)) fs)
  gap r a f fs true e =
      let none : r - a ≡ 0 = omega (arith, leb-true r a e) in
      let less : r - (a + 1) ≡ 0 = omega (arith, leb-true r a e) in
      ap (λ n. sum_of of (drop n (f ∷ fs))) none ∙ sym (ap (λ n. of f + sum_of of (drop n fs)) less)
  gap r a f fs false e =
      let more : r - a ≡ suc (r - (a + 1)) = omega (arith, leb-false r a e) in
      ap (λ n. sum_of of (drop n (f ∷ fs))) more ∙ omega arith

  one : (lane : Lane) (asked : List ClientFrame) (f : ClientFrame) (C : List ClientFrame) (b : Bool) → is_ask_on lane f ≡ b →
      left lane asked (f ∷ C) ≡ cond {A = ℕ} b (cond (leb (replies_on lane S) (asks_on lane asked)) (of f) 0) 0 + left lane (asked ++ f ∷ []) C
  one lane asked f C true e =
      let r = replies_on lane S in
      let a = asks_on lane asked in
      let fs = filter (is_ask_on lane) C in
      let next : asks_on lane (asked ++ f ∷ []) ≡ a + 1 = asks_push lane asked f ∙ ap (λ z. a + cond {A = ℕ} z 1 0) e in
      ap (λ z. sum_of of (drop (r - a) (cond z (f ∷ fs) fs))) e ∙ gap r a f fs (leb r a) refl ∙ ap (λ z. cond {A = ℕ} (leb r a) (of f) 0 + sum_of of (drop (r - z) fs)) (sym next)
  one lane asked f C false e =
      let r = replies_on lane S in
      let a = asks_on lane asked in
      let fs = filter (is_ask_on lane) C in
      let next : asks_on lane (asked ++ f ∷ []) ≡ a = asks_push lane asked f ∙ ap (λ z. a + cond {A = ℕ} z 1 0) e ∙ omega arith in
      ap (λ z. sum_of of (drop (r - a) (cond z (f ∷ fs) fs))) e ∙ ap (λ z. sum_of of (drop (r - z) fs)) (sym next) ∙ omega arith

  nothing : (lane : Lane) (asked : List ClientFrame) → left lane asked [] ≡ 0
  nothing lane asked = ap (sum_of of) (drop-nil (replies_on lane S - asks_on lane asked))

  pub sum_left : (asked C : List ClientFrame) → sum_waiting of asked C S ≡ left Ping asked C + left Auth asked C + left Watches asked C + left Plain asked C
  sum_left asked [] = omega (arith, nothing Ping asked, nothing Auth asked, nothing Watches asked, nothing Plain asked)
  sum_left asked (Connect t g ∷ C) =
      omega (arith, sum_left (asked ++ Connect t g ∷ []) C, one Ping asked (Connect t g) C false refl, one Auth asked (Connect t g) C false refl, one Watches asked (Connect t g) C false refl, one Plain asked (Connect t g) C false refl)
  sum_left asked (Ask xid ask ∷ C) = go (sum_left (asked ++ Ask xid ask ∷ []) C) (lane_of xid) refl
    where
      f : ClientFrame
      f = Ask xid ask

      fact : (k l : Lane) → lane_of xid ≡ l → left k asked (f ∷ C) ≡ cond {A = ℕ} (same_lane k l) (cond (leb (replies_on k S) (asks_on k asked)) (of f) 0) 0 + left k (asked ++ f ∷ []) C
      fact k l e = one k asked f C (same_lane k l) (ap (same_lane k) e)

      here : (l : Lane) → lane_of xid ≡ l → cond {A = ℕ} (leb (replies_on (lane_of xid) S) (asks_on (lane_of xid) asked)) (of f) 0 ≡ cond {A = ℕ} (leb (replies_on l S) (asks_on l asked)) (of f) 0
      here l e = ap (λ z. cond {A = ℕ} (leb (replies_on z S) (asks_on z asked)) (of f) 0) e

      go : sum_waiting of (asked ++ f ∷ []) C S ≡ left Ping (asked ++ f ∷ []) C + left Auth (asked ++ f ∷ []) C + left Watches (asked ++ f ∷ []) C + left Plain (asked ++ f ∷ []) C →
          (l : Lane) → lane_of xid ≡ l → sum_waiting of asked (f ∷ C) S ≡ left Ping asked (f ∷ C) + left Auth asked (f ∷ C) + left Watches asked (f ∷ C) + left Plain asked (f ∷ C)
      go more Ping e = omega (arith, more, here Ping e, fact Ping Ping e, fact Auth Ping e, fact Watches Ping e, fact Plain Ping e)
      go more Auth e = omega (arith, more, here Auth e, fact Ping Auth e, fact Auth Auth e, fact Watches Auth e, fact Plain Auth e)
      go more Watches e = omega (arith, more, here Watches e, fact Ping Watches e, fact Auth Watches e, fact Watches Watches e, fact Plain Watches e)
      go more Plain e = omega (arith, more, here Plain e, fact Ping Plain e, fact Auth Plain e, fact Watches Plain e, fact Plain Plain e)

  pub at_first : (lane : Lane) (C : List ClientFrame) → left lane [] C ≡ sum_of of (drop (replies_on lane S) (filter (is_ask_on lane) C))
  at_first lane C = ap (λ n. sum_of of (drop n (filter (is_ask_on lane) C))) (omega arith)

-- ---- the queues' weight and number

requests-weight : (rs : List Request) (fs : List ClientFrame) → AreRequests rs fs → queue_weight rs ≡ sum_of weight fs
requests-weight [] [] a = refl
requests-weight [] (g ∷ fs) a = absurd a
requests-weight (q ∷ rs) [] a = absurd a
requests-weight (q ∷ rs) (Connect t g ∷ fs) a = absurd a.0
requests-weight (q ∷ rs) (Ask xid ask ∷ fs) a =
    let step : queue_weight (q ∷ rs) ≡ request_weight q + queue_weight rs = sum_by-cons request_weight q rs in
    omega (arith, step, requests-weight rs fs a.1, ap (λ z. length z.parts) a.0)

requests-count : (rs : List Request) (fs : List ClientFrame) → AreRequests rs fs → length rs ≡ sum_of (λ f. 1) fs
requests-count [] [] a = refl
requests-count [] (g ∷ fs) a = absurd a
requests-count (q ∷ rs) [] a = absurd a
requests-count (q ∷ rs) (g ∷ fs) a = omega (arith, requests-count rs fs a.1)

module _ (v : Conversation) (w : Lanes) (q : (lane : Lane) → IsQueue lane v (queue_on lane w)) where
  -- The queues weigh what the load is.
  pub weight_is_load : weight_of w ≡ load v.client v.server
  weight_is_load = omega (arith, each Ping (q Ping), each Auth (q Auth), each Watches (q Watches), each Plain (q Plain), sum_left weight v.server [] v.client)
    where
      each : (lane : Lane) → IsQueue lane v (queue_on lane w) → queue_weight (queue_on lane w) ≡ left weight v.server lane [] v.client
      each lane e = requests-weight (queue_on lane w) _ e ∙ sym (at_first weight v.server lane v.client)

  pub count_is_waiting : count_of w ≡ sum_waiting (λ f. 1) [] v.client v.server
  count_is_waiting = omega (arith, each Ping (q Ping), each Auth (q Auth), each Watches (q Watches), each Plain (q Plain), sum_left (λ f. 1) v.server [] v.client)
    where
      each : (lane : Lane) → IsQueue lane v (queue_on lane w) → length (queue_on lane w) ≡ left (λ f. 1) v.server lane [] v.client
      each lane e = requests-count (queue_on lane w) _ e ∙ sym (at_first (λ f. 1) v.server lane v.client)
