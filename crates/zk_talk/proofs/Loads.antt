-- What the asks that wait weigh, by lanes.
use Rattle.std.proofs.Common.{◌≡◌, ℕ, suc, ◌+◌, ◌≤◌, ◌⊎◌, inl, inr, List, [], ◌∷◌, ◌++◌, length, refl, sym, ap, ◌∙◌, subst, arith, append_assoc, Bool, true, false, filter, cond}
use Rattle.std.proofs.{lemmas.List.append-nil, lemmas.Bool.cases_Bool, lemmas.Bool.le-leb}
use Rattle.zk_asks.specs.Held.{ClientFrame}
use Rattle.zk_asks.specs.declared.frame.ClientFrameOf.TheVariants.{Connect, Ask}
use Rattle.zk_answers.specs.Held.{ServerFrame}
use Rattle.zk_answers.specs.declared.frame.ServerFrameOf.TheVariants.{Connected, Answered, Event}
use Rattle.zk_waiting.specs.{declared.lane.Lane.Lane, Lane.lane_of, Lane.same_lane}
use Rattle.zk_waiting.specs.declared.lane.Lane.TheVariants.{Ping, Auth, Watches, Plain}
use Rattle.zk_talk.specs.Splits.{EachAfter}
use Rattle.zk_talk.specs.Conversation.{is_ask_on, is_reply_on, asks_on, replies_on, ServerMay, Conversation, load, sum_waiting, is_unanswered, weight}
use Rattle.zk_talk.proofs.Turns.{count_cons, count_passes, count_split}

pub sum_push : (of : ClientFrame → ℕ) (asked C : List ClientFrame) (f : ClientFrame) (S : List ServerFrame) → sum_waiting of asked (C ++ f ∷ []) S ≡ sum_waiting of asked C S + (cond (is_unanswered S (asked ++ C) f) (of f) 0)
sum_push of asked [] f S = omega (arith, ap (λ z. cond {A = ℕ} (is_unanswered S z f) (of f) 0) (append-nil asked))
sum_push of asked (x ∷ C) f S = omega (arith, sum_push of (asked ++ x ∷ []) C f S, ap (λ z. cond {A = ℕ} (is_unanswered S z f) (of f) 0) (append_assoc asked (x ∷ []) C))

-- the last element that passes
pub last_passing : {X : Type 0} (p : X → Bool) (xs : List X) → (length (filter p xs) ≡ 0) ⊎ ((a : List X) × (x : X) × (b : List X) × (xs ≡ a ++ x ∷ b) × (p x ≡ true) × (length (filter p xs) ≡ suc (length (filter p a))))
last_passing p [] = inl refl
last_passing {X} p (y ∷ ys) = go (last_passing p ys) (cases_Bool (p y))
  where
    go : ((length (filter p ys) ≡ 0) ⊎ ((a : List X) × (x : X) × (b : List X) × (ys ≡ a ++ x ∷ b) × (p x ≡ true) × (length (filter p ys) ≡ suc (length (filter p a))))) → ((p y ≡ true) ⊎ (p y ≡ false)) →
        (length (filter p (y ∷ ys)) ≡ 0) ⊎ ((a : List X) × (x : X) × (b : List X) × ((y ∷ ys) ≡ a ++ x ∷ b) × (p x ≡ true) × (length (filter p (y ∷ ys)) ≡ suc (length (filter p a))))
    go (inl none) (inl t) = inr ([], y, ys, refl, t, count_passes p y ys t ∙ ap suc none)
    go (inl none) (inr f) = inl (count_cons p y ys ∙ ap (λ z. cond {A = ℕ} z 1 0 + length (filter p ys)) f ∙ omega arith)
    go (inr w) t = inr (y ∷ w.0, w.1, w.2, ap (λ z. y ∷ z) w.3, w.4, count_cons p y ys ∙ omega (arith, w.5, count_cons p y w.0))

pub lanes_same : (k l : Lane) → same_lane k l ≡ true → k ≡ l
lanes_same Ping Ping e = refl
lanes_same Auth Auth e = refl
lanes_same Watches Watches e = refl
lanes_same Plain Plain e = refl
lanes_same _ _ e = absurd (cc)

-- a lane has no more replies than asks
pub replies_in_asks : (v : Conversation) (lane : Lane) → EachAfter (ServerMay v.client) v.server → replies_on lane v.server ≤ asks_on lane v.client
replies_in_asks v lane each = go (last_passing (is_reply_on lane) v.server)
  where
    of_last : (C : List ClientFrame) (a : List ServerFrame) (x : ServerFrame) → is_reply_on lane x ≡ true → ServerMay C a x → suc (replies_on lane a) ≤ asks_on lane C
    of_last C a (Connected t g) e m = absurd (cc)
    of_last C [] (Answered r) e m = absurd m
    of_last C (y ∷ ys) (Answered r) e m =
        let w = m.1 in
        let same = lanes_same lane (lane_of r.xid) e in
        let counts = subst (λ l. asks_on l w.asked ≡ replies_on l (y ∷ ys)) (sym same) w.counts in
        omega (arith, counts, ap (asks_on lane) w.stands, count_split (is_ask_on lane) w.asked (Ask r.xid w.ask) w.after e)
    of_last C a (Event z k) e m = absurd (cc)

    go : ((length (filter (is_reply_on lane) v.server) ≡ 0) ⊎ ((a : List ServerFrame) × (x : ServerFrame) × (b : List ServerFrame) × (v.server ≡ a ++ x ∷ b) × (is_reply_on lane x ≡ true) × (length (filter (is_reply_on lane) v.server) ≡ suc (length (filter (is_reply_on lane) a))))) → replies_on lane v.server ≤ asks_on lane v.client
    go (inl none) = omega arith
    go (inr w) = omega (arith, w.5, of_last v.client w.0 w.1 w.4 (each w.0 w.1 w.2 w.3))

-- a new ask waits
pub load_ask : (v : Conversation) (f : ClientFrame) → EachAfter (ServerMay v.client) v.server → load (v.client ++ f ∷ []) v.server ≡ load v.client v.server + weight f
load_ask v f each = sum_push weight [] v.client f v.server ∙ ap (λ z. load v.client v.server + z) (go f)
  where
    go : (f : ClientFrame) → cond {A = ℕ} (is_unanswered v.server v.client f) (weight f) 0 ≡ weight f
    go (Connect t g) = refl
    go (Ask xid ask) = ap (λ b. cond {A = ℕ} b (weight (Ask xid ask)) 0) (le-leb (replies_on (lane_of xid) v.server) (asks_on (lane_of xid) v.client) (replies_in_asks v (lane_of xid) each))
