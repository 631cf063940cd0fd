-- The numbers of the requests that wait, and which frame the newest of the server's answers, after a frame more.
use Rattle.std.proofs.Common.{◌≡◌, ℕ, suc, ◌+◌, ◌≤◌, List, [], ◌∷◌, ◌++◌, length, map, drop, refl, sym, ap, ◌∙◌, subst, arith, append_assoc, length-append, Bool, true, false, filter, cond, Option, Some, None}
use Rattle.std.specs.Prelude.{slice_get}
use Rattle.std.proofs.lemmas.List.{append-nil, drop-append-le, drop-drop, map-append, same_from_push, length_push}
use Rattle.zk_records.specs.declared.profile.Profile.{Profile}
use Rattle.zk_asks.specs.{Held.ClientFrame, Rows.op_of_ask, Frames.ops_of_ask}
use Rattle.zk_asks.specs.declared.frame.ClientFrameOf.TheVariants.{Connect, Ask}
use Rattle.zk_answers.specs.{Held.Reply, Held.ServerFrame, Frames.IsEvent}
use Rattle.zk_answers.specs.declared.frame.ServerFrameOf.TheVariants.{Connected, Answered, Event}
use Rattle.zk_waiting.specs.{declared.lane.Lane.Lane, Lane.lane_of, Waiting.Request, Waiting.Lanes, Waiting.queue_on}
use Rattle.zk_talk.specs.{declared.replied.Replied.Replied, Splits.EachAfter, Judged.IsNumbered, Judged.HasAsk, Judged.IsForgotten, Judged.TellsReplied}
use Rattle.zk_talk.specs.Conversation.{Conversation, ServerMay, IsConversation, IsAnswered, with_client, with_server, is_ask_on, is_reply_on, asks_on, replies_on}
use Rattle.zk_talk.specs.Numbers.{numbers_from, HaveNumbers, AreNumbered, AnswersFrame, IsNewest}
use Rattle.zk_talk.proofs.{Turns.count_cons, Turns.same_lane-itself, Loads.replies_in_asks, Lanes.with_put, Lanes.with_drop, Lanes.front_some, Queues.filter-skip, Queues.filter-keep}

-- ---- the numbers of a lane's asks

-- one frame more has the number of those before it
numbers_push : (number : ℕ) (lane : Lane) (C : List ClientFrame) (f : ClientFrame) → numbers_from number lane (C ++ f ∷ []) ≡ numbers_from number lane C ++ cond (is_ask_on lane f) ((number + length C) ∷ []) []
numbers_push number lane [] f = go (is_ask_on lane f) (number + 0) (omega arith)
  where
    go : (b : Bool) (n : ℕ) → n ≡ number → cond b (number ∷ []) [] ≡ cond b (n ∷ []) []
    go true n e = ap (λ z. z ∷ []) (sym e)
    go false n e = refl
numbers_push number lane (c ∷ C) f = go (is_ask_on lane c) (numbers_push (number + 1) lane C f ∙ ap (λ z. numbers_from (number + 1) lane C ++ cond (is_ask_on lane f) (z ∷ []) []) same)
  where
    same : number + 1 + length C ≡ number + length (c ∷ C)
    same = omega arith

    last : List ℕ
    last = cond (is_ask_on lane f) ((number + length (c ∷ C)) ∷ []) []

    go : (b : Bool) → numbers_from (number + 1) lane (C ++ f ∷ []) ≡ numbers_from (number + 1) lane C ++ last →
        cond b (number ∷ numbers_from (number + 1) lane (C ++ f ∷ [])) (numbers_from (number + 1) lane (C ++ f ∷ [])) ≡ cond b (number ∷ numbers_from (number + 1) lane C) (numbers_from (number + 1) lane C) ++ last
    go true e = ap (λ z. number ∷ z) e
    go false e = e

numbers_length : (number : ℕ) (lane : Lane) (C : List ClientFrame) → length (numbers_from number lane C) ≡ asks_on lane C
numbers_length number lane [] = refl
numbers_length number lane (c ∷ C) = go (is_ask_on lane c) (numbers_length (number + 1) lane C) ∙ sym (count_cons (is_ask_on lane) c C)
  where
    go : (b : Bool) → length (numbers_from (number + 1) lane C) ≡ asks_on lane C →
        length (cond b (number ∷ numbers_from (number + 1) lane C) (numbers_from (number + 1) lane C)) ≡ cond {A = ℕ} b 1 0 + asks_on lane C
    go true e = omega (arith, e)
    go false e = omega (arith, e)

-- behind those of the asks before it stands an ask's own
numbers_at : (number : ℕ) (lane : Lane) (a : List ClientFrame) (x : ClientFrame) (b : List ClientFrame) → is_ask_on lane x ≡ true →
    (rest : List ℕ) × (drop (asks_on lane a) (numbers_from number lane (a ++ x ∷ b)) ≡ (number + length a) ∷ rest)
numbers_at number lane [] x b on =
    let same : number ≡ number + 0 = omega arith in
    (numbers_from (number + 1) lane b, ap (λ z. cond z (number ∷ numbers_from (number + 1) lane b) (numbers_from (number + 1) lane b)) on ∙ ap (λ z. z ∷ numbers_from (number + 1) lane b) same)
numbers_at number lane (c ∷ a) x b on =
    let next = numbers_at (number + 1) lane a x b on in
    let same : number + 1 + length a ≡ number + length (c ∷ a) = omega arith in
    (next.0, go (is_ask_on lane c) refl (next.1 ∙ ap (λ z. z ∷ next.0) same))
  where
    xs : List ℕ
    xs = numbers_from (number + 1) lane (a ++ x ∷ b)

    one : cond {A = ℕ} true 1 0 + asks_on lane a ≡ suc (asks_on lane a)
    one = omega arith

    none : cond {A = ℕ} false 1 0 + asks_on lane a ≡ asks_on lane a
    none = omega arith

    go : {ys : List ℕ} (t : Bool) → is_ask_on lane c ≡ t → drop (asks_on lane a) xs ≡ ys → drop (asks_on lane (c ∷ a)) (cond (is_ask_on lane c) (number ∷ xs) xs) ≡ ys
    go true t e = ap (λ n. drop n (cond (is_ask_on lane c) (number ∷ xs) xs)) (count_cons (is_ask_on lane) c a ∙ ap (λ z. cond {A = ℕ} z 1 0 + asks_on lane a) t ∙ one) ∙ ap (λ z. drop (suc (asks_on lane a)) (cond z (number ∷ xs) xs)) t ∙ e
    go false t e = ap (λ n. drop n (cond (is_ask_on lane c) (number ∷ xs) xs)) (count_cons (is_ask_on lane) c a ∙ ap (λ z. cond {A = ℕ} z 1 0 + asks_on lane a) t ∙ none) ∙ ap (λ z. drop (asks_on lane a) (cond z (number ∷ xs) xs)) t ∙ e

-- ---- a lane's numbers after a frame more

abbrev frames_of : List Request → List ℕ
frames_of queue = map (λ (r : Request). r.frame) queue

have_ask : (lane : Lane) (v : Conversation) (queue : List Request) (r : Request) (f : ClientFrame) → EachAfter (ServerMay v.client) v.server → is_ask_on lane f ≡ true → r.frame ≡ length v.client →
    HaveNumbers lane v queue → HaveNumbers lane (with_client v f) (queue ++ r ∷ [])
have_ask lane v queue r f each on is h =
    let n = replies_on lane v.server in
    let numbers = numbers_from 0 lane v.client in
    let few : n ≤ length numbers = omega (arith, replies_in_asks v lane each, numbers_length 0 lane v.client) in
    let pushed : numbers_from 0 lane (v.client ++ f ∷ []) ≡ numbers ++ length v.client ∷ [] = numbers_push 0 lane v.client f ∙ ap (λ z. numbers ++ cond z ((0 + length v.client) ∷ []) []) on ∙ ap (λ z. numbers ++ z ∷ []) (omega arith) in
    map-append (λ (x : Request). x.frame) queue (r ∷ []) ∙ (λ i. h i ++ is i ∷ []) ∙ sym (drop-append-le n numbers (length v.client ∷ []) few) ∙ ap (drop n) (sym pushed)

have_skip : (lane : Lane) (v : Conversation) (queue : List Request) (f : ClientFrame) → is_ask_on lane f ≡ false → HaveNumbers lane v queue → HaveNumbers lane (with_client v f) queue
have_skip lane v queue f off h =
    let numbers = numbers_from 0 lane v.client in
    let same : numbers_from 0 lane (v.client ++ f ∷ []) ≡ numbers = numbers_push 0 lane v.client f ∙ ap (λ z. numbers ++ cond z ((0 + length v.client) ∷ []) []) off ∙ append-nil numbers in
    h ∙ ap (drop (replies_on lane v.server)) (sym same)

have_keep : (lane : Lane) (v : Conversation) (queue : List Request) (s : ServerFrame) → is_reply_on lane s ≡ false → HaveNumbers lane v queue → HaveNumbers lane (with_server v s) queue
have_keep lane v queue s off h = h ∙ ap (λ z. drop (length z) (numbers_from 0 lane v.client)) (sym (filter-skip (is_reply_on lane) v.server s off))

have_pop : (lane : Lane) (v : Conversation) (x : Request) (queue : List Request) (s : ServerFrame) → is_reply_on lane s ≡ true → HaveNumbers lane v (x ∷ queue) → HaveNumbers lane (with_server v s) queue
have_pop lane v x queue s on h =
    let n = replies_on lane v.server in
    let numbers = numbers_from 0 lane v.client in
    let more : replies_on lane (v.server ++ s ∷ []) ≡ n + 1 = ap length (filter-keep (is_reply_on lane) v.server s on) ∙ length-append (filter (is_reply_on lane) v.server) (s ∷ []) in
    ap (drop 1) h ∙ drop-drop 1 n numbers ∙ ap (λ z. drop z numbers) (sym more)

module _ (v : Conversation) (w x : Lanes) (are : AreNumbered v w) where
  pub numbers_after_client : (f : ClientFrame) (number : ℕ) → EachAfter (ServerMay v.client) v.server → number ≡ length v.client → IsNumbered number f w x → AreNumbered (with_client v f) x
  numbers_after_client (Connect t g) number each is e k = subst (λ z. HaveNumbers k (with_client v (Connect t g)) (queue_on k z)) (sym e) (have_skip k v (queue_on k w) (Connect t g) refl (are k))
  numbers_after_client (Ask xid ask) number each is e k =
      let f = Ask xid ask in
      let r : Request = record { xid = xid; op = op_of_ask ask; parts = ops_of_ask ask; frame = number } in
      with_put (HaveNumbers k (with_client v f)) k (lane_of xid) w x r e.1 (λ q. have_ask k v (queue_on k w) r f each q is (are k)) (λ q. have_skip k v (queue_on k w) f q (are k))

  pub numbers_after_server : (s : ServerFrame) → HasAsk s w → IsForgotten s w x → AreNumbered (with_server v s) x
  numbers_after_server (Connected t g) a e k = subst (λ z. HaveNumbers k (with_server v (Connected t g)) (queue_on k z)) (sym e) (have_keep k v (queue_on k w) (Connected t g) refl (are k))
  numbers_after_server (Event z y) a e k = subst (λ u. HaveNumbers k (with_server v (Event z y)) (queue_on k u)) (sym e) (have_keep k v (queue_on k w) (Event z y) refl (are k))
  numbers_after_server (Answered r) a e k =
      with_drop (HaveNumbers k (with_server v (Answered r))) k (lane_of r.xid) w x a.0 a.1 e (λ q rest queue. have_pop k v a.0 rest (Answered r) q (subst (HaveNumbers k v) queue (are k))) (λ q. have_keep k v (queue_on k w) (Answered r) q (are k))

-- ---- the newest

-- more of the client's frames change nothing of it
answers_still : (v : Conversation) (f : ClientFrame) (number : ℕ) → AnswersFrame v number → AnswersFrame (with_client v f) number
answers_still v f number a = record {
  sent = a.sent;
  newest = a.newest;
  server = a.server;
  asked = a.asked;
  ask = a.ask;
  after = a.after ++ f ∷ [];
  client = ap (λ z. z ++ f ∷ []) a.client ∙ append_assoc a.asked (a.ask ∷ a.after) (f ∷ []);
  answers = a.answers;
  is = a.is;
}

pub newest_still : (v : Conversation) (f : ClientFrame) (told : Option Replied) → IsNewest v told → IsNewest (with_client v f) told
newest_still v f (Some request) a = answers_still v f request.frame a
newest_still v f None a = ((λ one. answers_still v f 0 (a.0 one)), a.1)

-- the oldest of a reply's lane has the number of the frame that the reply answers
oldest_number : (v : Conversation) (w : Lanes) → AreNumbered v w → (r : Reply) (sent : List ServerFrame) → sent ≡ v.server → (a : IsAnswered v.client sent r) (q : Request) → slice_get (queue_on (lane_of r.xid) w) 0 ≡ Some q → q.frame ≡ length a.asked
oldest_number v w are r sent same a q some =
    let lane = lane_of r.xid in
    let first = front_some (queue_on lane w) q some in
    let at = numbers_at 0 lane a.asked (Ask r.xid a.ask) a.after (same_lane-itself lane) in
    let counts : replies_on lane v.server ≡ asks_on lane a.asked = ap (replies_on lane) (sym same) ∙ sym a.counts in
    let all : q.frame ∷ frames_of first.0 ≡ (0 + length a.asked) ∷ at.0 = ap frames_of (sym first.1) ∙ are lane ∙ (λ i. drop (counts i) (numbers_from 0 lane (a.stands i))) ∙ at.1 in
    let first_is = heads q.frame (0 + length a.asked) (frames_of first.0) at.0 all in
    omega (arith, first_is)
  where
    heads : (m n : ℕ) (ms ns : List ℕ) → m ∷ ms ≡ n ∷ ns → m ≡ n
    heads m n ms ns e = cc

module _ (profile : Profile) (v : Conversation) (w : Lanes) (conversation : IsConversation profile v) (are : AreNumbered v w) where
  first_answered : (s : ServerFrame) (t : _) (g : _) → s ≡ Connected t g → ServerMay v.client v.server s → AnswersFrame (with_server v s) 0 × (v.server ≡ [])
  first_answered s t g e may = go v.client v.server refl refl (subst (ServerMay v.client v.server) e may)
    where
      go : (C : List ClientFrame) (S : List ServerFrame) → v.client ≡ C → v.server ≡ S → ServerMay C S (Connected t g) → AnswersFrame (with_server v s) 0 × (v.server ≡ [])
      go [] [] c e' m = absurd (m.1 refl)
      go (Connect u h ∷ C) [] c e' m = (
        record { sent = []; newest = Connected t g; server = (λ i. e' i ++ e i ∷ []); asked = []; ask = Connect u h; after = C; client = c; answers = tt; is = refl },
        e',
      )
      go (Ask xid ask ∷ C) [] c e' m = absurd ((conversation.client [] (Ask xid ask) C c).0)
      go C (y ∷ S) c e' m = absurd m

  pub newest_after : (s : ServerFrame) (told : Option Replied) → ServerMay v.client v.server s → TellsReplied s w told → IsNewest (with_server v s) told
  newest_after (Connected t g) told may tells =
      let x = first_answered (Connected t g) t g refl may in
      let one : length (v.server ++ Connected t g ∷ []) ≡ 1 = omega (arith, length_push v.server (Connected t g), ap length x.1) in
      subst (IsNewest (with_server v (Connected t g))) (sym tells) ((λ _. x.0), (λ not. absurd (not one)))
  newest_after (Answered r) told may tells = subst (IsNewest (with_server v (Answered r))) (sym tells.2) (go v.server refl may)
    where
      go : (S : List ServerFrame) → S ≡ v.server → ServerMay v.client S (Answered r) → AnswersFrame (with_server v (Answered r)) tells.0.frame
      go [] e m = absurd m
      go (y ∷ S) e m =
          let a = m.1 in
          record {
            sent = v.server;
            newest = Answered r;
            server = refl;
            asked = a.asked;
            ask = Ask r.xid a.ask;
            after = a.after;
            client = a.stands;
            answers = (refl, a.counts ∙ ap (replies_on (lane_of r.xid)) e);
            is = oldest_number v w are r (y ∷ S) e a tells.0 tells.1;
          }
  newest_after (Event zxid event) told may tells = subst (IsNewest (with_server v (Event zxid event))) (sym tells) ((λ one. absurd (go v.server may one)), (λ _ sent newest e. subst IsEvent (same_from_push v.server sent (Event zxid event) newest e).1 tt))
    where
      go : (S : List ServerFrame) → ServerMay v.client S (Event zxid event) → length (S ++ Event zxid event ∷ []) ≡ 1 → ⊥
      go [] m one = m
      go (y ∷ S) m one = absurd (omega (arith, one, length_push S (Event zxid event)))
