-- How many requests wait in the talk, with one frame more.
use Rattle.std.proofs.Common.{◌≡◌, ◌≢◌, ℕ, ◌+◌, ◌-◌, ◌≤◌, ℤ, List, [], ◌∷◌, ◌++◌, length, filter, refl, ap, ◌∙◌, arith, append_assoc, length-append, Bool, true, false, cond}
use Rattle.std.specs.Prelude.{negsuc, if◌then◌else◌}
use Rattle.std.specs.Ordering.{int_eq}
use Rattle.std.proofs.{lemmas.Bool.le-leb, lemmas.Bool.Decides.Decides-int_eq, lemmas.List.length-drop, lemmas.List.Elements.filter-append}
use Rattle.zk_jute.specs.Item.{int_bytes, long_bytes}
use Rattle.zk_jute.proofs.{Numbers.len32, Numbers.len64, Runs.first_from}
use Rattle.zk_asks.specs.{Held.ClientFrame, Frames.IsLater}
use Rattle.zk_asks.specs.declared.frame.ClientFrameOf.TheVariants.{Connect, Ask}
use Rattle.zk_answers.specs.Held.{Reply, ServerFrame}
use Rattle.zk_answers.specs.declared.frame.ServerFrameOf.TheVariants.{Connected, Answered, Event}
use Rattle.zk_answers.specs.Frames as answers
use Rattle.zk_waiting.specs.{declared.lane.Lane.Lane, Lane.lane_of, Lane.same_lane}
use Rattle.zk_waiting.specs.declared.lane.Lane.TheVariants.{Ping, Auth, Watches, Plain}
use Rattle.zk_waiting.specs.Waiting.{Lanes, queue_on, weight_of, count_of}
use Rattle.zk_waiting.proofs.Weights.{length_within_weight}
use Rattle.zk_talk.specs.{Splits.EachAfter, Payloads.server_payload, Queues.IsQueue}
use Rattle.zk_talk.specs.Conversation.{Conversation, ServerMay, is_ask_on, is_reply_on, asks_on, replies_on}
use Rattle.zk_talk.proofs.{Loads.replies_in_asks, Payloads.reply_head_is, Queues.requests-length, Turns.count_cons}
use Rattle.zk_through.specs.LeftOut.{xid_of, is_turn_xid, has_turn}

-- ---- A reply's header
not_event : (xid : ℤ) → xid ≢ negsuc 0 → is_turn_xid xid ≡ true
unfolding is_turn_xid
not_event xid other = go (int_eq xid (negsuc 0)) refl
  where
    go : (b : Bool) → int_eq xid (negsuc 0) ≡ b → (if b then false else true) ≡ true
    go true e = absurd (other ((Decides-int_eq xid (negsuc 0)).0 e))
    go false e = refl

pub reply_has_turn : (r : Reply) (q : List ℕ) → answers.IsSent (Answered r) → server_payload (Answered r) ≡ q → has_turn 16 q ≡ true
unfolding has_turn
reply_has_turn r q sent is =
    let head = reply_head_is q r sent is in
    let x = head.header in
    let more : List ℕ = long_bytes x.zxid ++ (int_bytes x.err ++ []) in
    let parts : q ≡ int_bytes x.xid ++ (more ++ head.rest) = head.is.1 ∙ append_assoc (int_bytes x.xid) more head.rest in
    let xid : xid_of q ≡ r.xid = first_from x.xid q (more ++ head.rest) head.is.0.0 parts ∙ head.xid_is in
    let long : 16 ≤ length q =
    omega (arith, ap length parts, length-append (int_bytes x.xid) (more ++ head.rest), length-append more head.rest, length-append (long_bytes x.zxid) (int_bytes x.err ++ []), length-append (int_bytes x.err) [], len32 x.xid, len64 x.zxid, len32 x.err) in
    ap (λ z. if z then is_turn_xid (xid_of q) else false) (le-leb 16 (length q) long) ∙ ap is_turn_xid xid ∙ not_event r.xid sent.0

-- ---- Each lane's
push_count : {X : Type 0} (p : X → Bool) (xs : List X) (x : X) → length (filter p (xs ++ x ∷ [])) ≡ length (filter p xs) + cond {A = ℕ} (p x) 1 0
push_count p xs x = ap length (filter-append p xs (x ∷ [])) ∙ length-append (filter p xs) (filter p (x ∷ [])) ∙ ap (λ z. length (filter p xs) + z) (count_cons p x [] ∙ omega arith)

lane_count : (v : Conversation) (w : Lanes) (q : (lane : Lane) → IsQueue lane v (queue_on lane w)) (lane : Lane) → length (queue_on lane w) ≡ asks_on lane v.client - replies_on lane v.server
lane_count v w q lane = requests-length (queue_on lane w) _ (q lane) ∙ length-drop (replies_on lane v.server) (filter (is_ask_on lane) v.client)

-- of the four lanes, those that pass
abbrev number : (Lane → Bool) → ℕ
number f = cond {A = ℕ} (f Ping) 1 0 + cond {A = ℕ} (f Auth) 1 0 + cond {A = ℕ} (f Watches) 1 0 + cond {A = ℕ} (f Plain) 1 0

one_of : (l : Lane) → number (λ k. same_lane k l) ≡ 1
one_of Ping = refl
one_of _ = refl

-- no reply
abbrev pub IsNoReply : ServerFrame → Type 0
IsNoReply (Connected hello read_only) = Unit {0}
IsNoReply (Answered reply) = ⊥
IsNoReply (Event zxid event) = Unit {0}

module _ (v u : Conversation) (w x : Lanes) (q : (lane : Lane) → IsQueue lane v (queue_on lane w)) (r : (lane : Lane) → IsQueue lane u (queue_on lane x)) where
  module _ (f : ClientFrame) (client : u.client ≡ v.client ++ f ∷ []) (server : u.server ≡ v.server) (may : EachAfter (ServerMay v.client) v.server) where
    on_client : (lane : Lane) → length (queue_on lane x) ≡ length (queue_on lane w) + cond {A = ℕ} (is_ask_on lane f) 1 0
    on_client lane = omega (arith, lane_count v w q lane, lane_count u x r lane, ap (asks_on lane) client, ap (replies_on lane) server, push_count (is_ask_on lane) v.client f, replies_in_asks v lane may)

    all_client : count_of x ≡ count_of w + number (λ lane. is_ask_on lane f)
    all_client = omega (arith, on_client Ping, on_client Auth, on_client Watches, on_client Plain)

    pub count_kept : count_of w ≤ count_of x
    count_kept = omega (arith, all_client)

    pub count_ask : IsLater f → count_of x ≡ count_of w + 1
    count_ask later = all_client ∙ ap (λ n. count_of w + n) (one f later)
      where
        one : (f : ClientFrame) → IsLater f → number (λ lane. is_ask_on lane f) ≡ 1
        one (Connect hello read_only) later = absurd later
        one (Ask xid ask) later = one_of (lane_of xid)

  module _ (s : ServerFrame) (client : u.client ≡ v.client) (server : u.server ≡ v.server ++ s ∷ []) where
    on_server : (lane : Lane) → length (queue_on lane w) ≤ length (queue_on lane x) + cond {A = ℕ} (is_reply_on lane s) 1 0
    on_server lane = omega (arith, lane_count v w q lane, lane_count u x r lane, ap (asks_on lane) client, ap (replies_on lane) server, push_count (is_reply_on lane) v.server s)

    all_server : count_of w ≤ count_of x + number (λ lane. is_reply_on lane s)
    all_server = omega (arith, on_server Ping, on_server Auth, on_server Watches, on_server Plain)

    pub count_reply : count_of w ≤ count_of x + 1
    count_reply = omega (arith, all_server, at_most s)
      where
        at_most : (s : ServerFrame) → number (λ lane. is_reply_on lane s) ≤ 1
        at_most (Connected hello read_only) = omega arith
        at_most (Answered reply) = omega (arith, one_of (lane_of reply.xid))
        at_most (Event zxid event) = omega arith

    pub count_still : IsNoReply s → count_of w ≤ count_of x
    count_still none = omega (arith, all_server, nothing s none)
      where
        nothing : (s : ServerFrame) → IsNoReply s → number (λ lane. is_reply_on lane s) ≡ 0
        nothing (Connected hello read_only) none = refl
        nothing (Answered reply) none = absurd none
        nothing (Event zxid event) none = refl

-- ---- The number and the weight
pub count_weighs : (w : Lanes) → count_of w ≤ weight_of w
count_weighs w = omega (arith, length_within_weight w.ping, length_within_weight w.auth, length_within_weight w.watches, length_within_weight w.plain)
