-- Where the talk refuses a frame because too much waits, the frame is a request of the profile.
use Rattle.std.proofs.Common.{◌≡◌, ◌≢◌, ℕ, ◌+◌, ◌<◌, ◌≤◌, ◌^◌, ◌⊎◌, inl, inr, List, [], ◌∷◌, ◌++◌, length, drop, refl, sym, ap, ◌∙◌, subst, arith, append_assoc}
use Rattle.std.proofs.lemmas.List.{append-nil}
use Rattle.zk_jute.specs.{declared.fault.Reason.Reason, declared.fault.Reason.TheVariants.QueueFull}
use Rattle.zk_frames.specs.Framing.{frame}
use Rattle.zk_frames.proofs.Cuts.{same_frame}
use Rattle.zk_talk.specs.{declared.message.Side.Side, declared.message.Fault.Fault, declared.limits.Limits.Limits, Conversation.Conversation, Conversation.weight, Good.Good, Good.IsGood, Held.Message}
use Rattle.zk_talk.specs.declared.message.Side.TheVariants.{Client, Server}
use Rattle.zk_talk.specs.{History.History, History.side_bytes, History.on, Fault.IsFaultOf, Fault.IsCause, Fault.IsClientFault, Fault.IsServerFault, Fault.rest_on}
use Rattle.zk_talk.specs.Fault.IsCause.{stream_end, length_range, payload_fault}
use Rattle.zk_talk.specs.Fault.IsClientFault.{connect_fault, ask_fault, queue_full}
use Rattle.zk_talk.specs.Fault.IsServerFault.{no_connect, connected_fault, head_fault, event_fault, unasked, wrong_xid, reply_fault}
use Rattle.zk_talk.proofs.{GoodFronts.good_front, Headline.same_good, Small.small_limits, Standing.runs_client, Standing.frame_front, Standing.bytes-on}
use Rattle.zk_through.specs.{Came.Came, Came.told, Runs.ThroughState, Runs.Runs, Runs.IsRequestOf, Runs.IsNoRequest}
use Rattle.zk_through.proofs.{AskReasons.of_items, AskReasons.of_flagged, AskReasons.of_ask, AnswerReasons.of_reply, AnswerReasons.of_event, Fitting.its_good, Fitting.begins, Seen.client_counts}

-- ---- Where the fault's byte is
heads : {X : Type 0} (x y : X) (xs ys : List X) → x ∷ xs ≡ y ∷ ys → x ≡ y
heads x y xs ys e = cc

split : {X : Type 0} (xs ys zs : List X) (w : X) (ws : List X) → xs ++ ys ≡ zs ++ w ∷ ws → ((u : List X) × (zs ≡ xs ++ u) × (ys ≡ u ++ w ∷ ws)) ⊎ ((u : List X) × (xs ≡ zs ++ w ∷ u))
split [] ys zs w ws e = inl (zs, refl, e)
split (x ∷ xs) ys [] w ws e = inr (xs, ap (λ z. z ∷ xs) (heads x w (xs ++ ys) ws e))
split (x ∷ xs) ys (z ∷ zs) w ws e = go (split xs ys zs w ws (ap (drop 1) e))
  where
    go : (((u : _) × (zs ≡ xs ++ u) × (ys ≡ u ++ w ∷ ws)) ⊎ ((u : _) × (xs ≡ zs ++ w ∷ u))) → (((u : _) × (z ∷ zs ≡ (x ∷ xs) ++ u) × (ys ≡ u ++ w ∷ ws)) ⊎ ((u : _) × (x ∷ xs ≡ (z ∷ zs) ++ w ∷ u)))
    go (inl a) = inl (a.0, (λ i. heads z x (zs ++ w ∷ ws) (xs ++ ys) (sym e) i ∷ a.1 i), a.2)
    go (inr a) = inr (a.0, (λ i. heads x z (xs ++ ys) (zs ++ w ∷ ws) e i ∷ a.1 i))

-- a byte of a side's piece
place_on : (side : Side) (bs : List ℕ) (u : History) (w : Side × ℕ) (ws : History) → on side bs ≡ u ++ w ∷ ws → (x : List ℕ) × (y : List ℕ) × (u ≡ on side x) × (w.0 ≡ side) × (bs ≡ x ++ w.1 ∷ y)
place_on side [] [] w ws e = absurd (omega (arith, ap length e))
place_on side [] (v ∷ u) w ws e = absurd (omega (arith, ap length e))
place_on side (b ∷ bs) [] w ws e =
    let same = heads (side, b) w (on side bs) ws e in
    ([], bs, refl, ap (λ (z : Side × ℕ). z.0) (sym same), ap (λ (z : Side × ℕ). z.1 ∷ bs) same)
place_on side (b ∷ bs) (v ∷ u) w ws e =
    let r = place_on side bs u w ws (ap (drop 1) e) in
    (b ∷ r.0, r.1, (λ i. heads v (side, b) (u ++ w ∷ ws) (on side bs) (sym e) i ∷ r.2 i), r.3, ap (λ z. b ∷ z) r.4)

-- ---- The talk's own faults
of_server : {v : Conversation} {p : List ℕ} {place : ℕ} {reason : Reason} → IsServerFault v p place reason → reason ≢ QueueFull
of_server (no_connect s c z r) e = absurd cc
of_server (connected_fault s c f) e = of_flagged f e
of_server (head_fault s f) e = of_items f e
of_server (event_fault s header rest h x f) e = of_event f e
of_server (unasked s header rest h x less z r) e = absurd cc
of_server (wrong_xid s header rest h x next ask is other z r) e = absurd cc
of_server (reply_fault s header rest h x ask is f) e = of_reply f e

server_cause : {limits : Limits} {v : Conversation} {n : ℕ} {rest : List ℕ} {byte place : ℕ} {reason : Reason} → IsCause limits v Server n rest byte place reason → reason ≢ QueueFull
server_cause (stream_end a z r) e = absurd cc
server_cause (length_range a bad z r) e = absurd cc
server_cause (payload_fault a p w l f) e = of_server f e

-- a request of the profile, which is the frame that the byte makes whole
record IsHeavy (limits : Limits) (v : Conversation) (bytes : List ℕ) : Type 0 where
  pub p : List ℕ
  pub whole : bytes ≡ frame p
  pub fits : length p ≤ limits.client
  pub later : v.client ≢ []
  pub size : ℕ
  pub is : IsRequestOf limits.profile p size

of_client : {limits : Limits} {v : Conversation} {bytes p : List ℕ} {place : ℕ} {reason : Reason} → bytes ≡ frame p → length p ≤ limits.client → IsClientFault limits v p place reason → reason ≡ QueueFull → IsHeavy limits v bytes
of_client w l (connect_fault none f) e = absurd (of_flagged f e)
of_client w l (ask_fault some f) e = absurd (of_ask f e)
of_client {limits} {v} {bytes} {p} w l (queue_full some g later sent of is heavy z r) e = record { p = p; whole = w; fits = l; later = some; size = weight g; is = (g, later, sent, of, is, refl) }

client_cause : {limits : Limits} {v : Conversation} {n : ℕ} {rest : List ℕ} {byte place : ℕ} {reason : Reason} → IsCause limits v Client n rest byte place reason → reason ≡ QueueFull → IsHeavy limits v (rest ++ byte ∷ [])
client_cause (stream_end a z r) e = absurd cc
client_cause (length_range a bad z r) e = absurd cc
client_cause (payload_fault a p w l f) e = of_client w l f e

-- ---- The frame that is refused
module _ (t : ThroughState) (h : History) (c k : Came) (M : List Message) (r : Runs t h c k M) (q : List ℕ) (f : Fault) (full : f.reason ≡ QueueFull) where
  not_before : (side : Side) (is : IsFaultOf t.talk.limits (told k ++ on side (frame q)) f) (u : History) → told k ≡ is.before ++ (f.side, is.byte) ∷ u → ⊥
  not_before side is u e =
      let front : IsGood t.talk.limits (told k) = (r.stands.conversation, [], [], its_good t h c k M r) in
      is.bad (good_front t.talk.limits (is.before ++ (f.side, is.byte) ∷ []) u (subst (IsGood t.talk.limits) (e ∙ sym (append_assoc is.before ((f.side, is.byte) ∷ []) u)) front))

  -- the fault is in the frame
  within_frame : (side : Side) (is : IsFaultOf t.talk.limits (told k ++ on side (frame q)) f) → ((x y : List ℕ) → is.before ≡ told k ++ on side x → f.side ≡ side → frame q ≡ x ++ is.byte ∷ y → ⊥) → ⊥
  within_frame side is never = go (split (told k) (on side (frame q)) is.before (f.side, is.byte) is.after is.stands)
    where
      go : (((u : History) × (is.before ≡ told k ++ u) × (on side (frame q) ≡ u ++ (f.side, is.byte) ∷ is.after)) ⊎ ((u : History) × (told k ≡ is.before ++ (f.side, is.byte) ∷ u))) → ⊥
      go (inr a) = not_before side is a.0 a.1
      go (inl a) =
          let pl = place_on side (frame q) a.0 (f.side, is.byte) is.after a.2 in
          never pl.0 pl.1 (a.1 ∙ ap (λ (z : History). told k ++ z) pl.2) pl.3 pl.4

  pub server_never : IsFaultOf t.talk.limits (told k ++ on Server (frame q)) f → ⊥
  server_never is =
      within_frame Server is (λ x y at side parts. server_cause (subst (λ (s : Side). IsCause t.talk.limits is.conversation s (length (side_bytes s is.before)) (rest_on s is.client_rest is.server_rest) is.byte is.place f.reason) side is.cause) full)

  module _ (fits : length q ≤ t.talk.limits.client) (none : IsNoRequest t.talk.limits.profile c Client q) (is : IsFaultOf t.talk.limits (told k ++ on Client (frame q)) f) where
    in_it : (x y : List ℕ) → is.before ≡ told k ++ on Client x → f.side ≡ Client → frame q ≡ x ++ is.byte ∷ y → ⊥
    in_it x y at side parts =
        let limits = t.talk.limits in
        let small = small_limits limits in
        let old = r.stands.conversation in
        let size : length (side_bytes Client (told k)) + length x < 2 ^ 62 = omega (arith, is.good.client_size, ap (λ (z : History). length (side_bytes Client z)) at, bytes-on Client x (told k)) in
        let goes = runs_client limits small old M x (told k) [] [] (record { good = its_good t h c k M r; order = r.stands.order }) (frame_front limits.client x y q is.byte fits (sym parts)) size in
        let here : Good limits is.before old x [] = subst (λ (z : History). Good limits z old x []) (sym at) goes.good in
        let same = same_good limits small is.before is.conversation old is.client_rest is.server_rest x [] is.good here in
        let cause = client_cause (subst (λ (s : Side). IsCause limits is.conversation s (length (side_bytes s is.before)) (rest_on s is.client_rest is.server_rest) is.byte is.place f.reason) side is.cause) full in
        let whole : x ++ is.byte ∷ [] ≡ frame cause.p = ap (λ (z : List ℕ). z ++ is.byte ∷ []) (sym same.1) ∙ cause.whole in
        let both : frame cause.p ++ y ≡ frame q ++ [] = ap (λ (z : List ℕ). z ++ y) (sym whole) ∙ append_assoc x (is.byte ∷ []) y ∙ sym parts ∙ sym (append-nil (frame q)) in
        let it = (same_frame limits.client cause.p q y [] small.0 cause.fits fits both).0 in
        let begun = begins t h c k M r (λ empty. cause.later (ap (λ (z : Conversation). z.client) same.0 ∙ empty)) in
        none (λ empty. omega (arith, begun, client_counts t h c k M r, ap length empty)) cause.size (subst (λ (z : List ℕ). IsRequestOf limits.profile z cause.size) it cause.is)

    pub client_never : ⊥
    client_never = within_frame Client is in_it
