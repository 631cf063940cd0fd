-- Which ask a reply answers, by counts; and that a payload at its place is one frame.
use Rattle.std.proofs.Common.{◌≡◌, ℕ, zero, suc, ◌+◌, List, [], ◌∷◌, ◌++◌, length, drop, refl, sym, ap, ◌∙◌, subst, arith, length-append, Bool, true, false, filter, cond}
use Rattle.std.proofs.lemmas.List.Elements.{filter-append}
use Rattle.zk_records.specs.declared.profile.Profile.{Profile}
use Rattle.zk_asks.specs.{Held.ClientFrame, declared.frame.ClientFrameOf.TheVariants.Ask, Rows.op_of_ask, Frames.ops_of_ask}
use Rattle.zk_answers.specs.{Held.ServerFrame, Held.Reply, Frames.Fits, Frames.IsEvent}
use Rattle.zk_answers.specs.declared.frame.ServerFrameOf.TheVariants.{Connected, Answered, Event}
use Rattle.zk_talk.specs.{Payloads.client_payload, Payloads.server_payload, Splits.EachAfter, Good.client_payloads, Good.server_payloads}
use Rattle.zk_answers.specs.Frames as answers
use Rattle.zk_asks.proofs.{First.first_injective, Later.ask_injective}
use Rattle.zk_answers.proofs.{Connected.connected_injective, Replies.reply_injective, Events.event_injective}
use Rattle.zk_talk.proofs.Payloads.{asks_alike, answers_alike, reply_head_is, reply_no_event, event_head_is, xid_of}
use Rattle.zk_waiting.specs.{declared.lane.Lane.Lane, Lane.lane_of, Lane.same_lane}
use Rattle.zk_waiting.specs.declared.lane.Lane.TheVariants.{Ping, Auth, Watches, Plain}
use Rattle.zk_talk.specs.Conversation.{is_ask_on, asks_on, replies_on, ClientMay, ServerMay, IsAnswered}
use Rattle.zk_talk.proofs.Lists.{same_each}

pub same_lane-itself : (lane : Lane) → same_lane lane lane ≡ true
same_lane-itself Ping = refl
same_lane-itself Auth = refl
same_lane-itself Watches = refl
same_lane-itself Plain = refl

module _ {X : Type 0} (p : X → Bool) where
  -- one more counts where it passes
  pub count_cons : (x : X) (xs : List X) → length (filter p (x ∷ xs)) ≡ (cond (p x) 1 0) + length (filter p xs)
  count_cons x xs = go (p x) refl
    where
      go : (b : Bool) → p x ≡ b → length (cond b (x ∷ filter p xs) (filter p xs)) ≡ (cond b 1 0) + length (filter p xs)
      go true e = omega arith
      go false e = omega arith

  pub count_passes : (x : X) (xs : List X) → p x ≡ true → length (filter p (x ∷ xs)) ≡ suc (length (filter p xs))
  count_passes x xs e = count_cons x xs ∙ ap (λ b. (cond b 1 0) + length (filter p xs)) e ∙ omega arith

  pub count_split : (a : List X) (x : X) (b : List X) → p x ≡ true → length (filter p (a ++ x ∷ b)) ≡ suc (length (filter p a) + length (filter p b))
  count_split a x b e = ap length (filter-append p a (x ∷ b)) ∙ length-append (filter p a) (filter p (x ∷ b)) ∙ ap (λ n. length (filter p a) + n) (count_passes x b e) ∙ omega arith

  -- In a list one element alone passes and has this many that pass before it.
  pub nth_passing : (a₁ : List X) (x₁ : X) (b₁ : List X) (a₂ : List X) (x₂ : X) (b₂ : List X) → a₁ ++ x₁ ∷ b₁ ≡ a₂ ++ x₂ ∷ b₂ → p x₁ ≡ true → p x₂ ≡ true →
      length (filter p a₁) ≡ length (filter p a₂) → (a₁ ≡ a₂) × (x₁ ≡ x₂)
  nth_passing [] x₁ b₁ [] x₂ b₂ e t u n = (refl, cc)
  nth_passing [] x₁ b₁ (y ∷ a₂) x₂ b₂ e t u n =
      let same : x₁ ≡ y = cc in
      absurd (omega (arith, count_passes y a₂ (ap p (sym same) ∙ t)))
  nth_passing (y ∷ a₁) x₁ b₁ [] x₂ b₂ e t u n =
      let same : x₂ ≡ y = cc in
      absurd (omega (arith, count_passes y a₁ (ap p (sym same) ∙ u)))
  nth_passing (y ∷ a₁) x₁ b₁ (z ∷ a₂) x₂ b₂ e t u n =
      let same : y ≡ z = cc in
      let rest : a₁ ++ x₁ ∷ b₁ ≡ a₂ ++ x₂ ∷ b₂ = cc in
      let tests = ap (λ w. cond {A = ℕ} (p w) 1 0) same in
      let r = nth_passing a₁ x₁ b₁ a₂ x₂ b₂ rest t u (omega (arith, count_cons y a₁, count_cons z a₂)) in
      (ap (λ w. w ∷ a₁) same ∙ ap (λ w. z ∷ w) r.0, r.1)

  -- What is left of those that pass, but for the first n, begins with one that has n of them before it.
  pub first_left : (n : ℕ) (xs : List X) (x : X) (rest : List X) → drop n (filter p xs) ≡ x ∷ rest → (a : List X) × (b : List X) × (xs ≡ a ++ x ∷ b) × (length (filter p a) ≡ n) × (p x ≡ true)
  first_left n [] x rest e = absurd (none n e)
    where
      none : (n : ℕ) → drop n [] ≡ x ∷ rest → ⊥
      none zero e = cc
      none (suc n) e = cc
  first_left n (y ∷ ys) x rest e = go (λ m. first_left m ys x rest) (p y) refl n e
    where
      go : ((m : ℕ) → drop m (filter p ys) ≡ x ∷ rest → (a : List X) × (b : List X) × (ys ≡ a ++ x ∷ b) × (length (filter p a) ≡ m) × (p x ≡ true)) → (t : Bool) → p y ≡ t → (n : ℕ) → drop n (cond t (y ∷ filter p ys) (filter p ys)) ≡ x ∷ rest → (a : List X) × (b : List X) × ((y ∷ ys) ≡ a ++ x ∷ b) × (length (filter p a) ≡ n) × (p x ≡ true)
      go ih true t zero e = ([], ys, ap (λ z. z ∷ ys) (cc), refl, ap p (cc) ∙ t)
      go ih true t (suc n) e =
          let r = ih n e in
          (y ∷ r.0, r.1, ap (λ z. y ∷ z) r.2, count_passes y r.0 t ∙ ap suc r.3, r.4)
      go ih false t n e =
          let r = ih n e in
          (y ∷ r.0, r.1, ap (λ z. y ∷ z) r.2, count_cons y r.0 ∙ ap (λ z. cond z 1 0 + length (filter p r.0)) t ∙ omega (arith, r.3), r.4)

-- No two frames that may stand at one place have one payload.
pub client_inj : (profile : Profile) (before : List ClientFrame) (x y : ClientFrame) → ClientMay profile before x → ClientMay profile before y → client_payload x ≡ client_payload y → x ≡ y
client_inj profile [] x y p q e = first_injective x y p.0 q.0 p.1 q.1 (asks_alike x y e)
client_inj profile (f ∷ fs) x y p q e = ask_injective x y p.0 q.0 p.1 q.1 (asks_alike x y e)

-- what two replies answer is the same, where they stand at one place and have one xid
pub same_answered : (client : List ClientFrame) (sent : List ServerFrame) (r q : Reply) → r.xid ≡ q.xid → (a : IsAnswered client sent r) (b : IsAnswered client sent q) → a.ask ≡ b.ask
same_answered client sent r q x a b =
    let lane = lane_of r.xid in
    let lanes : lane_of q.xid ≡ lane = ap lane_of (sym x) in
    let counts : asks_on lane a.asked ≡ asks_on lane b.asked = a.counts ∙ sym (subst (λ l. asks_on l b.asked ≡ replies_on l sent) lanes b.counts) in
    let s = nth_passing (is_ask_on lane) a.asked (Ask r.xid a.ask) a.after b.asked (Ask q.xid b.ask) b.after (sym a.stands ∙ b.stands)
    (same_lane-itself lane) (ap (same_lane lane) lanes ∙ same_lane-itself lane) counts in
    let t = s.1 in
    cc

-- replies, and events, of one payload have one xid
pub reply_xid : (r q : Reply) → answers.IsSent (Answered r) → answers.IsSent (Answered q) → server_payload (Answered r) ≡ server_payload (Answered q) → r.xid ≡ q.xid
reply_xid r q a b e =
    let h = reply_head_is (server_payload (Answered q)) r a e in
    let k = reply_head_is (server_payload (Answered q)) q b refl in
    xid_of (server_payload (Answered q)) r.xid k.header k.rest h k.is ∙ k.xid_is

reply_or_event : (r : Reply) (s : ServerFrame) → answers.IsSent (Answered r) → IsEvent s → answers.IsSent s → server_payload (Answered r) ≡ server_payload s → ⊥
reply_or_event r s a b c e =
    let h = reply_head_is (server_payload s) r a e in
    let k = event_head_is (server_payload s) s b c refl in
    reply_no_event r a (xid_of (server_payload s) r.xid k.header k.rest h k.is ∙ k.xid_is)

pub server_inj : (client : List ClientFrame) (before : List ServerFrame) (x y : ServerFrame) → ServerMay client before x → ServerMay client before y → server_payload x ≡ server_payload y → x ≡ y
server_inj client [] (Connected s f) (Connected t g) p q e = connected_injective (Connected s f) (Connected t g) tt tt p.0 q.0 (answers_alike (Connected s f) (Connected t g) e)
server_inj client [] (Connected s f) (Answered r) p q e = absurd q
server_inj client [] (Connected s f) (Event z k) p q e = absurd q
server_inj client [] (Answered r) y p q e = absurd p
server_inj client [] (Event z k) y p q e = absurd p
server_inj client (f ∷ fs) (Connected s g) y p q e = absurd p
server_inj client (f ∷ fs) (Answered r) (Connected t g) p q e = absurd q
server_inj client (f ∷ fs) (Answered r) (Answered s) p q e =
    let x = reply_xid r s p.0 q.0 e in
    let same = same_answered client (f ∷ fs) r s x p.1 q.1 in
    let fits = subst (λ a. Fits (op_of_ask a) (ops_of_ask a) s) (sym same) q.1.fits in
    reply_injective (op_of_ask p.1.ask) (ops_of_ask p.1.ask) (Answered r) (Answered s) p.1.fits fits p.0 q.0 (answers_alike (Answered r) (Answered s) e)
server_inj client (f ∷ fs) (Answered r) (Event z k) p q e = absurd (reply_or_event r (Event z k) p.0 tt q e)
server_inj client (f ∷ fs) (Event z k) (Connected t g) p q e = absurd q
server_inj client (f ∷ fs) (Event z k) (Answered r) p q e = absurd (reply_or_event r (Event z k) q.0 tt p (sym e))
server_inj client (f ∷ fs) (Event z k) (Event y l) p q e = event_injective (Event z k) (Event y l) tt tt p q (answers_alike (Event z k) (Event y l) e)

-- So the frames of each side are known from the payloads.
pub same_clients : (profile : Profile) (C D : List ClientFrame) → EachAfter (ClientMay profile) C → EachAfter (ClientMay profile) D → client_payloads C ≡ client_payloads D → C ≡ D
same_clients profile C D p q e = same_each (ClientMay profile) client_payload (client_inj profile) C D p q e

pub same_servers : (client : List ClientFrame) (S T : List ServerFrame) → EachAfter (ServerMay client) S → EachAfter (ServerMay client) T → server_payloads S ≡ server_payloads T → S ≡ T
same_servers client S T p q e = same_each (ServerMay client) server_payload (server_inj client) S T p q e
