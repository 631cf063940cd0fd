-- What was said is a good history, and is read as it was said.
use Rattle.std.proofs.Common.{Option, Some, None, ◌≡◌, ℕ, ◌+◌, ◌<◌, ◌≤◌, ◌^◌, inl, inr, List, [], ◌∷◌, ◌++◌, length, refl, sym, ap, ◌∙◌, subst, arith, append_assoc}
use Rattle.std.proofs.{lemmas.List.append-nil, lemmas.List.append_cancel_left, lemmas.List.length_push, lemmas.List.Concat.flat_map-append}
use Rattle.zk_frames.specs.Framing.{frame, AreWithin}
use Rattle.zk_frames.proofs.Cuts.{length-frame}
use Rattle.zk_talk.specs.{declared.limits.Limits.Limits, declared.message.Side.Side, Held.Message, declared.message.Ending.Ending, declared.message.Ending.TheVariants.Whole, Payloads.client_payload, Payloads.server_payload}
use Rattle.zk_talk.specs.declared.message.Side.TheVariants.{Client, Server}
use Rattle.zk_talk.specs.declared.message.MessageOf.TheVariants.{Client as FromClient, Server as FromServer}
use Rattle.zk_talk.specs.{History.History, History.side_bytes, History.on, Conversation.Conversation, Conversation.with_client, Conversation.with_server, Fault.rest_on, Fault.side_limit, Ending.IsEnding, Ending.unanswered}
use Rattle.zk_talk.specs.Good.{Good, IsGood, IsOrder, client_payloads, server_payloads, clients, servers}
use Rattle.zk_talk.specs.Answer.{AreMessages}
use Rattle.zk_talk.specs.Said.{AreSaid, AreSized, AreFrames, IsWithin, MaySay, said, side_of, payload_of, conversation_of}
use Rattle.zk_talk.proofs.{Small.small_limits, Lists.by_last, Lists.IsPushed, Lists.EachAfter-push, Lists.EachAfter-nil, Histories.front-length, GoodFronts.good_front, Start.start, Start.no_conversation}
use Rattle.std.specs.List.{flat_map, AllByRecursion}
use Rattle.zk_talk.proofs.Standing.{own, own_rest, with_message, MayOn, Runs, runs_client, runs_server, runs_message, found_message, frame_front, bytes-on, last-on}
use Rattle.zk_talk.proofs.{Headline.answer_whole, Headline.same_good, OrderOnce.order_once, Speaking.one_client, Speaking.one_server}

said-append : (M N : List Message) → said (M ++ N) ≡ said M ++ said N
said-append M N = flat_map-append (λ m. on (side_of m) (frame (payload_of m))) M N

said-push : (M : List Message) (m : Message) → said (M ++ m ∷ []) ≡ said M ++ on (side_of m) (frame (payload_of m))
said-push M m = said-append M (m ∷ []) ∙ ap (λ z. said M ++ z) (append-nil (on (side_of m) (frame (payload_of m))))

-- a frame's last byte, and those before it
last_of : (p : List ℕ) → IsPushed (frame p)
last_of p = elim (by_last (frame p)) [ inl n ↦ absurd (omega (arith, ap length n, length-frame p)) | inr q ↦ q ]

whole-on : (side : Side) (h : History) (p : List ℕ) (q : IsPushed (frame p)) → (h ++ on side q.init) ++ (side, q.last) ∷ [] ≡ h ++ on side (frame p)
whole-on side h p q = last-on side h q.init q.last ∙ ap (λ z. h ++ on side z) (sym q.is)

module _ (limits : Limits) (h : History) (v : Conversation) (M : List Message) (r : Runs limits h v M [] []) where
  before_last : (side : Side) (p : List ℕ) (q : IsPushed (frame p)) → length p ≤ side_limit limits side → length (side_bytes side h) + length (frame p) < 2 ^ 62 →
      Runs limits (h ++ on side q.init) v M (own Client side q.init []) (own Server side q.init []) × (length (side_bytes side (h ++ on side q.init)) + 1 < 2 ^ 62)
  before_last side p q l size =
      let long : length (frame p) ≡ length q.init + 1 = ap length q.is ∙ length_push q.init q.last in
      (go side l (omega (arith, size, long)), omega (arith, size, long, bytes-on side q.init h))
    where
      go : (side : Side) → length p ≤ side_limit limits side → length (side_bytes side h) + length q.init < 2 ^ 62 → Runs limits (h ++ on side q.init) v M (own Client side q.init []) (own Server side q.init [])
      go Client l room = runs_client limits (small_limits limits) v M q.init h [] [] r (frame_front limits.client q.init [] p q.last l (sym q.is)) room
      go Server l room = runs_server limits (small_limits limits) v M q.init h [] [] r (frame_front limits.server q.init [] p q.last l (sym q.is)) room

  -- one message more
  pub step : (m : Message) → length (payload_of m) ≤ side_limit limits (side_of m) → MayOn (side_of m) limits v m → length (side_bytes (side_of m) h) + length (frame (payload_of m)) < 2 ^ 62 →
      Runs limits (h ++ on (side_of m) (frame (payload_of m))) (with_message v m) (M ++ m ∷ []) [] []
  step (FromClient f) fits may size =
      let q = last_of (client_payload f) in
      let r' = before_last Client (client_payload f) q fits size in
      subst (λ z. Runs limits z (with_client v f) (M ++ FromClient f ∷ []) [] []) (whole-on Client h (client_payload f) q) (runs_message limits (small_limits limits) (h ++ on Client q.init) q.last v M q.init [] r'.0 Client (FromClient f) (sym q.is) fits may r'.1)
  step (FromServer s) fits may size =
      let q = last_of (server_payload s) in
      let r' = before_last Server (server_payload s) q fits size in
      subst (λ z. Runs limits z (with_server v s) (M ++ FromServer s ∷ []) [] []) (whole-on Server h (server_payload s) q) (runs_message limits (small_limits limits) (h ++ on Server q.init) q.last v M [] q.init r'.0 Server (FromServer s) (sym q.is) fits may r'.1)

abbrev Spoken : Limits → List Message → Type 0
Spoken limits M = Runs limits (said M) (conversation_of M) M [] []

sized-front : (M N : List Message) → AreSized (M ++ N) → AreSized M
sized-front M N z = (
  omega (arith, z.0, front-length Client (said M) (said N) (said (M ++ N)) (said-append M N)),
  omega (arith, z.1, front-length Server (said M) (said N) (said (M ++ N)) (said-append M N)),
)

sized_on : (side : Side) (M : List Message) → AreSized M → length (side_bytes side (said M)) < 2 ^ 62
sized_on Client M z = z.0
sized_on Server M z = z.1

step_message : (limits : Limits) (M : List Message) (m : Message) → Spoken limits M → MaySay limits M m → length (side_bytes (side_of m) (said M)) + length (frame (payload_of m)) < 2 ^ 62 →
    Runs limits (said M ++ on (side_of m) (frame (payload_of m))) (conversation_of (M ++ m ∷ [])) (M ++ m ∷ []) [] []
step_message limits M (FromClient f) r may size =
    subst (λ x. Runs limits (said M ++ on Client (frame (client_payload f))) x (M ++ FromClient f ∷ []) [] []) (sym (one_client M f)) (step limits (said M) (conversation_of M) M r (FromClient f) may.1 (may.0, may.2) size)
step_message limits M (FromServer s) r may size =
    subst (λ x. Runs limits (said M ++ on Server (frame (server_payload s))) x (M ++ FromServer s ∷ []) [] []) (sym (one_server M s)) (step limits (said M) (conversation_of M) M r (FromServer s) may.1 may.0 size)

one_more : (limits : Limits) (M : List Message) (m : Message) → Spoken limits M → MaySay limits M m → AreSized (M ++ m ∷ []) → Spoken limits (M ++ m ∷ [])
one_more limits M m r may z =
    let side = side_of m in
    let p = frame (payload_of m) in
    let size : length (side_bytes side (said M)) + length p < 2 ^ 62 = omega (arith, sized_on side (M ++ m ∷ []) z, ap (λ x. length (side_bytes side x)) (said-push M m), bytes-on side p (said M)) in
    subst (λ x. Runs limits x (conversation_of (M ++ m ∷ [])) (M ++ m ∷ []) [] []) (sym (said-push M m)) (step_message limits M m r may size)

spoken_from : (limits : Limits) (before more : List Message) → Spoken limits before → ((a : List Message) (x : Message) (b : List Message) → more ≡ a ++ x ∷ b → MaySay limits (before ++ a) x) → AreSized (before ++ more) → Spoken limits (before ++ more)
spoken_from limits before [] r may z = subst (Spoken limits) (sym (append-nil before)) r
spoken_from limits before (m ∷ more) r may z =
    let all = append_assoc before (m ∷ []) more in
    let z' = subst AreSized (sym all) z in
    let here = subst (λ x. MaySay limits x m) (append-nil before) (may [] m more refl) in
    let next = one_more limits before m r here (sized-front (before ++ m ∷ []) more z') in
    subst (Spoken limits) all
    (spoken_from limits (before ++ m ∷ []) more next (λ a x b e. subst (λ y. MaySay limits y x) (sym (append_assoc before (m ∷ []) a)) (may (m ∷ a) x b (ap (λ y. m ∷ y) e))) z')

pub none_spoken : (limits : Limits) → Spoken limits []
none_spoken limits =
    let s = start limits in
    let same : s.conversation ≡ no_conversation = (let c = sym s.order.client in let t = sym s.order.server in λ i. record { client = c i; server = t i }) in
    record { good = subst (λ z. Good limits [] z [] []) same s.good; order = subst (λ z. IsOrder limits [] z []) same s.order }

-- Messages that were said, frame after frame, are a good history of them in their order.
pub spoken : (limits : Limits) (M : List Message) → AreSaid limits M → AreSized M → Good limits (said M) (conversation_of M) [] [] × IsOrder limits (said M) (conversation_of M) M
spoken limits M are z = let r = spoken_from limits [] M (none_spoken limits) are z in (r.good, r.order)

-- And whoever reads them answers these messages.
pub spoken_read : (limits : Limits) (M N : List Message) (e : Ending) → AreSaid limits M → AreSized M → AreMessages limits (said M) N e → IsEnding limits (said M) e → (N ≡ M) × (e ≡ Whole (unanswered (conversation_of M)))
spoken_read limits M N e are z messages ending =
    let r = spoken limits M are z in
    let a = answer_whole limits (small_limits limits) (said M) N e messages ending (conversation_of M) r.0 in
    (order_once limits (small_limits limits) (said M) (conversation_of M) N M a.0 r.1 [] [] r.0.whole, a.1)

-- ---- A good history of whole frames is what its messages say.
framed : List (Side × List ℕ) → History
framed fs = flat_map (λ (x : Side × List ℕ). on x.0 (frame x.1)) fs

sized_of : (limits : Limits) (M : List Message) (r : History) → IsGood limits (said M ++ r) → AreSized M
sized_of limits M r good = let n = good_front limits (said M) r good in (n.3.client_size, n.3.server_size)

good_size : (limits : Limits) (h : History) (side : Side) → IsGood limits h → length (side_bytes side h) < 2 ^ 62
good_size limits h Client n = n.3.client_size
good_size limits h Server n = n.3.server_size

-- what may come next on a side may be said
pub may_be_said : (limits : Limits) (M : List Message) (side : Side) (m : Message) → MayOn side limits (conversation_of M) m → length (payload_of m) ≤ side_limit limits side → (side_of m ≡ side) × MaySay limits M m
may_be_said limits M Client (FromClient f) may l = (refl, (may.0, l, may.1))
may_be_said limits M Server (FromServer s) may l = (refl, (may, l))
may_be_said limits M Client (FromServer s) may l = absurd may
may_be_said limits M Server (FromClient f) may l = absurd may

module _ (limits : Limits) (M : List Message) (r : Spoken limits M) where
  up_to_last : (side : Side) (p : List ℕ) (q : IsPushed (frame p)) → length p ≤ side_limit limits side → IsGood limits (said M ++ on side (frame p)) →
      Runs limits (said M ++ on side q.init) (conversation_of M) M (own Client side q.init []) (own Server side q.init []) × IsGood limits ((said M ++ on side q.init) ++ (side, q.last) ∷ [])
  up_to_last side p q l good = (
    (before_last limits (said M) (conversation_of M) M r side p q l (omega (arith, good_size limits (said M ++ on side (frame p)) side good, bytes-on side (frame p) (said M)))).0,
    subst (IsGood limits) (sym (whole-on side (said M) p q)) good,
  )

  -- the message whose payload leaves the history good may be said
  next_message : (side : Side) (p : List ℕ) → length p ≤ side_limit limits side → IsGood limits (said M ++ on side (frame p)) → (m : Message) × (side_of m ≡ side) × (payload_of m ≡ p) × MaySay limits M m
  next_message side p l good =
      let q = last_of p in
      let x = up_to_last side p q l good in
      let whole : rest_on side (own Client side q.init []) (own Server side q.init []) ++ q.last ∷ [] ≡ frame p = ap (λ z. z ++ q.last ∷ []) (own_rest side q.init [] []) ∙ sym q.is in
      let f = found_message limits (small_limits limits) (said M ++ on side q.init) q.last (conversation_of M) M (own Client side q.init []) (own Server side q.init []) x.0 side p whole l x.1 in
      let m = may_be_said limits M side f.0 f.2 (subst (λ z. length z ≤ side_limit limits side) (sym f.1) l) in
      (f.0, m.0, f.1, m.1)

said_from : (limits : Limits) (M : List Message) (fs : List (Side × List ℕ)) → Spoken limits M → AreSaid limits M → AllByRecursion (IsWithin limits) fs → IsGood limits (said M ++ framed fs) → (N : List Message) × AreSaid limits N × Spoken limits N × (said N ≡ said M ++ framed fs)
unfolding framed
said_from limits M [] r are all good = (M, are, r, sym (append-nil (said M)))
said_from limits M ((side, p) ∷ fs) r are all good =
    let split : said M ++ (on side (frame p) ++ framed fs) ≡ (said M ++ on side (frame p)) ++ framed fs = sym (append_assoc (said M) (on side (frame p)) (framed fs)) in
    let good' = subst (IsGood limits) split good in
    let n = next_message limits M r side p all.0 (good_front limits (said M ++ on side (frame p)) (framed fs) good') in
    let more : said (M ++ n.0 ∷ []) ≡ said M ++ on side (frame p) = said-push M n.0 ∙ (λ i. said M ++ on (n.1 i) (frame (n.2 i))) in
    let good'' = subst (λ z. IsGood limits (z ++ framed fs)) (sym more) good' in
    let sized = sized_of limits (M ++ n.0 ∷ []) (framed fs) good'' in
    let next = said_from limits (M ++ n.0 ∷ []) fs (one_more limits M n.0 r n.3 sized) (EachAfter-push (MaySay limits) M n.0 are n.3) all.1 good'' in
    (next.0, next.1, next.2, next.3 ∙ ap (λ z. z ++ framed fs) more ∙ sym split)

-- The messages of a good history of whole frames, said again, give its bytes.
pub said_again : (limits : Limits) (h : History) (v : Conversation) (M : List Message) → AreFrames limits h → Good limits h v [] [] → IsOrder limits h v M → AreSaid limits M × (said M ≡ h)
unfolding framed
said_again limits h v M frames g o =
    let n = said_from limits [] frames.0 (none_spoken limits) (EachAfter-nil (MaySay limits)) frames.2 (v, [], [], subst (λ z. Good limits z v [] []) frames.1 g) in
    let same : said n.0 ≡ h = n.3 ∙ sym frames.1 in
    let good = subst (λ z. Good limits z (conversation_of n.0) [] []) same n.2.good in
    let order = subst (λ z. IsOrder limits z (conversation_of n.0) n.0) same n.2.order in
    let one = same_good limits (small_limits limits) h (conversation_of n.0) v [] [] [] [] good g in
    let order' = subst (λ z. IsOrder limits h z n.0) one.0 order in
    let messages : n.0 ≡ M = order_once limits (small_limits limits) h v n.0 M order' o [] [] g.whole in
    (subst (AreSaid limits) messages n.1, ap said (sym messages) ∙ same)

-- ---- Messages whose frames, one after another, are a good history of them may be said.
unfoldable sent : List Message → List (Side × List ℕ)
sent [] = []
sent (m ∷ M) = (side_of m, payload_of m) ∷ sent M

said_framed : (M : List Message) → said M ≡ framed (sent M)
unfolding framed sent
said_framed [] = refl
said_framed (m ∷ M) = ap (λ z. on (side_of m) (frame (payload_of m)) ++ z) (said_framed M)

within_limits : (limits : Limits) (M : List Message) → AreWithin limits.client (client_payloads (clients M)) → AreWithin limits.server (server_payloads (servers M)) → AllByRecursion (IsWithin limits) (sent M)
unfolding sent
within_limits limits [] c s = tt
within_limits limits (FromClient f ∷ M) c s = (c.0, within_limits limits M c.1 s)
within_limits limits (FromServer f ∷ M) c s = (s.0, within_limits limits M c s.1)

-- the side that sent the first byte
first_side : History → Option Side
first_side [] = None
first_side (x ∷ h) = Some x.0

first_on : (side : Side) (bytes : List ℕ) (h : History) → 0 < length bytes → first_side (on side bytes ++ h) ≡ Some side
unfolding first_side
first_on side [] h l = absurd (omega arith)
first_on side (b ∷ bytes) h l = refl

first_said : (m : Message) (M : List Message) → first_side (said (m ∷ M)) ≡ Some (side_of m)
first_said m M = first_on (side_of m) (frame (payload_of m)) (said M) (omega (arith, length-frame (payload_of m)))

-- the frames of the sides, and the sides in turn, are all of the messages
same_messages : (M N : List Message) → said M ≡ said N → clients M ≡ clients N → servers M ≡ servers N → M ≡ N
same_messages [] [] e c s = refl
same_messages [] (FromClient f ∷ N) e c s = absurd cc
same_messages [] (FromServer f ∷ N) e c s = absurd cc
same_messages (FromClient f ∷ M) [] e c s = absurd cc
same_messages (FromServer f ∷ M) [] e c s = absurd cc
same_messages (FromClient f ∷ M) (FromServer g ∷ N) e c s = absurd (let x : Some Client ≡ Some Server = sym (first_said (FromClient f) M) ∙ ap first_side e ∙ first_said (FromServer g) N in cc)
same_messages (FromServer f ∷ M) (FromClient g ∷ N) e c s = absurd (let x : Some Server ≡ Some Client = sym (first_said (FromServer f) M) ∙ ap first_side e ∙ first_said (FromClient g) N in cc)
same_messages (FromClient f ∷ M) (FromClient g ∷ N) e c s =
    let head : f ≡ g = cc in
    let rest : clients M ≡ clients N = cc in
    let later = append_cancel_left (on Client (frame (client_payload f))) (said M) (said N) (e ∙ ap (λ x. on Client (frame (client_payload x)) ++ said N) (sym head)) in
    ap (λ x. FromClient x ∷ M) head ∙ ap (λ X. FromClient g ∷ X) (same_messages M N later rest s)
same_messages (FromServer f ∷ M) (FromServer g ∷ N) e c s =
    let head : f ≡ g = cc in
    let rest : servers M ≡ servers N = cc in
    let later = append_cancel_left (on Server (frame (server_payload f))) (said M) (said N) (e ∙ ap (λ x. on Server (frame (server_payload x)) ++ said N) (sym head)) in
    ap (λ x. FromServer x ∷ M) head ∙ ap (λ X. FromServer g ∷ X) (same_messages M N later c rest)

pub good_said : (limits : Limits) (M : List Message) → Good limits (said M) (conversation_of M) [] [] → AreSaid limits M
good_said limits M g =
    let within = within_limits limits M g.whole.client_cut.within g.whole.server_cut.within in
    let good = subst (λ z. Good limits z (conversation_of M) [] []) (said_framed M) g in
    let n = said_from limits [] (sent M) (none_spoken limits) (EachAfter-nil (MaySay limits)) within (conversation_of M, [], [], good) in
    let same : said n.0 ≡ said M = n.3 ∙ sym (said_framed M) in
    let again = subst (λ z. Good limits z (conversation_of n.0) [] []) same n.2.good in
    let one = same_good limits (small_limits limits) (said M) (conversation_of n.0) (conversation_of M) [] [] [] [] again g in
    let messages = same_messages n.0 M same (ap (λ (v : Conversation). v.client) one.0) (ap (λ (v : Conversation). v.server) one.0) in
    subst (AreSaid limits) messages n.1
