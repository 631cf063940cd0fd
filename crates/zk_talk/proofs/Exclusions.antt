-- A message that may be said has no refusal, and another has one only.
use Rattle.std.proofs.Common.{◌≡◌, ◌≢◌, ◌≤◌, ◌⊎◌, inl, inr, List, [], ◌∷◌, ◌++◌, refl, sym, ap, ◌∙◌, subst, arith, append_assoc, ℤ}
use Rattle.std.specs.Prelude.{negsuc}
use Rattle.std.proofs.lemmas.List.{append-nil}
use Rattle.zk_jute.specs.Item.{Fit}
use Rattle.zk_asks.specs.{Held.Ask as Asked, Held.ClientFrame, Frames.IsFirst, Frames.IsLater, Frames.IsOfProfile, Frames.ops_of_ask, Rows.op_of_ask}
use Rattle.zk_asks.specs.declared.frame.ClientFrameOf.TheVariants.{Connect, Ask}
use Rattle.zk_records.specs.declared.profile.Profile.{Profile}
use Rattle.zk_asks.specs.Frames as asks
use Rattle.zk_answers.specs.{Held.Reply, Held.ServerFrame, Frames.IsConnected, Frames.IsEvent, Frames.Fits}
use Rattle.zk_answers.specs.declared.frame.ServerFrameOf.TheVariants.{Connected, Answered, Event}
use Rattle.zk_answers.specs.Frames as answers
use Rattle.zk_waiting.specs.Lane.{lane_of}
use Rattle.zk_talk.specs.{declared.limits.Limits.Limits, Held.Message, declared.say.SayFault.SayFault, Payloads.client_payload, Payloads.server_payload, Splits.EachAfter, Fault.IsNext}
use Rattle.zk_talk.specs.declared.message.MessageOf.TheVariants.{Client as FromClient, Server as FromServer}
use Rattle.zk_talk.specs.declared.say.SayFault.TheVariants.{NotFirst, Unasked, XidOrder, Misfit, TooLong, QueueFull, NoMemory}
use Rattle.zk_talk.specs.Conversation.{Conversation, IsConversation, asks_on, replies_on, ClientMay, ServerMay, IsAnswered}
use Rattle.zk_talk.specs.Said.{SpeakerState, Says, AreSaid, MayAsk, MaySay, IsSayFault, IsSaidClient, IsSaidServer, IsClientRefusal, IsServerRefusal, conversation_of}
use Rattle.zk_talk.specs.Said.IsClientRefusal.{not_allowed, too_long, queue_full, second_connect, before_connect}
use Rattle.zk_talk.specs.Said.IsServerRefusal.{no_connect, long_connected, long_event, event_xid, unasked, xid_order, misfit, long_reply, second_connected, before_connected}
use Rattle.zk_talk.proofs.{Judging.first_or_later, Lists.EachAfter-nil, Loads.load_ask, Steps.conversation_client, Steps.conversation_server, Refusals.may_first, Refusals.may_later, Refusals.sent_first, FaultOnce.next_once, FaultOnce.next_exists}
use Rattle.zk_talk.proofs.Speaking.{one_client, one_server}

-- ---- Messages that were said are a conversation.
one_conversation : (limits : Limits) (M : List Message) (m : Message) → IsConversation limits.profile (conversation_of M) → MaySay limits M m → IsConversation limits.profile (conversation_of (M ++ m ∷ []))
one_conversation limits M (FromClient f) conv may = subst (IsConversation limits.profile) (sym (one_client M f)) (conversation_client limits.profile (conversation_of M) f conv may.0)
one_conversation limits M (FromServer s) conv may = subst (IsConversation limits.profile) (sym (one_server M s)) (conversation_server limits.profile (conversation_of M) s conv may.0)

conversation_from : (limits : Limits) (before more : List Message) → IsConversation limits.profile (conversation_of before) → ((a : List Message) (x : Message) (b : List Message) → more ≡ a ++ x ∷ b → MaySay limits (before ++ a) x) → IsConversation limits.profile (conversation_of (before ++ more))
conversation_from limits before [] conv may = subst (λ z. IsConversation limits.profile (conversation_of z)) (sym (append-nil before)) conv
conversation_from limits before (m ∷ more) conv may =
    let here = subst (λ x. MaySay limits x m) (append-nil before) (may [] m more refl) in
    let next = one_conversation limits before m conv here in
    subst (λ z. IsConversation limits.profile (conversation_of z)) (append_assoc before (m ∷ []) more)
    (conversation_from limits (before ++ m ∷ []) more next (λ a x b e. subst (λ y. MaySay limits y x) (sym (append_assoc before (m ∷ []) a)) (may (m ∷ a) x b (ap (λ y. m ∷ y) e))))

pub are_conversation : (limits : Limits) (M : List Message) → AreSaid limits M → IsConversation limits.profile (conversation_of M)
are_conversation limits M are = conversation_from limits [] M (record { client = EachAfter-nil (ClientMay limits.profile); server = EachAfter-nil (ServerMay []) }) are

-- ---- What may be said has no refusal.
sent_client : (profile : Profile) (C : List ClientFrame) (f : ClientFrame) → ClientMay profile C f → asks.IsSent f × IsOfProfile profile f
sent_client profile [] (Connect t g) m = (m.1, tt)
sent_client profile [] (Ask xid ask) m = absurd m.0
sent_client profile (c ∷ cs) f m = (m.1, m.2)

sent_server : (C : List ClientFrame) (S : List ServerFrame) (s : ServerFrame) → ServerMay C S s → answers.IsSent s
sent_server C [] (Connected t g) m = m.0
sent_server C [] (Answered r) m = absurd m
sent_server C [] (Event z k) m = absurd m
sent_server C (x ∷ xs) (Connected t g) m = absurd m
sent_server C (x ∷ xs) (Answered r) m = m.0
sent_server C (x ∷ xs) (Event z k) m = m

once_connected : (C : List ClientFrame) (S : List ServerFrame) (s : ServerFrame) → S ≢ [] → IsConnected s → ServerMay C S s → ⊥
once_connected C [] s n c m = n refl
once_connected C (x ∷ xs) (Connected t g) n c m = m
once_connected C (x ∷ xs) (Answered r) n c m = c
once_connected C (x ∷ xs) (Event z k) n c m = c

-- a reply answers something, and it is the next of its lane
answer_of : (C : List ClientFrame) (S : List ServerFrame) (r : Reply) → ServerMay C S (Answered r) → IsAnswered C S r
answer_of C [] r m = absurd m
answer_of C (x ∷ xs) r m = m.1

pub answered_next : (v : Conversation) (r : Reply) (w : IsAnswered v.client v.server r) → IsNext v (lane_of r.xid) r.xid w.ask
answered_next v r w = record { asked = w.asked; after = w.after; stands = w.stands; same_lane = refl; counts = w.counts }

fit_client : (limits : Limits) (v : Conversation) (f : ClientFrame) → IsSaidClient limits v f → Fit limits.client (asks.frame_items f)
unfolding client_payload
fit_client limits v f may = ((sent_client limits.profile v.client f may.0).0.1, may.1)

fit_server : (limits : Limits) (v : Conversation) (s : ServerFrame) → IsSaidServer limits v s → Fit limits.server (answers.frame_items s)
unfolding server_payload
fit_server limits v s may = ((sent_server v.client v.server s may.0).2, may.1)

pub client_apart : (limits : Limits) (v : Conversation) (f : ClientFrame) (e : SayFault) → EachAfter (ServerMay v.client) v.server → IsSaidClient limits v f → IsClientRefusal limits v f e → ⊥
client_apart limits v f e each may (second_connect n first is) = first_or_later f first (may_later limits.profile v.client f n may.0).0
client_apart limits v f e each may (before_connect n later is) = first_or_later f (may_first limits.profile v.client f n may.0).0 later
client_apart limits v f e each may (not_allowed n later denied is) = (let t = sent_client limits.profile v.client f may.0 in denied (t.0.0, t.1))
client_apart limits v f e each may (too_long a b sent denied is) = denied (fit_client limits v f may)
client_apart limits v f e each may (queue_full n later sent fit over is) = omega (arith, over, may.2, load_ask v f each)

pub server_apart : (limits : Limits) (v : Conversation) (s : ServerFrame) (e : SayFault) → IsSaidServer limits v s → IsServerRefusal limits v s e → ⊥
server_apart limits v s e may (second_connected n c is) = once_connected v.client v.server s n c may.0
server_apart limits v s e may (before_connected n c is) = c (sent_first v.client v.server s n may.0).0
server_apart limits v s e may (no_connect n c none is) = (sent_first v.client v.server s n may.0).2 none
server_apart limits v s e may (long_connected n c some denied is) = denied (fit_server limits v s may)
server_apart limits v s e may (long_event n k denied is) = denied (fit_server limits v s may)
server_apart limits v s e may (event_xid n r q x is) = (sent_server v.client v.server (Answered r) (subst (ServerMay v.client v.server) q may.0)).0 x
server_apart limits v s e may (unasked n r q x few is) =
    let w = answer_of v.client v.server r (subst (ServerMay v.client v.server) q may.0) in
    next_exists v (lane_of r.xid) (lane_of r.xid) r.xid w.ask refl (answered_next v r w) few
server_apart limits v s e may (xid_order n r q x next ask nx other is) =
    let w = answer_of v.client v.server r (subst (ServerMay v.client v.server) q may.0) in
    other (next_once v (lane_of r.xid) (lane_of r.xid) next r.xid ask w.ask refl nx (answered_next v r w)).0
server_apart limits v s e may (misfit n r q x ask nx denied is) =
    let w = answer_of v.client v.server r (subst (ServerMay v.client v.server) q may.0) in
    let same = (next_once v (lane_of r.xid) (lane_of r.xid) r.xid r.xid ask w.ask refl nx (answered_next v r w)).1 in
    denied (subst (λ z. Fits (op_of_ask z) (ops_of_ask z) r) (sym same) w.fits)
server_apart limits v s e may (long_reply n r q x ask nx fits denied is) = denied (fit_server limits v s may)

apart : (limits : Limits) (before : List Message) (m : Message) (e : SayFault) → EachAfter (ServerMay (conversation_of before).client) (conversation_of before).server → MaySay limits before m → IsSayFault limits before m e → ⊥
apart limits before (FromClient f) e each may is = client_apart limits (conversation_of before) f e each may is
apart limits before (FromServer s) e each may is = server_apart limits (conversation_of before) s e may is

pub may_or_not : (limits : Limits) (before : List Message) (m : Message) (e : SayFault) → AreSaid limits before → MaySay limits before m → IsSayFault limits before m e → ⊥
may_or_not limits before m e are may is = apart limits before m e (are_conversation limits before are).server may is

-- So a refusal that is no want of memory tells that the message may not be said.
pub only_refused : (s : SpeakerState) (m : Message) (e : SayFault) → ((e ≡ NoMemory) ⊎ ((before : List Message) → Says s before → IsSayFault s.limits before m e)) →
    e ≢ NoMemory → (before : List Message) → Says s before → MaySay s.limits before m → ⊥
only_refused s m e (inl wanting) n before says may = n wanting
only_refused s m e (inr all) n before says may = apart s.limits before m e says.heard.may may (all before says)

-- ---- One refusal only.

-- a case that holds, or what stands behind it
data First (P : Type 0) (x : SayFault) (Rest : SayFault → Type 0) (e : SayFault) : Type 0 where
  here : P → e ≡ x → First P x Rest e
  behind : (P → ⊥) → Rest e → First P x Rest e

first_once : {P : Type 0} {x : SayFault} {Rest : SayFault → Type 0} → ((e f : SayFault) → Rest e → Rest f → e ≡ f) → (e f : SayFault) → First P x Rest e → First P x Rest f → e ≡ f
first_once rest e f (here p q) (here p' q') = q ∙ sym q'
first_once rest e f (here p q) (behind n r) = absurd (n p)
first_once rest e f (behind n r) (here p q) = absurd (n p)
first_once rest e f (behind n r) (behind n' r') = rest e f r r'

last_once : (x e f : SayFault) → e ≡ x → f ≡ x → e ≡ f
last_once x e f p q = p ∙ sym q

-- the client's
abbrev ClientTurn : Conversation → ClientFrame → Type 0
ClientTurn v f = ((v.client ≢ []) × IsFirst f) ⊎ ((v.client ≡ []) × IsLater f)

client_turn : (v : Conversation) (f : ClientFrame) → (v.client ≡ [] → IsFirst f) → (v.client ≢ [] → IsLater f) → ClientTurn v f → ⊥
client_turn v f a b (inl p) = first_or_later f p.1 (b p.0)
client_turn v f a b (inr p) = first_or_later f (a p.0) p.1

later_turn : (v : Conversation) (f : ClientFrame) → v.client ≢ [] → IsLater f → ClientTurn v f → ⊥
later_turn v f n later t = client_turn v f (λ z. absurd (n z)) (λ z. later) t

abbrev ClientCase : Limits → Conversation → ClientFrame → SayFault → Type 0
ClientCase limits v f e = First (ClientTurn v f) NotFirst (First (MayAsk limits f → ⊥) Misfit (First (Fit limits.client (asks.frame_items f) → ⊥) TooLong (λ x. x ≡ QueueFull))) e

client_case : (limits : Limits) (v : Conversation) (f : ClientFrame) (e : SayFault) → IsClientRefusal limits v f e → ClientCase limits v f e
client_case limits v f e (second_connect n first is) = here (inl (n, first)) is
client_case limits v f e (before_connect n later is) = here (inr (n, later)) is
client_case limits v f e (not_allowed n later denied is) = behind (later_turn v f n later) (here denied is)
client_case limits v f e (too_long a b sent denied is) = behind (client_turn v f a b) (behind (λ z. z sent) (here denied is))
client_case limits v f e (queue_full n later sent fit over is) = behind (later_turn v f n later) (behind (λ z. z sent) (behind (λ z. z fit) is))

client_once : (limits : Limits) (v : Conversation) (f : ClientFrame) (x y : SayFault) → ClientCase limits v f x → ClientCase limits v f y → x ≡ y
client_once limits v f x y a b = first_once (first_once (first_once (last_once QueueFull))) x y a b

-- a reply's
abbrev NextCase : Reply → ℤ → Asked → SayFault → Type 0
NextCase r next ask e = First (next ≢ r.xid) (XidOrder next r.xid) (First (Fits (op_of_ask ask) (ops_of_ask ask) r → ⊥) Misfit (λ x. x ≡ TooLong)) e

record AnswerCase (v : Conversation) (r : Reply) (e : SayFault) : Type 0 where
  next : ℤ
  ask : Asked
  stands : IsNext v (lane_of r.xid) next ask
  is : NextCase r next ask e

answer_once : (v : Conversation) (r : Reply) (x y : SayFault) → AnswerCase v r x → AnswerCase v r y → x ≡ y
answer_once v r x y a b =
    let same = next_once v (lane_of r.xid) (lane_of r.xid) a.next b.next a.ask b.ask refl a.stands b.stands in
    let b' = subst (λ z. NextCase r z a.ask y) (sym same.0) (subst (λ z. NextCase r b.next z y) (sym same.1) b.is) in
    first_once (first_once (last_once TooLong)) x y a.is b'

-- the server's
abbrev ServerTurn : Conversation → ServerFrame → Type 0
ServerTurn v s = ((v.server ≢ []) × IsConnected s) ⊎ ((v.server ≡ []) × (IsConnected s → ⊥))

front_turn : (v : Conversation) (s : ServerFrame) → v.server ≡ [] → IsConnected s → ServerTurn v s → ⊥
front_turn v s n c (inl p) = p.0 n
front_turn v s n c (inr p) = p.1 c

behind_turn : (v : Conversation) (s : ServerFrame) → v.server ≢ [] → (IsConnected s → ⊥) → ServerTurn v s → ⊥
behind_turn v s n c (inl p) = c p.1
behind_turn v s n c (inr p) = n p.0

abbrev ConnectedCase : Conversation → SayFault → Type 0
ConnectedCase v e = First (v.client ≡ []) Unasked (λ x. x ≡ TooLong) e

abbrev ReplyCase : Conversation → Reply → SayFault → Type 0
ReplyCase v r e = First (r.xid ≡ negsuc 0) Misfit (First (asks_on (lane_of r.xid) v.client ≤ replies_on (lane_of r.xid) v.server) Unasked (AnswerCase v r)) e

abbrev InTurnCase : Conversation → ServerFrame → SayFault → Type 0
InTurnCase v (Connected t g) e = ConnectedCase v e
InTurnCase v (Answered r) e = ReplyCase v r e
InTurnCase v (Event z k) e = e ≡ TooLong

abbrev ServerCase : Conversation → ServerFrame → SayFault → Type 0
ServerCase v s e = First (ServerTurn v s) NotFirst (InTurnCase v s) e

connected_case : (v : Conversation) (s : ServerFrame) (e : SayFault) → v.server ≡ [] → IsConnected s → ConnectedCase v e → ServerCase v s e
connected_case v (Connected t g) e n c is = behind (front_turn v (Connected t g) n c) is
connected_case v (Answered r) e n c is = absurd c
connected_case v (Event z k) e n c is = absurd c

event_case : (v : Conversation) (s : ServerFrame) (e : SayFault) → v.server ≢ [] → IsEvent s → e ≡ TooLong → ServerCase v s e
event_case v (Connected t g) e n k is = absurd k
event_case v (Answered r) e n k is = absurd k
event_case v (Event z x) e n k is = behind (behind_turn v (Event z x) n (λ c. c)) is

reply_case : (v : Conversation) (s : ServerFrame) (e : SayFault) → v.server ≢ [] → (r : Reply) → s ≡ Answered r → ReplyCase v r e → ServerCase v s e
reply_case v s e n r q is = subst (λ z. ServerCase v z e) (sym q) (behind (behind_turn v (Answered r) n (λ c. c)) is)

next_case : (v : Conversation) (s : ServerFrame) (e : SayFault) → v.server ≢ [] → (r : Reply) → s ≡ Answered r → r.xid ≢ negsuc 0 → (next : ℤ) (ask : Asked) → IsNext v (lane_of r.xid) next ask → NextCase r next ask e → ServerCase v s e
next_case v s e n r q x next ask nx is =
    reply_case v s e n r q (behind x (behind (next_exists v (lane_of r.xid) (lane_of r.xid) next ask refl nx) (record { next = next; ask = ask; stands = nx; is = is })))

server_case : (limits : Limits) (v : Conversation) (s : ServerFrame) (e : SayFault) → IsServerRefusal limits v s e → ServerCase v s e
server_case limits v s e (second_connected n c is) = here (inl (n, c)) is
server_case limits v s e (before_connected n c is) = here (inr (n, c)) is
server_case limits v s e (no_connect n c none is) = connected_case v s e n c (here none is)
server_case limits v s e (long_connected n c some denied is) = connected_case v s e n c (behind some is)
server_case limits v s e (long_event n k denied is) = event_case v s e n k is
server_case limits v s e (event_xid n r q x is) = reply_case v s e n r q (here x is)
server_case limits v s e (unasked n r q x few is) = reply_case v s e n r q (behind x (here few is))
server_case limits v s e (xid_order n r q x next ask nx other is) = next_case v s e n r q x next ask nx (here other is)
server_case limits v s e (misfit n r q x ask nx denied is) = next_case v s e n r q x r.xid ask nx (behind (λ z. z refl) (here denied is))
server_case limits v s e (long_reply n r q x ask nx fits denied is) = next_case v s e n r q x r.xid ask nx (behind (λ z. z refl) (behind (λ z. z fits) is))

in_turn_once : (v : Conversation) (s : ServerFrame) (x y : SayFault) → InTurnCase v s x → InTurnCase v s y → x ≡ y
in_turn_once v (Connected t g) x y a b = first_once (last_once TooLong) x y a b
in_turn_once v (Answered r) x y a b = first_once (first_once (answer_once v r)) x y a b
in_turn_once v (Event z k) x y a b = a ∙ sym b

-- A message has one refusal at most.
pub refused_once : (limits : Limits) (before : List Message) (m : Message) (e f : SayFault) → IsSayFault limits before m e → IsSayFault limits before m f → e ≡ f
refused_once limits before (FromClient g) e f a b = client_once limits (conversation_of before) g e f (client_case limits (conversation_of before) g e a) (client_case limits (conversation_of before) g f b)
refused_once limits before (FromServer s) e f a b =
    let v = conversation_of before in
    first_once (in_turn_once v s) e f (server_case limits v s e a) (server_case limits v s f b)
