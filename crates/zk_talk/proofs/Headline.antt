-- A whole history.
use Rattle.std.proofs.Common.{◌≡◌, ℕ, ◌+◌, ◌<◌, ◌≤◌, List, [], ◌∷◌, ◌++◌, length, drop, refl, sym, ap, ◌∙◌, subst, append_assoc, Option, Some, None, take, get_or}
use Rattle.std.proofs.lemmas.List.{append-nil, take-append-drop, take_more, take_all}
use Rattle.zk_talk.specs.declared.message.Side.TheVariants.{Client, Server}
use Rattle.zk_talk.specs.{declared.limits.Limits.Limits, Splits.EachAfter, History.History, History.on, Conversation.ServerMay, Conversation.Conversation, Good.Good, Good.IsGood, Good.IsOrder, declared.message.Fault.Fault, Held.Message}
use Rattle.zk_talk.proofs.{Small.AreSmall, Small.small_limits, Turns.same_clients, Turns.same_servers, Steps.same_whole, GoodFronts.good_front}
use Rattle.zk_talk.specs.{Fault.IsFaultOf, Numbers.IsNewest, Stands.TalkState, Stands.Stands, Stands.Refuses, Stands.held_on, declared.message.Side.Side, declared.message.Ending.Ending, Ending.IsEnding, Ending.unanswered}
use Rattle.std.specs.Borrow.{Bor}
use Rattle.zk_talk.specs.declared.message.Ending.TheVariants.{Whole, Cut, Refused}
use Rattle.zk_talk.specs.Answer.{history_of, AreMessages, TakesAll}
use Rattle.std.proofs.lemmas.List.Concat.{flat_map-append}

-- Only one conversation is spelled.
pub same_good : (limits : Limits) → AreSmall limits → (h : History) (v w : Conversation) (cb sb db tb : List ℕ) → Good limits h v cb sb → Good limits h w db tb → (v ≡ w) × (cb ≡ db) × (sb ≡ tb)
same_good limits small h v w cb sb db tb a b =
    let s = same_whole limits small h v.client w.client v.server w.server cb db sb tb a.whole b.whole in
    let c = same_clients limits.profile v.client w.client a.conversation.client b.conversation.client s.0 in
    let each = subst (λ z. EachAfter (ServerMay z) w.server) (sym c) b.conversation.server in
    let t = same_servers v.client v.server w.server a.conversation.server each s.1 in
    ((λ i. record { client = c i; server = t i }), s.2, s.3)

-- It is that of a talk that stands, whose beginnings are the sides'.
pub stands_alone : (t : TalkState) (h : History) (M : List Message) (st : Stands t h M) (v : Conversation) (cb sb : List ℕ) → Good t.limits h v cb sb → (st.conversation ≡ v) × (t.client_held ≡ cb) × (t.server_held ≡ sb)
stands_alone t h M st v cb sb g = same_good t.limits (small_limits t.limits) h st.conversation v t.client_held t.server_held cb sb st.good g

-- A history with a fault is not good.
pub fault_is_bad : (limits : Limits) (h : History) (f : Fault) → IsFaultOf limits h f → IsGood limits h → ⊥
fault_is_bad limits h f is n =
    is.bad (good_front limits (is.before ++ (f.side, is.byte) ∷ []) is.after (subst (IsGood limits) (is.stands ∙ sym (append_assoc is.before ((f.side, is.byte) ∷ []) is.after)) n))

-- A history that spells a conversation ends whole, with its messages.
pub answer_whole : (limits : Limits) → AreSmall limits → (h : History) (M : List Message) (e : Ending) → AreMessages limits h M e → IsEnding limits h e → (v : Conversation) → Good limits h v [] [] → IsOrder limits h v M × (e ≡ Whole (unanswered v))
answer_whole limits small h M (Refused f) m is v g = absurd (fault_is_bad limits h f is (v, [], [], g))
answer_whole limits small h M (Cut Client n k) m is v g = absurd (is.4.0 (sym (same_good limits small h v is.0 [] [] is.1 is.2 g is.3).1))
answer_whole limits small h M (Cut Server n k) m is v g = absurd (is.4.1 (sym (same_good limits small h v is.0 [] [] is.1 is.2 g is.3).2))
answer_whole limits small h M (Whole n) m is v g =
    let s = same_good limits small h v is.0 [] [] [] [] g is.1 in
    let o = same_good limits small h v m.0 [] [] m.1 m.2 g m.3 in
    (subst (λ z. IsOrder limits h z M) (sym o.0) m.4, ap Whole (is.2 ∙ ap unanswered (sym s.0)))

pub stands_messages : (t : TalkState) (h : History) (M : List Message) → Stands t h M → (e : Ending) → IsEnding t.limits h e → AreMessages t.limits h M e
stands_messages t h M st (Refused f) is = absurd (fault_is_bad t.limits h f is (st.conversation, t.client_held, t.server_held, st.good))
stands_messages t h M st (Cut side n k) is = (st.conversation, t.client_held, t.server_held, st.good, st.order)
stands_messages t h M st (Whole n) is = (st.conversation, t.client_held, t.server_held, st.good, st.order)

-- What comes after a fault changes nothing.
pub fault_more : (limits : Limits) (h r : History) (f : Fault) → IsFaultOf limits h f → IsFaultOf limits (h ++ r) f
fault_more limits h r f is = record {
  before = is.before;
  byte = is.byte;
  after = is.after ++ r;
  conversation = is.conversation;
  client_rest = is.client_rest;
  server_rest = is.server_rest;
  stands = ap (λ z. z ++ r) is.stands ∙ append_assoc is.before ((f.side, is.byte) ∷ is.after) r;
  good = is.good;
  bad = is.bad;
  frame = is.frame;
  offset = is.offset;
  place = is.place;
  told = is.told;
  cause = is.cause;
}

-- The messages before it stay the same, and a talk that refused it stands for the longer history too.
pub messages_more : (limits : Limits) (h r : History) (M : List Message) (f : Fault) → AreMessages limits h M (Refused f) → AreMessages limits (h ++ r) M (Refused f)
unfolding fault_more
messages_more limits h r M f m = (fault_more limits h r f m.0, m.1)

-- and it still does where other bytes are kept
held_kept : (t : TalkState) (a b : List ℕ) (side : Side) → held_on side (record t { client_kept = a; server_kept = b }) ≡ held_on side t
held_kept t a b Client = refl
held_kept t a b Server = refl

pub refuses_with : (t : TalkState) (a b : List ℕ) (h r : History) (M : List Message) (f : Fault) (x : Refuses t h M f) → ((b ≡ [] → ⊥) → IsNewest x.is.conversation t.answered) → Refuses (record t { client_kept = a; server_kept = b }) (h ++ r) M f
unfolding fault_more
refuses_with t a b h r M f x newest = record {
  kept = x.kept;
  is = fault_more t.limits h r f x.is;
  order = x.order;
  queues = x.queues;
  client_frames = x.client_frames;
  server_frames = x.server_frames;
  newest = newest;
  load = x.load;
  held = λ less. held_kept t a b f.side ∙ x.held less;
  too_many = λ full. held_kept t a b f.side ∙ x.too_many full;
  other = λ side is. held_kept t a b side ∙ x.other side is;
}

pub refuses_more : (t : TalkState) (h r : History) (M : List Message) (f : Fault) → Refuses t h M f → Refuses t (h ++ r) M f
refuses_more t h r M f x = refuses_with t t.client_kept t.server_kept h r M f x x.newest

pub refused : (t : TalkState) (h r : History) (M : List Message) (f : Fault) → Refuses t h M f → IsEnding t.limits (h ++ r) (Refused f) × AreMessages t.limits (h ++ r) M (Refused f)
unfolding fault_more
refused t h r M f x = (fault_more t.limits h r f x.is, (fault_more t.limits h r f x.is, x.order))

-- the history up to a piece, and on
pub history_more : (pieces : List (Side × Bor (List ℕ))) (i : ℕ) (p : Side × Bor (List ℕ)) → i < length pieces → history_of (take (i + 1) pieces) ≡ history_of (take i pieces) ++ on (get_or pieces i p).0 (get_or pieces i p).1.now
history_more pieces i p l =
    ap history_of (take_more pieces i p l) ∙ flat_map-append (λ (p : Side × Bor (List ℕ)). on p.0 p.1.now) (take i pieces) (get_or pieces i p ∷ []) ∙ ap (λ z. history_of (take i pieces) ++ z) (append-nil (on (get_or pieces i p).0 (get_or pieces i p).1.now))

pub history_rest : (pieces : List (Side × Bor (List ℕ))) (i : ℕ) → history_of (take i pieces) ++ history_of (drop i pieces) ≡ history_of pieces
history_rest pieces i = sym (flat_map-append (λ (p : Side × Bor (List ℕ)). on p.0 p.1.now) (take i pieces) (drop i pieces)) ∙ ap history_of (take-append-drop i pieces)

pub history_step : (pieces : List (Side × Bor (List ℕ))) (i : ℕ) (p : Side × Bor (List ℕ)) → i < length pieces → history_of (take i pieces) ++ on (get_or pieces i p).0 (get_or pieces i p).1.now ≡ history_of (take (i + 1) pieces)
history_step pieces i p l = sym (history_more pieces i p l)

pub read_refused : (limits : Limits) (t new : TalkState) (M N : List Message) (f : Fault) (pieces : List (Side × Bor (List ℕ))) (i : ℕ) (p : Side × Bor (List ℕ)) (o : Option Fault) → i < length pieces → new.limits ≡ limits →
    Stands t (history_of (take i pieces)) M → o ≡ Some f → TakesAll t M (get_or pieces i p).0 (get_or pieces i p).1.now o new N → IsEnding limits (history_of pieces) (Refused f) × AreMessages limits (history_of pieces) N (Refused f)
read_refused limits t new M N f pieces i p o l same st is fed =
    let x = get_or pieces i p in
    let r = subst (λ z. TakesAll t M x.0 x.1.now z new N) is fed (history_of (take i pieces)) st in
    let r' = subst (λ z. Refuses new z N f) (history_step pieces i p l) r in
    let both = refused new (history_of (take (i + 1) pieces)) (history_of (drop (i + 1) pieces)) N f r' in
    let whole = subst (λ z. IsEnding new.limits z (Refused f) × AreMessages new.limits z N (Refused f)) (history_rest pieces (i + 1)) both in
    subst (λ z. IsEnding z (history_of pieces) (Refused f) × AreMessages z (history_of pieces) N (Refused f)) same whole

pub read_more : (t new : TalkState) (M N : List Message) (pieces : List (Side × Bor (List ℕ))) (i : ℕ) (p : Side × Bor (List ℕ)) (o : Option Fault) → i < length pieces →
    Stands t (history_of (take i pieces)) M → o ≡ None → TakesAll t M (get_or pieces i p).0 (get_or pieces i p).1.now o new N → Stands new (history_of (take (i + 1) pieces)) N
read_more t new M N pieces i p o l st is fed =
    let x = get_or pieces i p in
    subst (λ z. Stands new z N) (history_step pieces i p l) (subst (λ z. TakesAll t M x.0 x.1.now z new N) is fed (history_of (take i pieces)) st)

pub read_ends : (limits : Limits) (t : TalkState) (M : List Message) (e : Ending) (pieces : List (Side × Bor (List ℕ))) (i : ℕ) → length pieces ≤ i → t.limits ≡ limits → Stands t (history_of (take i pieces)) M →
    ((h : History) (M : List Message) → Stands t h M → IsEnding t.limits h e) → IsEnding limits (history_of pieces) e × AreMessages limits (history_of pieces) M e
read_ends limits t M e pieces i l same st ends =
    let st' = subst (λ z. Stands t (history_of z) M) (take_all i pieces l) st in
    let is = ends (history_of pieces) M st' in
    subst (λ z. IsEnding z (history_of pieces) e × AreMessages z (history_of pieces) M e) same (is, stands_messages t (history_of pieces) M st' e is)
