-- Every history of bytes is good or has a fault: byte after byte, by what a talk that has come so far does.
use Rattle.std.proofs.Common.{◌≡◌, ℕ, zero, suc, ◌+◌, ◌<◌, ◌≤◌, ◌^◌, ◌⊎◌, inl, inr, List, [], ◌∷◌, ◌++◌, length, drop, Option, Some, None, refl, sym, subst, ◌∙◌, append_assoc, arith}
use Rattle.std.specs.Prelude.{◌≢◌, slice_get}
use Rattle.std.specs.List.{AllByRecursion}
use Rattle.std.proofs.{lemmas.Bool.cases_lt, lemmas.Bool.cases_eq, lemmas.List.append-nil}
use Rattle.zk_jute.specs.{declared.fault.ItemFault.ItemFault, declared.fault.Reason.Reason, Reading.told_place}
use Rattle.zk_jute.specs.declared.fault.Reason.TheVariants.{StreamEnd, LengthRange, QueueFull, Unasked, XidOrder}
use Rattle.zk_jute.proofs.Steps.{IsBytes, IsBytes-drop}
use Rattle.zk_records.specs.declared.profile.Profile.{Profile}
use Rattle.zk_asks.specs.{Held.ClientFrame, Codes.event_xid, Frames.IsFirst, Frames.IsOfProfile, Faults.IsAskFault}
use Rattle.zk_asks.specs.declared.frame.ClientFrameOf.TheVariants.{Connect, Ask}
use Rattle.zk_asks.proofs.{Choices.int_decided, Deciding.first_decided, Deciding.ask_decided, Deciding.FirstIs, Deciding.LaterIs}
use Rattle.zk_answers.specs.Held.{ServerFrame}
use Rattle.zk_answers.specs.declared.frame.ServerFrameOf.TheVariants.{Answered}
use Rattle.zk_answers.proofs.Deciding.{connected_decided, head_decided, Heads, event_decided, reply_decided}
use Rattle.zk_frames.specs.Framing.{IsBeginning, IsFrame, IsBadLength}
use Rattle.zk_frames.proofs.Extending.{extended}
use Rattle.zk_waiting.specs.Lane.{lane_of}
use Rattle.zk_waiting.specs.Waiting.{Lanes, Request, queue_on, weight_of}
use Rattle.zk_talk.specs.{declared.limits.Limits.Limits, declared.message.Side.Side, declared.message.Fault.Fault, Held.Message, History.History, History.on, Conversation.weight}
use Rattle.zk_talk.specs.declared.message.Side.TheVariants.{Client, Server}
use Rattle.zk_talk.specs.declared.message.Ending.TheVariants as ending
use Rattle.zk_talk.specs.declared.message.MessageOf.TheVariants.{Client as FromClient, Server as FromServer}
use Rattle.zk_talk.specs.{Good.IsGood, Fault.IsFaultOf, Fault.fault_of, Fault.side_limit, Answer.AreMessages, Judged.IsNextClient, Judged.IsNextServer, Judged.HasRoomFor}
use Rattle.zk_talk.specs.Stands.{TalkState, Stands, Refuses, held_on, frames_on, size_on}
use Rattle.zk_talk.specs.Advance.IsStop.{too_many, out_of_range}
use Rattle.zk_talk.proofs.{Lanes.remembered_there, Lanes.forgotten_there, Payloads.client_is, Payloads.server_is, Small.small_limits, Start.start_state, Start.start, Talks.grown, Talks.counted, Talks.refusing, Headline.messages_more}
use Rattle.zk_talk.proofs.Sides.{IsNextOn, TellsOn, told_nothing, goes_within, stopped, goes_whole, judged}
use Rattle.zk_talk.proofs.Judging.{later_may, first_refused, ask_refused, full, too_early, connected_refused, connected_may, head_refused, event_refused, event_may, nothing_waits, wrong, reply_refused, reply_may, reply_due, due_waits, connected_due, event_due}

abbrev pub AreBytes : History → Type 0
AreBytes h = AllByRecursion (λ (x : Side × ℕ). x.1 < 256) h

abbrev item_fault : ℕ → Reason → ItemFault
item_fault place reason = record { place = told_place place; reason = reason }

-- ---- the client's payloads

first_has_room : (f : ClientFrame) (w : Lanes) → IsFirst f → HasRoomFor f w
first_has_room (Connect hello flag) w first = tt
first_has_room (Ask xid ask) w first = absurd first

later_has_room : (f : ClientFrame) (w : Lanes) → weight_of w + weight f ≤ w.max → HasRoomFor f w
later_has_room (Connect hello flag) w fits = tt
later_has_room (Ask xid ask) w fits = fits

-- the next message of the side, and what waits then; or the fault
abbrev NextDecided : Side → Profile → ℕ → ℕ → Lanes → List ℕ → Type 0
NextDecided side profile asked count w p =
    ((m : Message) × (x : Lanes) × IsNextOn side profile asked count w p m x × (x.max ≡ w.max)) ⊎ ((e : ItemFault) × TellsOn side profile asked count w p e)

module _ (profile : Profile) (asked count : ℕ) (w : Lanes) (p : List ℕ) where
  first_next : count ≡ 0 → FirstIs p → NextDecided Client profile asked count w p
  first_next none f =
      let room = first_has_room f.0 w f.1 in
      let x = remembered_there count f.0 w room in
      let next : IsNextClient profile count w p f.0 = record { turn = ((λ _. f.1), (λ some. absurd (some none))); sent = f.2; is = client_is f.0 p (sym f.3); room = room } in
      inl (FromClient f.0, x.0, (next, x.1), x.2)

  later_next : (count ≡ 0 → ⊥) → LaterIs profile p → NextDecided Client profile asked count w p
  later_next some f = elim (cases_lt w.max (weight_of w + weight f.0)) [
    | inl over ↦ inr (
      item_fault 0 QueueFull,
      λ limits m v waits same d.
          let of = subst (λ (q : Profile). IsOfProfile q f.0) (sym same) f.2 in
          (0, full count m w v d limits p f.0 (later_may count m w v d limits.profile f.0 some f.1 f.3 of) f.1 (client_is f.0 p (sym f.4)) (omega (arith, over, waits)), refl),
    )
    | inr fits ↦
        let room = later_has_room f.0 w fits in
        let x = remembered_there count f.0 w room in
        let next : IsNextClient profile count w p f.0 = record { turn = ((λ none. absurd (some none)), (λ _. (f.1, f.2))); sent = f.3; is = client_is f.0 p (sym f.4); room = room } in
        inl (FromClient f.0, x.0, (next, x.1), x.2)
  ]

  client_decided : IsBytes p → NextDecided Client profile asked count w p
  client_decided fits = elim (cases_eq count 0) [
    | inl none ↦ elim (first_decided p fits) [
      | inl f ↦ first_next none f
      | inr f ↦ inr (item_fault f.0 f.1, λ limits m v waits same d. (f.0, first_refused count m w v d limits p f.0 f.1 none f.2, refl))
    ]
    | inr some ↦ elim (ask_decided profile p fits) [
      | inl f ↦ later_next some f
      | inr f ↦ inr (item_fault f.0 f.1, λ limits m v waits same d. (f.0, ask_refused count m w v d limits p f.0 f.1 some (subst (λ (q : Profile). IsAskFault q p f.0 f.1) (sym same) f.2), refl))
    ]
  ]

-- ---- the server's payloads

module _ (profile : Profile) (asked count : ℕ) (w : Lanes) (p : List ℕ) where
  server_next : (s : ServerFrame) → IsNextServer asked count w p s → NextDecided Server profile asked count w p
  server_next s next = let x = forgotten_there s w in inl (FromServer s, x.0, (next, x.1), x.2)

  welcome_decided : IsBytes p → count ≡ 0 → NextDecided Server profile asked count w p
  welcome_decided fits none = elim (cases_eq asked 0) [
    | inl early ↦ inr (item_fault 0 Unasked, λ v d. (0, too_early asked count w v d p none early, refl))
    | inr late ↦ elim (connected_decided p fits) [
      | inl s ↦ server_next s.0 (record { due = due_waits w s.0 (connected_due w s.0 s.1); is = server_is s.0 p (sym s.3); may = λ v d. connected_may asked count w v d s.0 none late s.1 s.2 })
      | inr f ↦ inr (item_fault f.0 f.1, λ v d. (f.0, connected_refused asked count w v d p f.0 f.1 none late f.2, refl))
    ]
  ]

  module _ (some : count ≡ 0 → ⊥) (k : Heads p) where
    told_event : k.header.xid ≡ event_xid → NextDecided Server profile asked count w p
    told_event x = elim (event_decided p k x) [
      | inl s ↦ server_next s.0 (record { due = due_waits w s.0 (event_due w s.0 s.1); is = server_is s.0 p (sym s.3); may = λ v d. event_may asked count w v d s.0 some s.1 s.2 })
      | inr f ↦ inr (item_fault f.0 f.1, λ v d. (f.0, event_refused asked count w v d p f.0 f.1 k.header k.rest some k.is x f.2, refl))
    ]

    answered_by : k.header.xid ≢ event_xid → (r : Request) → slice_get (queue_on (lane_of k.header.xid) w) 0 ≡ Some r → r.xid ≡ k.header.xid → NextDecided Server profile asked count w p
    answered_by x r oldest same = elim (reply_decided r.op r.parts p k x) [
      | inl q ↦
          let s = Answered q.reply in
          let pay = server_is s p (sym q.is) in
          server_next s (record {
            due = due_waits w s (reply_due w p k.header k.rest r s k.is oldest q.fits q.sent pay);
            is = pay;
            may = λ v d. reply_may asked count w v d p k.header k.rest r s some k.is oldest same q.fits q.sent pay;
          })
      | inr f ↦ inr (item_fault f.0 f.1, λ v d. (f.0, reply_refused asked count w v d p f.0 f.1 k.header k.rest r some k.is x oldest same f.2, refl))
    ]

    told_reply : k.header.xid ≢ event_xid → (o : Option Request) → slice_get (queue_on (lane_of k.header.xid) w) 0 ≡ o → NextDecided Server profile asked count w p
    told_reply x None oldest = inr (item_fault 0 Unasked, λ v d. (0, nothing_waits asked count w v d p k.header k.rest some k.is x oldest, refl))
    told_reply x (Some r) oldest = elim (int_decided r.xid k.header.xid) [
      | inl same ↦ answered_by x r oldest same
      | inr other ↦ inr (item_fault 0 (XidOrder r.xid k.header.xid), λ v d. (0, wrong asked count w v d p k.header k.rest r some k.is x oldest other, refl))
    ]

    told_later : NextDecided Server profile asked count w p
    told_later = elim (int_decided k.header.xid event_xid) [
      | inl x ↦ told_event x
      | inr x ↦ told_reply x (slice_get (queue_on (lane_of k.header.xid) w) 0) refl
    ]

  server_decided : IsBytes p → NextDecided Server profile asked count w p
  server_decided fits = elim (cases_eq count 0) [
    | inl none ↦ welcome_decided fits none
    | inr some ↦ elim (head_decided p fits) [
      | inl k ↦ told_later some k
      | inr f ↦ inr (item_fault f.0 f.1, λ v d. (f.0, head_refused asked count w v d p f.0 f.1 some f.2, refl))
    ]
  ]

next_decided : (side : Side) (profile : Profile) (asked count : ℕ) (w : Lanes) (p : List ℕ) → IsBytes p → NextDecided side profile asked count w p
next_decided Client = client_decided
next_decided Server = server_decided

-- ---- one byte more

-- a talk has come through the history
pub record Reached (limits : Limits) (h : History) : Type 0 where
  pub talk : TalkState
  pub messages : List Message
  pub is : talk.limits ≡ limits
  pub max : talk.waiting.max ≡ talk.limits.waiting
  pub client : IsBytes talk.client_held
  pub server : IsBytes talk.server_held
  pub stands : Stands talk h messages

-- the history has come to a fault, behind these messages
abbrev pub IsStopped : Limits → History → Type 0
IsStopped limits h = (fault : Fault) × (messages : List Message) × AreMessages limits h messages (ending.Refused fault)

abbrev pub Outcome : Limits → History → Type 0
Outcome limits h = Reached limits h ⊎ IsStopped limits h

no_bytes : IsBytes []
no_bytes i = omega arith

one_byte : (b : ℕ) → b < 256 → IsBytes (b ∷ [])
one_byte b small zero = small
one_byte b small (suc i) = omega arith

both_bytes : (xs ys : List ℕ) → IsBytes xs → IsBytes ys → IsBytes (xs ++ ys)
both_bytes [] ys p q i = q i
both_bytes (x ∷ xs) ys p q zero = p zero
both_bytes (x ∷ xs) ys p q (suc i) = both_bytes xs ys (λ j. p (suc j)) q i

stopped_by : (side : Side) (t : TalkState) (held : List ℕ) (f : Fault) (h : History) (M : List Message) → Refuses (refusing side t held f) h M f → IsStopped t.limits h
stopped_by Client t held f h M x = (f, M, (x.is, x.order))
stopped_by Server t held f h M x = (f, M, (x.is, x.order))

module _ (h : History) (r : TalkState) (M : List Message) (max : r.waiting.max ≡ r.limits.waiting) (client : IsBytes r.client_held) (server : IsBytes r.server_held) (st : Stands r h M) where
  reach : (side : Side) (size : ℕ) (x : Lanes) → x.max ≡ r.waiting.max → (n : History) (N : List Message) → Stands (counted side r [] size x r.answered) n N → Reached r.limits n
  reach Client size x same n N s = record { talk = counted Client r [] size x r.answered; messages = N; is = refl; max = same ∙ max; client = no_bytes; server = server; stands = s }
  reach Server size x same n N s = record { talk = counted Server r [] size x r.answered; messages = N; is = refl; max = same ∙ max; client = client; server = no_bytes; stands = s }

  grows : (side : Side) (held : List ℕ) (size : ℕ) → IsBytes held → (n : History) (N : List Message) → Stands (grown side r held size) n N → Reached r.limits n
  grows Client held size bytes n N s = record { talk = grown Client r held size; messages = N; is = refl; max = max; client = bytes; server = server; stands = s }
  grows Server held size bytes n N s = record { talk = grown Server r held size; messages = N; is = refl; max = max; client = client; server = bytes; stands = s }

  bytes_on : (side : Side) → IsBytes (held_on side r)
  bytes_on Client = client
  bytes_on Server = server

  begins : (side : Side) → IsBeginning (side_limit r.limits side) (held_on side r)
  begins Client = st.good.whole.client_cut.beginning
  begins Server = st.good.whole.server_cut.beginning

  sized : (side : Side) → size_on side r < 2 ^ 62
  sized Client = omega (arith, st.client_size, st.good.client_size)
  sized Server = omega (arith, st.server_size, st.good.server_size)

  small : (side : Side) → side_limit r.limits side < 2 ^ 31
  small Client = (small_limits r.limits).0
  small Server = (small_limits r.limits).1

  module _ (side : Side) (b : ℕ) (fits : b < 256) where
    abbrev piece : List ℕ
    piece = b ∷ []

    abbrev now : List ℕ
    now = held_on side r ++ piece

    now_bytes : IsBytes now
    now_bytes = both_bytes (held_on side r) piece (bytes_on side) (one_byte b fits)

    ends_here : size_on side r + 1 ≡ 2 ^ 62 → Outcome r.limits (h ++ on side piece)
    ends_here last =
        let begin = subst (IsBeginning (side_limit r.limits side)) (sym (append-nil (held_on side r))) (begins side) in
        let stop = stopped side r piece (held_on side r ++ []) 1 StreamEnd (too_many 0 refl (omega arith) (omega (arith, last)) begin refl refl, omega arith) h M st in
        inr (stopped_by side r (held_on side r ++ []) (fault_of side (frames_on side r) (size_on side r + 1) 0 StreamEnd) (h ++ on side piece) M stop)

    bad_length : size_on side r + 1 < 2 ^ 62 → length (held_on side r) < 4 → IsBadLength (side_limit r.limits side) now → Outcome r.limits (h ++ on side piece)
    bad_length room few bad =
        let stop = stopped side r piece now 1 LengthRange (out_of_range (omega arith) (omega arith) room few bad refl refl, omega arith) h M st in
        inr (stopped_by side r now (fault_of side (frames_on side r) (size_on side r + 1) 0 LengthRange) (h ++ on side piece) M stop)

    still_begins : size_on side r + 1 < 2 ^ 62 → IsBeginning (side_limit r.limits side) now → Outcome r.limits (h ++ on side piece)
    still_begins room begin = inl (grows side now (size_on side r + 1) now_bytes (h ++ on side piece) (M ++ []) (goes_within side r piece now 1 refl (refl, begin, room) h M st))

    is_whole : size_on side r + 1 < 2 ^ 62 → IsFrame (side_limit r.limits side) now → Outcome r.limits (h ++ on side piece)
    is_whole room whole = elim (next_decided side r.limits.profile r.client_frames (frames_on side r) r.waiting (drop 4 now) (IsBytes-drop 4 now now_bytes)) [
      | inl n ↦ inl (reach side (size_on side r + 1) n.1 n.3 (h ++ on side piece) (M ++ n.0 ∷ [])
          (goes_whole side r piece now [] r.answered 1 n.0 n.1 (omega arith, omega arith, room, refl, whole) max n.2 (told_nothing side r n.0 (frames_on side r) n.1 (drop 4 now) n.2) h M st))
      | inr e ↦
          let stop = judged side r piece now 1 e.0 (omega arith, omega arith, room, refl, whole) max e.1 h M st in
          inr (stopped_by side r now (fault_of side (frames_on side r) (size_on side r + 1) e.0.place e.0.reason) (h ++ on side piece) M stop)
    ]

    one_byte_more : Outcome r.limits (h ++ on side piece)
    one_byte_more = elim (cases_lt (size_on side r + 1) (2 ^ 62)) [
      | inl room ↦ elim (extended (side_limit r.limits side) (held_on side r) b (small side) now_bytes (begins side)) [
        | inl begin ↦ still_begins room begin
        | inr more ↦ elim more [ inl whole ↦ is_whole room whole | inr bad ↦ bad_length room bad.0 bad.1 ]
      ]
      | inr over ↦ ends_here (omega (arith, over, sized side))
    ]

step : (limits : Limits) (h : History) → Reached limits h → (x : Side × ℕ) → x.1 < 256 → Outcome limits (h ++ x ∷ [])
step limits h r x fits = subst (λ (l : Limits). Outcome l (h ++ x ∷ [])) r.is (one_byte_more h r.talk r.messages r.max r.client r.server r.stands x.0 x.1 fits)

all_decided : (limits : Limits) (rest before : History) → Reached limits before → AreBytes rest → Outcome limits (before ++ rest)
all_decided limits [] before r bytes = inl (subst (Reached limits) (sym (append-nil before)) r)
all_decided limits (x ∷ rest) before r bytes =
    let same = append_assoc before (x ∷ []) rest in
    elim (step limits before r x bytes.0) [
      | inl k ↦ subst (Outcome limits) same (all_decided limits rest (before ++ x ∷ []) k bytes.1)
      | inr f ↦ inr (f.0, f.1, subst (λ (z : History). AreMessages limits z f.1 (ending.Refused f.0)) same (messages_more limits (before ++ x ∷ []) rest f.1 f.0 f.2))
    ]

pub history_decided : (limits : Limits) (h : History) → AreBytes h → Outcome limits h
history_decided limits h bytes = all_decided limits h [] (record { talk = start_state limits; messages = []; is = refl; max = refl; client = no_bytes; server = no_bytes; stands = start limits }) bytes

pub good_or_fault : (limits : Limits) (h : History) → AreBytes h → IsGood limits h ⊎ ((fault : Fault) × IsFaultOf limits h fault)
good_or_fault limits h bytes = elim (history_decided limits h bytes) [
  | inl r ↦ inl (subst (λ (l : Limits). IsGood l h) r.is (r.stands.conversation, r.talk.client_held, r.talk.server_held, r.stands.good))
  | inr f ↦ inr (f.0, f.2.0)
]
