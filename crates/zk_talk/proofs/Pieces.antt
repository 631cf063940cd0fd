-- What a talk does with a piece, over plain values.
use Rattle.std.proofs.Common.{◌≡◌, ℕ, ◌+◌, ◌<◌, ◌≤◌, ◌^◌, inl, List, [], ◌∷◌, ◌++◌, length, drop, refl, sym, ap, ◌∙◌, subst, arith, append_assoc, take, get_or, Option}
use Rattle.std.proofs.lemmas.List.{append-nil, length_push, take-append-drop, drop_more, length-take-le}
use Rattle.zk_jute.specs.{declared.fault.Reason.Reason, Reading.told_place}
use Rattle.zk_jute.specs.declared.fault.Reason.TheVariants.{StreamEnd, LengthRange}
use Rattle.zk_frames.specs.Framing.{frame, IsBeginning, IsBadLength}
use Rattle.zk_waiting.specs.{declared.lane.Lane.Lane, Waiting.Lanes, Waiting.queue_on}
use Rattle.zk_talk.specs.{declared.message.Side.Side, declared.message.Side.TheVariants.Server, Held.Message, History.History, History.on, declared.replied.Replied.Replied}
use Rattle.zk_talk.specs.{Conversation.Conversation, Conversation.IsConversation, Conversation.load, Fault.IsCause, Fault.IsPayloadFault, Fault.fault_of, Fault.side_limit}
use Rattle.zk_talk.specs.{Fault.IsCause.stream_end, Fault.IsCause.length_range, Fault.IsCause.payload_fault, Queues.IsQueue, Describes.Describes, Taking.GoesOn, Said.payload_of}
use Rattle.zk_talk.specs.Stands.{TalkState, Stands, Refuses, held_on, frames_on, size_on}
use Rattle.zk_talk.proofs.{GoodSteps.load_here, Lists.IsPushed, Lists.last_of, Standing.frame_front, Standing.with_message, Standing.MayOn}
use Rattle.zk_talk.proofs.Talks.{grown, refusing, counted, IsKnownAfter, more, whole, refuse}

pub described : (t : TalkState) (h : History) (M : List Message) (st : Stands t h M) → Describes t.client_frames t.server_frames t.waiting st.conversation
described t h M st = record { client = st.client_frames; server = st.server_frames; may = st.good.conversation.server; queues = st.queues }

module _ (side : Side) (t : TalkState) where
  last_here : (part : List ℕ) (q : IsPushed part) → (held_on side t ++ q.init) ++ q.last ∷ [] ≡ held_on side t ++ part
  last_here part q = append_assoc (held_on side t) q.init (q.last ∷ []) ∙ ap (λ z. held_on side t ++ z) (sym q.is)

  pub go_more : (part : List ℕ) (n : ℕ) → n ≡ length part → IsBeginning (side_limit t.limits side) (held_on side t ++ part) → size_on side t + n < 2 ^ 62 → GoesOn t side part [] (grown side t (held_on side t ++ part) (size_on side t + n))
  go_more part n e begin size h M st =
      subst (λ z. Stands (grown side t (held_on side t ++ part) (size_on side t + z)) (h ++ on side part) (M ++ [])) (sym e)
      (subst (Stands (grown side t (held_on side t ++ part) (size_on side t + length part)) (h ++ on side part)) (sym (append-nil M)) (more t h M st side part begin (omega (arith, e, size))))

  pub go_whole : (k : List ℕ) (o : Option Replied) (part : List ℕ) (n : ℕ) (p : List ℕ) (m : Message) (w : Lanes) → n ≡ length part → 0 < length part → held_on side t ++ part ≡ frame p → length p ≤ side_limit t.limits side → size_on side t + n < 2 ^ 62 →
      ((v : Conversation) → Describes t.client_frames t.server_frames t.waiting v → load v.client v.server ≤ t.limits.waiting → (payload_of m ≡ p) × MayOn side t.limits v m) →
      ((v : Conversation) → Describes t.client_frames t.server_frames t.waiting v → (lane : Lane) → IsQueue lane (with_message v m) (queue_on lane w)) →
      ((v : Conversation) → Describes t.client_frames t.server_frames t.waiting v → IsConversation t.limits.profile v → IsKnownAfter Server t t.server_kept t.answered v t.waiting → IsKnownAfter side t k o (with_message v m) w) → GoesOn t side part (m ∷ []) (counted side t k (size_on side t + n) w o)
  go_whole k o part n p m w e l is fits size judged queues after h M st =
      let v = st.conversation in
      let d = described t h M st in
      let j = judged v d (load_here t.limits h v t.client_held t.server_held st.good) in
      let q = last_of part l in
      let last : (held_on side t ++ q.init) ++ q.last ∷ [] ≡ frame (payload_of m) = last_here part q ∙ is ∙ ap frame (sym j.0) in
      let long : length part ≡ length q.init + 1 = ap length q.is ∙ length_push q.init q.last in
      let r = whole t h M st side k o q.init q.last m w last (omega (arith, ap length j.0, fits)) j.1 (omega (arith, e, long, size)) (queues v d) (after v d st.good.conversation (st.numbers, st.newest)) in
      let size' : size_on side t + n ≡ size_on side t + (length q.init + 1) = omega (arith, e, long) in
      subst (λ z. Stands (counted side t k z w o) (h ++ on side part) (M ++ m ∷ [])) (sym size')
      (subst (λ z. Stands (counted side t k (size_on side t + (length q.init + 1)) w o) (h ++ on side z) (M ++ m ∷ [])) (sym q.is) r)

  -- ---- Refusals
  module _ (held : List ℕ) where
    fail_last : (place told : ℕ) → told ≡ told_place place → (reason : Reason) (part later : List ℕ) (n : ℕ) → n ≡ length part → (q : IsPushed part) → size_on side t + n < 2 ^ 62 → IsBeginning (side_limit t.limits side) (held_on side t ++ q.init) →
        held ≡ held_on side t ++ part → (h : History) (M : List Message) (st : Stands t h M) → IsCause t.limits st.conversation side (size_on side t + length q.init) (held_on side t ++ q.init) q.last place reason →
        Refuses (refusing side t held (fault_of side (frames_on side t) (size_on side t + n) told reason)) (h ++ on side (part ++ later)) M (fault_of side (frames_on side t) (size_on side t + n) told reason)
    fail_last place told is_told reason part later n e q size begin kept h M st cause =
        let long : length part ≡ length q.init + 1 = ap length q.is ∙ length_push q.init q.last in
        let small : size_on side t + length q.init < 2 ^ 62 = omega (arith, e, long, size) in
        let r = refuse t h M st side held place told is_told reason q.init q.last later begin small (λ less. kept ∙ sym (last_here part q)) (λ full. absurd (omega (arith, full, e, long, size))) cause in
        let size' : size_on side t + length q.init + 1 ≡ size_on side t + n = omega (arith, e, long) in
        let bytes : q.init ++ q.last ∷ later ≡ part ++ later = sym (append_assoc q.init (q.last ∷ []) later) ∙ ap (λ z. z ++ later) (sym q.is) in
        subst (λ z. Refuses (refusing side t held (fault_of side (frames_on side t) z told reason)) (h ++ on side (part ++ later)) M (fault_of side (frames_on side t) z told reason)) size'
        (subst (λ z. Refuses (refusing side t held (fault_of side (frames_on side t) (size_on side t + length q.init + 1) told reason)) (h ++ on side z) M (fault_of side (frames_on side t) (size_on side t + length q.init + 1) told reason)) bytes r)

    pub fail_here : (place told : ℕ) → told ≡ told_place place → (reason : Reason) (part later : List ℕ) (n : ℕ) → n ≡ length part → 0 < length part → size_on side t + n < 2 ^ 62 →
        (p : List ℕ) → held_on side t ++ part ≡ frame p → held ≡ held_on side t ++ part → length p ≤ side_limit t.limits side → (h : History) (M : List Message) (st : Stands t h M) → IsPayloadFault t.limits st.conversation side p place reason →
        Refuses (refusing side t held (fault_of side (frames_on side t) (size_on side t + n) told reason)) (h ++ on side (part ++ later)) M (fault_of side (frames_on side t) (size_on side t + n) told reason)
    fail_here place told is_told reason part later n e l size p is kept fits h M st judged =
        let q = last_of part l in
        let last = last_here part q ∙ is in
        let cause = payload_fault (omega (arith, e, ap length q.is, length_push q.init q.last, size)) p last fits judged in
        fail_last place told is_told reason part later n e q size (frame_front (side_limit t.limits side) (held_on side t ++ q.init) [] p q.last fits last) kept h M st cause

    pub fail_length : (part later : List ℕ) (n : ℕ) → n ≡ length part → 0 < length part → size_on side t + n < 2 ^ 62 → length (held_on side t) < 4 → IsBadLength (side_limit t.limits side) (held_on side t ++ part) → held ≡ held_on side t ++ part →
        (h : History) (M : List Message) → Stands t h M →
        Refuses (refusing side t held (fault_of side (frames_on side t) (size_on side t + n) 0 LengthRange)) (h ++ on side (part ++ later)) M (fault_of side (frames_on side t) (size_on side t + n) 0 LengthRange)
    fail_length part later n e l size few bad kept h M st =
        let q = last_of part l in
        let last = last_here part q in
        let begin : IsBeginning (side_limit t.limits side) (held_on side t ++ q.init) = inl (omega (arith, bad.0, ap length last, length_push (held_on side t ++ q.init) q.last)) in
        let cause = length_range (omega (arith, e, ap length q.is, length_push q.init q.last, size)) (subst (IsBadLength (side_limit t.limits side)) (sym last) bad) refl refl in
        fail_last 0 0 refl LengthRange part later n e q size begin kept h M st cause

    pub fail_end : (piece : List ℕ) (k : ℕ) → k < length piece → size_on side t + k + 1 ≡ 2 ^ 62 → IsBeginning (side_limit t.limits side) (held_on side t ++ take k piece) → held ≡ held_on side t ++ take k piece → (h : History) (M : List Message) → Stands t h M →
        Refuses (refusing side t held (fault_of side (frames_on side t) (size_on side t + (k + 1)) 0 StreamEnd)) (h ++ on side piece) M (fault_of side (frames_on side t) (size_on side t + (k + 1)) 0 StreamEnd)
    fail_end piece k l full begin kept h M st =
        let n = length-take-le k piece (omega arith) in
        let cut = sym (take-append-drop k piece) ∙ ap (λ z. take k piece ++ z) (drop_more piece k 0 l) in
        let cause = stream_end (omega (arith, n, full)) refl refl in
        let r = refuse t h M st side held 0 0 refl StreamEnd (take k piece) (get_or piece k 0) (drop (k + 1) piece) begin (omega (arith, n, full)) (λ less. absurd (omega (arith, less, n, full))) (λ many. kept) cause in
        let size' : size_on side t + length (take k piece) + 1 ≡ size_on side t + (k + 1) = omega (arith, n) in
        subst (λ z. Refuses (refusing side t held (fault_of side (frames_on side t) z 0 StreamEnd)) (h ++ on side piece) M (fault_of side (frames_on side t) z 0 StreamEnd)) size'
        (subst (λ z. Refuses (refusing side t held (fault_of side (frames_on side t) (size_on side t + length (take k piece) + 1) 0 StreamEnd)) (h ++ on side z) M (fault_of side (frames_on side t) (size_on side t + length (take k piece) + 1) 0 StreamEnd)) (sym cut) r)
