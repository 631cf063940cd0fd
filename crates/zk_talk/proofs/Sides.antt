-- What a piece does to a talk, by what it does to its side.
use Rattle.std.proofs.Common.{◌≡◌, ℕ, ◌+◌, ◌≤◌, List, [], ◌∷◌, ◌++◌, length, take, drop, Option, refl, sym, ap, ◌∙◌, subst, arith}
use Rattle.std.proofs.lemmas.List.{length-take-le, take-append-drop, take_all}
use Rattle.zk_jute.specs.{declared.fault.ItemFault.ItemFault, declared.fault.Reason.Reason}
use Rattle.zk_jute.specs.declared.fault.Reason.TheVariants.{StreamEnd, LengthRange}
use Rattle.zk_frames.specs.Framing.{frame}
use Rattle.zk_frames.proofs.Cuts.{drop-frame}
use Rattle.zk_waiting.specs.{declared.lane.Lane.Lane, Waiting.Lanes, Waiting.queue_on}
use Rattle.zk_talk.specs.{declared.message.Side.Side, Held.Message, History.History, History.on, declared.replied.Replied.Replied, Conversation.Conversation, Conversation.IsConversation, Conversation.load}
use Rattle.zk_talk.specs.declared.message.Side.TheVariants.{Client, Server}
use Rattle.zk_talk.specs.declared.message.MessageOf.TheVariants.{Client as FromClient, Server as FromServer}
use Rattle.zk_talk.specs.declared.stream.Advance.TheVariants.{Within, Whole, Refused}
use Rattle.zk_talk.specs.{Fault.IsPayloadFault, Fault.fault_of, Fault.side_limit, Queues.IsQueue, Numbers.IsNewest, Describes.Describes, Advance.IsAdvance, Advance.IsStop, Advance.IsStop.too_many, Advance.IsStop.out_of_range}
use Rattle.zk_talk.specs.Stands.{TalkState, Stands, Refuses, held_on, frames_on, size_on}
use Rattle.zk_records.specs.declared.profile.Profile.{Profile}
use Rattle.zk_talk.specs.Judged.{Tells, TellsClient, TellsServer, IsNextClient, IsNextServer, IsNumbered, IsForgotten, TellsReplied}
use Rattle.zk_talk.specs.{Taking.GoesOn, Taking.IsRefused, Said.payload_of}
use Rattle.zk_talk.proofs.{Judging.in_turn, Judging.next_load, Lanes.remembered, Lanes.forgotten, Numbers.numbers_after_client, Numbers.numbers_after_server, Numbers.newest_still, Numbers.newest_after, Standing.with_message, Standing.MayOn}
use Rattle.zk_talk.proofs.Talks.{grown, refusing, counted, IsKnownAfter}
use Rattle.zk_talk.proofs.Pieces.{described, go_more, go_whole, fail_here, fail_length, fail_end}

-- what a whole frame carries stands behind its length
pub carried : (bytes p : List ℕ) → bytes ≡ frame p → p ≡ drop 4 bytes
carried bytes p e = sym (drop-frame p) ∙ ap (drop 4) (sym e)

-- the side's frame with this payload, behind so many of the client and so many of the side, is the message's: it may come
-- now, and then these wait
abbrev pub IsNextOn : Side → Profile → ℕ → ℕ → Lanes → List ℕ → Message → Lanes → Type 0
IsNextOn Client profile asked count waiting p (FromClient f) waits = IsNextClient profile count waiting p f × IsNumbered count f waiting waits
IsNextOn Server profile asked count waiting p (FromServer s) waits = IsNextServer asked count waiting p s × IsForgotten s waiting waits
IsNextOn Client profile asked count waiting p (FromServer s) waits = ⊥
IsNextOn Server profile asked count waiting p (FromClient f) waits = ⊥

-- what is told of the server's newest frame, where the side keeps this: as before, or of the message
abbrev pub IsToldOn : Side → TalkState → List ℕ → Option Replied → Message → Type 0
IsToldOn Client t kept o m = o ≡ t.answered
IsToldOn Server t kept o (FromServer s) = (kept ≡ [] → ⊥) → TellsReplied s t.waiting o
IsToldOn Server t kept o (FromClient f) = Unit {0}

-- the fault of the side's payload
abbrev pub TellsOn : Side → Profile → ℕ → ℕ → Lanes → List ℕ → ItemFault → Type 0
TellsOn Client profile asked count waiting p e = TellsClient profile count waiting p e
TellsOn Server profile asked count waiting p e = TellsServer asked count waiting p e

-- what the side's next message is to the conversation before it
module _ (t : TalkState) (max : t.waiting.max ≡ t.limits.waiting) (v : Conversation) (d : Describes t.client_frames t.server_frames t.waiting v) (p : List ℕ) where
  next_may : (side : Side) (m : Message) (w : Lanes) → IsNextOn side t.limits.profile t.client_frames (frames_on side t) t.waiting p m w → load v.client v.server ≤ t.limits.waiting → (payload_of m ≡ p) × MayOn side t.limits v m
  next_may Client (FromClient f) w n l =
      (n.0.is, (in_turn t.client_frames t.server_frames t.waiting v d t.limits.profile f n.0.turn n.0.sent, omega (arith, max, next_load t.client_frames t.server_frames t.waiting v d t.client_frames w f n.1 (omega (arith, max, l)))))
  next_may Server (FromServer s) w n l = (n.0.is, n.0.may v d)
  next_may Client (FromServer s) w next l = absurd next
  next_may Server (FromClient f) w next l = absurd next

  next_waits : (side : Side) (m : Message) (w : Lanes) → IsNextOn side t.limits.profile t.client_frames (frames_on side t) t.waiting p m w → (lane : Lane) → IsQueue lane (with_message v m) (queue_on lane w)
  next_waits Client (FromClient f) w n = remembered t.client_frames t.server_frames t.waiting w v d t.client_frames f n.1
  next_waits Server (FromServer s) w n = forgotten t.client_frames t.server_frames t.waiting w v d s n.0.due n.1
  next_waits Client (FromServer s) w next = absurd next
  next_waits Server (FromClient f) w next = absurd next

  next_known : (side : Side) (m : Message) (w : Lanes) (k : List ℕ) (o : Option Replied) → IsNextOn side t.limits.profile t.client_frames (frames_on side t) t.waiting p m w → IsToldOn side t k o m →
      IsConversation t.limits.profile v → IsKnownAfter Server t t.server_kept t.answered v t.waiting → IsKnownAfter side t k o (with_message v m) w
  next_known Client (FromClient f) w k o n told conversation known =
      (numbers_after_client v t.waiting w known.0 f t.client_frames d.may d.client n.1, (λ kept. newest_still v f o (subst (IsNewest v) (sym told) (known.1 kept))))
  next_known Server (FromServer s) w k o n told conversation known =
      (numbers_after_server v t.waiting w known.0 s n.0.due n.1, (λ kept. newest_after t.limits.profile v t.waiting conversation known.0 s o (n.0.may v d) (told kept)))
  next_known Client (FromServer s) w k o next told conversation known = absurd next
  next_known Server (FromClient f) w k o next told conversation known = absurd next

  told_fault : (side : Side) (e : ItemFault) → TellsOn side t.limits.profile t.client_frames (frames_on side t) t.waiting p e → Tells (IsPayloadFault t.limits v side p) e
  told_fault Client e told = told t.limits t.server_frames v (sym max) refl d
  told_fault Server e told = told v d

-- where the side keeps nothing, and nothing else is told
pub told_nothing : (side : Side) (t : TalkState) (m : Message) (count : ℕ) (w : Lanes) (p : List ℕ) → IsNextOn side t.limits.profile t.client_frames count t.waiting p m w → IsToldOn side t [] t.answered m
told_nothing Client t m count w p next = refl
told_nothing Server t (FromServer s) count w p next = λ kept. absurd (kept refl)
told_nothing Server t (FromClient f) count w p next = absurd next

module _ (side : Side) (t : TalkState) (piece after : List ℕ) where
  pub goes_within : (n : ℕ) → n ≡ length piece → IsAdvance (side_limit t.limits side) (size_on side t) (held_on side t) piece Within after → GoesOn t side (take n piece) [] (grown side t after (size_on side t + n))
  goes_within n e a =
      let all = take_all n piece (omega (arith, e)) in
      subst (λ z. GoesOn t side (take n piece) [] (grown side t z (size_on side t + n))) (sym a.0)
      (subst (λ z. GoesOn t side z [] (grown side t (held_on side t ++ piece) (size_on side t + n))) (sym all) (go_more side t piece n e a.1 (omega (arith, a.2, e))))

  pub stopped : (used : ℕ) (reason : Reason) → IsAdvance (side_limit t.limits side) (size_on side t) (held_on side t) piece (Refused used reason) after →
      IsRefused t side piece (fault_of side (frames_on side t) (size_on side t + used) 0 reason) (refusing side t after (fault_of side (frames_on side t) (size_on side t + used) 0 reason))
  stopped used reason a = go a.0
    where
      go : IsStop (side_limit t.limits side) (size_on side t) (held_on side t) piece used reason after → (h : History) (M : List Message) → Stands t h M →
          Refuses (refusing side t after (fault_of side (frames_on side t) (size_on side t + used) 0 reason)) (h ++ on side piece) M (fault_of side (frames_on side t) (size_on side t + used) 0 reason)
      go (too_many k u l full begin r kept) h M st =
          let stop = fail_end side t after piece k l full begin kept h M st in
          subst (λ z. Refuses (refusing side t after (fault_of side (frames_on side t) (size_on side t + used) 0 z)) (h ++ on side piece) M (fault_of side (frames_on side t) (size_on side t + used) 0 z)) (sym r)
          (subst (λ z. Refuses (refusing side t after (fault_of side (frames_on side t) (size_on side t + z) 0 StreamEnd)) (h ++ on side piece) M (fault_of side (frames_on side t) (size_on side t + z) 0 StreamEnd)) (sym u) stop)
      go (out_of_range some l fits few bad r kept) h M st =
          let n : used ≡ length (take used piece) = sym (length-take-le used piece l) in
          let stop = fail_length side t after (take used piece) (drop used piece) used n (omega (arith, n, some)) fits few bad kept h M st in
          subst (λ z. Refuses (refusing side t after (fault_of side (frames_on side t) (size_on side t + used) 0 z)) (h ++ on side piece) M (fault_of side (frames_on side t) (size_on side t + used) 0 z)) (sym r)
          (subst (λ z. Refuses (refusing side t after (fault_of side (frames_on side t) (size_on side t + used) 0 LengthRange)) (h ++ on side z) M (fault_of side (frames_on side t) (size_on side t + used) 0 LengthRange)) (take-append-drop used piece) stop)

  -- a frame more, which is passed or kept
  pub goes_whole : (k : List ℕ) (o : Option Replied) (used : ℕ) (m : Message) (w : Lanes) → IsAdvance (side_limit t.limits side) (size_on side t) (held_on side t) piece (Whole used) after → t.waiting.max ≡ t.limits.waiting →
      IsNextOn side t.limits.profile t.client_frames (frames_on side t) t.waiting (drop 4 after) m w → IsToldOn side t k o m → GoesOn t side (take used piece) (m ∷ []) (counted side t k (size_on side t + used) w o)
  goes_whole k o used m w a max next told =
      let whole = a.4 in
      let n : used ≡ length (take used piece) = sym (length-take-le used piece a.1) in
      let same = carried after whole.0 whole.1 in
      go_whole side t k o (take used piece) used whole.0 m w n (omega (arith, n, a.0)) (sym a.3 ∙ whole.1) whole.2 a.2
      (λ v d l. (let j = next_may t max v d (drop 4 after) side m w next l in (j.0 ∙ sym same, j.1)))
      (λ v d. next_waits t max v d (drop 4 after) side m w next)
      (λ v d. next_known t max v d (drop 4 after) side m w k o next told)

  pub judged : (used : ℕ) (e : ItemFault) → IsAdvance (side_limit t.limits side) (size_on side t) (held_on side t) piece (Whole used) after → t.waiting.max ≡ t.limits.waiting →
      TellsOn side t.limits.profile t.client_frames (frames_on side t) t.waiting (drop 4 after) e →
      IsRefused t side piece (fault_of side (frames_on side t) (size_on side t + used) e.place e.reason) (refusing side t after (fault_of side (frames_on side t) (size_on side t + used) e.place e.reason))
  judged used e a max told = go
    where
      go : (h : History) (M : List Message) → Stands t h M →
          Refuses (refusing side t after (fault_of side (frames_on side t) (size_on side t + used) e.place e.reason)) (h ++ on side piece) M (fault_of side (frames_on side t) (size_on side t + used) e.place e.reason)
      go h M st =
          let whole = a.4 in
          let n : used ≡ length (take used piece) = sym (length-take-le used piece a.1) in
          let same = carried after whole.0 whole.1 in
          let j = told_fault t max st.conversation (described t h M st) (drop 4 after) side e told in
          let cause = subst (λ z. IsPayloadFault t.limits st.conversation side z j.0 e.reason) (sym same) j.1 in
          subst (λ z. Refuses (refusing side t after (fault_of side (frames_on side t) (size_on side t + used) e.place e.reason)) (h ++ on side z) M (fault_of side (frames_on side t) (size_on side t + used) e.place e.reason)) (take-append-drop used piece)
          (fail_here side t after j.0 e.place j.2 e.reason (take used piece) (drop used piece) used n (omega (arith, n, a.0)) a.2 whole.0 (sym a.3 ∙ whole.1) a.3 whole.2 h M st cause)
