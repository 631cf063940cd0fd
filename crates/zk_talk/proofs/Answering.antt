-- What a talk answers for a piece, by what its side became.
use Rattle.std.proofs.Common.{◌≡◌, ◌≢◌, true, ℕ, ◌+◌, ◌⊎◌, inl, inr, List, [], ◌∷◌, ◌++◌, length, take, drop, Option, Some, Ok, refl, sym, ap, ◌∙◌, subst}
use Rattle.std.proofs.lemmas.List.{length-take-le}
use Rattle.zk_jute.specs.{declared.fault.ItemFault.ItemFault, declared.fault.Reason.Reason}
use Rattle.zk_jute.specs.declared.fault.Reason.TheVariants.{NoMemory}
use Rattle.zk_waiting.specs.Waiting.{Lanes}
use Rattle.zk_talk.specs.{declared.message.Fault.Fault, declared.message.Side.Side, declared.stream.Advance.Advance, declared.replied.Replied.Replied, Numbers.IsNewest, Held.Message, History.History}
use Rattle.zk_talk.specs.declared.message.Side.TheVariants.{Client, Server}
use Rattle.zk_talk.specs.declared.stream.Advance.TheVariants.{Within, Whole, Refused}
use Rattle.zk_talk.specs.{Streams.StreamState, Streams.passed, Streams.kept_now, Fault.fault_of, Fault.side_limit, Advance.IsAdvance, Advance.IsStop, Advance.IsStop.too_many, Advance.IsStop.out_of_range, Viewed.Shows, Receiving.IsReceived}
use Rattle.zk_talk.specs.Stands.{TalkState, Stands, held_on, kept_on, frames_on, size_on}
use Rattle.zk_talk.specs.Taking.{GoesOn, Steps, IsRefused, Fails, dropped}
use Rattle.zk_talk.proofs.Talks.{set_on, put_on, refusing}
use Rattle.zk_talk.proofs.Sides.{TellsOn, IsNextOn, IsToldOn, told_nothing, goes_within, stopped, goes_whole, judged}

lacking : (r : Reason) → (r ≡ NoMemory) ⊎ (r ≡ NoMemory → ⊥)
lacking NoMemory = inl refl
lacking _ = inr (λ (e : _). cc)

stop_known : (limit size : ℕ) (held piece : List ℕ) (used : ℕ) (reason : Reason) (after : List ℕ) → IsStop limit size held piece used reason after → reason ≡ NoMemory → ⊥
stop_known limit size held piece used reason after (too_many k u l full begin r kept) e = cc
stop_known limit size held piece used reason after (out_of_range some l fits few bad r kept) e = cc

-- what a side received, by what the answer holds
pub received : (side : Side) (old : StreamState) (piece : List ℕ) (kept : Option Fault) (new : StreamState) (keeps : Option Fault) {a b : Option ℕ} → a ≡ b → IsReceived side old piece kept (Ok a) new keeps → IsReceived side old piece kept (Ok b) new keeps
received side old piece kept new keeps e r = subst (λ z. IsReceived side old piece kept (Ok z) new keeps) e r

-- the side of which nothing is kept is this one
pub none_kept : {own side : Side} {u t : TalkState} → u ≡ t → side ≡ own → kept_on side t ≡ [] → kept_on own u ≡ []
none_kept {own} {side} {u} {t} same is none = ap (kept_on own) same ∙ subst (λ (z : Side). kept_on z t ≡ []) is none

-- what is kept is of no weight for the history
pub rekept : (t : TalkState) (a b : List ℕ) (h : History) (M : List Message) (st : Stands t h M) → ((b ≡ [] → ⊥) → IsNewest st.conversation t.answered) → Stands (record t { client_kept = a; server_kept = b }) h M
rekept t a b h M st newest = record {
  conversation = st.conversation;
  good = st.good;
  order = st.order;
  client_frames = st.client_frames;
  server_frames = st.server_frames;
  client_size = st.client_size;
  server_size = st.server_size;
  queues = st.queues;
  numbers = st.numbers;
  newest = newest;
  no_fault = st.no_fault;
}

-- a talk of which nothing but the side's kept frame is another has it given up
given_there : (side : Side) (t : TalkState) → set_on side t (held_on side t) [] (frames_on side t) (size_on side t) t.waiting t.answered t.fault ≡ dropped side t
given_there Client t = refl
given_there Server t = refl

held_there : (side : Side) (t : TalkState) (held kept : List ℕ) (count size : ℕ) (w : Lanes) (o : Option Replied) (k : Option Fault) → held_on side (set_on side t held kept count size w o k) ≡ held
held_there Client t held kept count size w o k = refl
held_there Server t held kept count size w o k = refl

module _ (side : Side) (t : TalkState) (piece : List ℕ) (s s' : StreamState) {limit : ℕ} (same : limit ≡ side_limit t.limits side) (stays : s ≡ record { limit = limit; held = s.held; kept = kept_on side t; count = frames_on side t; size = size_on side t }) where
  advance_on : (a : Advance) → IsAdvance limit (size_on side t) (held_on side t) piece a s.held → IsAdvance (side_limit t.limits side) (size_on side t) (held_on side t) piece a s.held
  advance_on a g = subst (λ z. IsAdvance z (size_on side t) (held_on side t) piece a s.held) same g

  same_count : s.count ≡ frames_on side t
  same_count = ap (λ (z : StreamState). z.count) stays

  same_size : s.size ≡ size_on side t
  same_size = ap (λ (z : StreamState). z.size) stays

  same_kept : s.kept ≡ kept_on side t
  same_kept = ap (λ (z : StreamState). z.kept) stays

  pub goes : IsAdvance limit (size_on side t) (held_on side t) piece Within s.held → s' ≡ record s { size = s.size + length piece } → GoesOn t side (take (length piece) piece) [] (put_on side t s' t.waiting t.answered t.fault)
  goes a q =
      let target = here (length piece) refl (advance_on Within a) in
      subst (λ (z : StreamState). GoesOn t side (take (length piece) piece) [] (put_on side t z t.waiting t.answered t.fault)) (sym q)
      (subst (GoesOn t side (take (length piece) piece) []) (λ i. set_on side t s.held (sym same_kept i) (sym same_count i) (sym same_size i + length piece) t.waiting t.answered t.fault) target)
    where
      here : (n : ℕ) → n ≡ length piece → IsAdvance (side_limit t.limits side) (size_on side t) (held_on side t) piece Within s.held → GoesOn t side (take n piece) [] (set_on side t s.held (kept_on side t) (frames_on side t) (size_on side t + n) t.waiting t.answered t.fault)
      here n e a = goes_within side t piece s.held n e a

  -- what was refused of the side is kept
  refuses : (k : Option Fault) (used place : ℕ) (reason : Reason) (result : Fault) → result ≡ fault_of side (frames_on side t) (size_on side t + used) place reason → k ≡ Some result →
      IsRefused t side piece (fault_of side (frames_on side t) (size_on side t + used) place reason) (refusing side t s.held (fault_of side (frames_on side t) (size_on side t + used) place reason)) → IsRefused t side piece result (put_on side t s t.waiting t.answered k)
  refuses k used place reason result told kept target =
      let holds = kept ∙ ap Some told in
      subst (λ z. IsRefused t side piece z (put_on side t s t.waiting t.answered k)) (sym told)
      (subst (IsRefused t side piece (fault_of side (frames_on side t) (size_on side t + used) place reason)) (λ i. set_on side t s.held (sym same_kept i) (sym same_count i) (sym same_size i) t.waiting t.answered (sym holds i)) target)

  pub stops : {from : Side} → from ≡ side → (k : Option Fault) (result : Fault) (used : ℕ) (reason : Reason) → IsAdvance limit (size_on side t) (held_on side t) piece (Refused used reason) s.held → result ≡ fault_of from (frames_on side t) (size_on side t + used) 0 reason → k ≡ Some result →
      (result.reason ≢ NoMemory) × IsRefused t side piece result (put_on side t s t.waiting t.answered k)
  stops is k result used reason a told kept =
      let known = stop_known limit (size_on side t) (held_on side t) piece used reason s.held a.0 in
      ((λ n. known (sym (ap (λ (z : Fault). z.reason) told) ∙ n)), refuses k used 0 reason result (told ∙ (λ i. fault_of (is i) (frames_on side t) (size_on side t + used) 0 reason)) kept (stopped side t piece s.held used reason (advance_on (Refused used reason) a)))

  module _ (used : ℕ) (a : IsAdvance limit (size_on side t) (held_on side t) piece (Whole used) s.held) (max : t.waiting.max ≡ t.limits.waiting) where
    -- a frame more, which is passed or kept
    one_more : (k : List ℕ) (o : Option Replied) (m : Message) (w : Lanes) → IsNextOn side t.limits.profile t.client_frames s.count t.waiting (drop 4 s.held) m w → IsToldOn side t k o m →
        GoesOn t side (take used piece) (m ∷ []) (set_on side t [] k (s.count + 1) (s.size + used) w o t.fault)
    one_more k o m w next told =
        let target = goes_whole side t piece s.held k o used m w (advance_on (Whole used) a) max (subst (λ z. IsNextOn side t.limits.profile t.client_frames z t.waiting (drop 4 s.held) m w) same_count next) told in
        subst (GoesOn t side (take used piece) (m ∷ [])) (λ i. set_on side t [] k (sym same_count i + 1) (sym same_size i + used) w o t.fault) target

    pub makes : (m : Message) (w : Lanes) → IsNextOn side t.limits.profile t.client_frames s.count t.waiting (drop 4 s.held) m w → kept_on side t ≡ [] → s' ≡ passed s used → GoesOn t side (take used piece) (m ∷ []) (put_on side t s' w t.answered t.fault)
    makes m w next none q =
        subst (λ (z : StreamState). GoesOn t side (take used piece) (m ∷ []) (put_on side t z w t.answered t.fault)) (sym q) (one_more s.kept t.answered m w next (subst (λ (z : List ℕ). IsToldOn side t z t.answered m) (sym (same_kept ∙ none)) (told_nothing side t m s.count w (drop 4 s.held) next)))

    pub keeps : (o : Option Replied) (m : Message) (w : Lanes) → IsNextOn side t.limits.profile t.client_frames s.count t.waiting (drop 4 s.held) m w → IsToldOn side t s.held o m → Shows (put_on side t s' w o t.fault) side m → s' ≡ kept_now s used →
        Steps t side (take used piece) true (put_on side t s' w o t.fault)
    keeps o m w next told shows q = (
      m,
      subst (λ (z : StreamState). GoesOn t side (take used piece) (m ∷ []) (put_on side t z w o t.fault)) (sym q) (one_more s.held o m w next told),
      shows,
      held_there side t s'.held s'.kept s'.count s'.size w o t.fault ∙ ap (λ (z : StreamState). z.held) q,
    )

    module _ {from : Side} (is : from ≡ side) (w : Lanes) (k : Option Fault) (e : ItemFault) (result : Fault) (told : (e.reason ≡ NoMemory → ⊥) → (result ≡ fault_of from s'.count (s'.size + used) e.place e.reason) × (k ≡ Some result)) (waits : w ≡ t.waiting) where
      -- what was judged bad
      pub bad : (e.reason ≢ NoMemory) → s' ≡ s → TellsOn side t.limits.profile t.client_frames s.count t.waiting (drop 4 s.held) e → (result.reason ≢ NoMemory) × IsRefused t side piece result (put_on side t s' w t.answered k)
      bad known q fault =
          let r = told known in
          let same : result ≡ fault_of side (frames_on side t) (size_on side t + used) e.place e.reason = r.0 ∙ (λ i. fault_of (is i) (q i).count ((q i).size + used) e.place e.reason) ∙ (λ i. fault_of side (same_count i) (same_size i + used) e.place e.reason) in
          let target = judged side t piece s.held used e (advance_on (Whole used) a) max (subst (λ z. TellsOn side t.limits.profile t.client_frames z t.waiting (drop 4 s.held) e) same_count fault) in (
            (λ n. known (sym (ap (λ (z : Fault). z.reason) r.0) ∙ n)),
            subst (IsRefused t side piece result) (λ i. put_on side t (sym q i) (sym waits i) t.answered k) (refuses k used e.place e.reason result same r.1 target),
          )

      pub fails : kept_on side t ≡ [] → (e.reason ≡ NoMemory → (result ≡ fault_of from s'.count s'.size 0 NoMemory) × (k ≡ t.fault)) →
          (e.reason ≡ NoMemory → (m : Message) × (x : Lanes) × IsNextOn side t.limits.profile t.client_frames s.count t.waiting (drop 4 s.held) m x) →
          (e.reason ≡ NoMemory → (before part : List ℕ) → s.held ≡ before ++ part → length part ≡ used → s' ≡ record s { held = before }) → ((e.reason ≡ NoMemory → ⊥) → s' ≡ s) →
          ((e.reason ≡ NoMemory → ⊥) → TellsOn side t.limits.profile t.client_frames s.count t.waiting (drop 4 s.held) e) → Fails t side piece result (put_on side t s' w t.answered k)
      fails none wanting lacks back same fault = go (lacking e.reason)
        where
          go : ((e.reason ≡ NoMemory) ⊎ (e.reason ≡ NoMemory → ⊥)) → Fails t side piece result (put_on side t s' w t.answered k)
          go (inl n) =
              let b = back n (held_on side t) (take used piece) a.3 (length-take-le used piece a.1) in
              let r = wanting n in
              let count' : s'.count ≡ frames_on side t = ap (λ (z : StreamState). z.count) b ∙ same_count in
              let size' : s'.size ≡ size_on side t = ap (λ (z : StreamState). z.size) b ∙ same_size in
              let kept' : s'.kept ≡ [] = ap (λ (z : StreamState). z.kept) b ∙ same_kept ∙ none in
              let next = lacks n in
              inl (record {
                told = r.0 ∙ (λ i. fault_of (is i) (count' i) (size' i) 0 NoMemory);
                same = (λ i. set_on side t (b i).held (kept' i) (count' i) (size' i) (waits i) t.answered (r.1 i)) ∙ given_there side t;
                used = used;
                part = a.1;
                message = next.0;
                after = set_on side t [] [] (s.count + 1) (s.size + used) next.1 t.answered t.fault;
                goes = one_more [] t.answered next.0 next.1 next.2 (told_nothing side t next.0 s.count next.1 (drop 4 s.held) next.2);
              })
          go (inr n) = inr ((bad n (same n) (fault n)).1)
