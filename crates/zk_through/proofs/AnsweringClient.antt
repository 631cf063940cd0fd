-- What a step of the client answers, by what its side became.
use Rattle.std.proofs.Common.{◌≡◌, ℕ, ◌+◌, ◌<◌, ◌≤◌, List, [], ◌++◌, take, Option, Some, None, refl, sym, ap, ◌∙◌, subst, arith, true, false}
use Rattle.std.proofs.lemmas.List.{append-nil, length-take-le}
use Rattle.zk_frames.specs.Framing.{frame}
use Rattle.zk_waiting.specs.Lane.{lane_of}
use Rattle.zk_talk.specs.{declared.message.Side.TheVariants.Client, declared.message.Fault.Fault, Conversation.with_client, Fault.fault_of, Stands.TalkState}
use Rattle.zk_talk.specs.{Streams.StreamState, Streams.TakenBack, Streams.passed, Streams.kept_now, History.on}
use Rattle.zk_through.specs.{declared.turn.Turn.Turn, Came.payloads, Came.told}
use Rattle.zk_through.specs.declared.fate.ClientFate.TheVariants as asks
use Rattle.zk_through.specs.Fates.{HasNoForeign, TellsRequest, WeighsAtMost, HasRoom, HasClientFate}
use Rattle.zk_through.specs.declared.through.StepOutcome.TheVariants as outcome
use Rattle.zk_talk.proofs.Headline.{fault_is_bad}
use Rattle.zk_through.specs.Turns.{TurnsState, turn_of, left_out, with_waits, and_turn, after_request, after_left}
use Rattle.zk_through.specs.Runs.{ThroughState, Runs, HasOutcome, IsRefused, IsTold, IsNotTold, GoesOnTold, IsKeptAt, IsFull, IsRequestOf}
use Rattle.zk_through.proofs.{Lanes.left_stays, Steps.nothing_more, Steps.WholeCame, Steps.FrameCame, Steps.has_come, Steps.outcome_told, Outcomes.counted, Outcomes.client_other, Outcomes.client_asks, Outcomes.client_lacks, Seen.client_counts}
use Rattle.zk_through.proofs.{Refusals.refused_told, Fitting.some_weight, Fitting.its_good, Fitting.talk_takes}

module _ (old : ThroughState) (piece : List ℕ) (used : ℕ) (s : StreamState) (w : WholeCame Client old piece used s) (number : ℕ) (numbered : number ≡ s.count) where
  here : number ≡ old.client.count
  here = numbered ∙ w.count

  -- the talk took the frame
  module _ (s' : StreamState) (talk : TalkState) (turns : TurnsState) (pass : s' ≡ passed s used) (limits : talk.limits ≡ old.talk.limits) (tells : (p : List ℕ) → s.held ≡ frame p → IsTold old.talk Client p talk) where
    abbrev pub new : ThroughState
    new = record old { talk = talk; client = s'; turns = turns }

    tells_on : (FrameCame Client old new piece used w.p → GoesOnTold old Client (take used piece) w.p new) → HasOutcome old Client piece used outcome.Message new
    tells_on = outcome_told Client old new piece used s w limits refl refl refl pass

    module _ (size : ℕ) (weighs : WeighsAtMost old.talk.limits.profile number w.p size) (fits : 0 < size → HasRoom old.talk old.turns size) where
      only : 0 < old.client.count → (n : ℕ) → IsRequestOf old.talk.limits.profile w.p n → n ≤ size
      only begun n q = weighs (omega (arith, begun, here)) n q

      told_so : (ahead : Option Turn) → turns ≡ after_request ahead old.turns → TellsRequest number w.p ahead → HasNoForeign old.talk.limits.profile number w.p → HasOutcome old Client piece used outcome.Message new
      told_so None same none known =
          tells_on (λ x. client_other old new piece used w.p x refl refl size only fits (tells w.p w.held) (ap left_out same) same (λ later. none (omega (arith, later, here))))
      told_so (Some turn) more a known =
          tells_on (λ x.
          client_asks old new piece used w.p x refl refl size only fits (tells w.p w.held) (ap left_out more ∙ ap left_out (left_stays (lane_of turn.xid) (and_turn old.turns.room turn) old.turns)) a.0.1 (omega (arith, a.0.0, here)) w.room turn
          (a.1 ∙ ap (λ (z : ℕ). turn_of false (z, w.p)) here) (more ∙ ap (λ (z : Turn). with_waits (lane_of z.xid) (and_turn old.turns.room turn) old.turns) a.1) (known a.0))

    pub client_told : (ahead : Option Turn) → HasClientFate old.talk old.turns number w.p (asks.Told ahead) → turns ≡ after_request ahead old.turns → HasOutcome old Client piece used outcome.Message new
    client_told ahead fate same = told_so fate.2 fate.3 fate.4 ahead same fate.0 fate.1

  -- it is left out
  pub client_left : (s' : StreamState) (turns : TurnsState) (turn : Turn) → HasClientFate old.talk old.turns number w.p (asks.LeftOut turn) → s' ≡ kept_now s used → turns ≡ after_left turn old.turns →
      HasOutcome old Client piece used (outcome.Asked turn) (record old { client = s'; turns = turns })
  client_left s' turns turn a keep more =
      let new : ThroughState = record old { client = s'; turns = turns } in
      let is_turn : turn ≡ turn_of true (old.client.count, w.p) = a.1 ∙ ap (λ (z : ℕ). turn_of true (z, w.p)) here in (
        w.part,
        refl,
        w.p,
        ap (λ (z : StreamState). z.kept) keep ∙ w.held,
        is_turn,
        client_lacks old new piece used w.p (has_come Client old new piece used s w refl refl refl refl s.held keep) refl refl a.0.1 (omega (arith, a.0.0, here)) w.room refl turn is_turn
            (more ∙ ap (λ (z : Turn). record (with_waits (lane_of z.xid) (and_turn old.turns.room turn) old.turns) { left = old.turns.left + 1 }) a.1) a.2 a.3,
        (refl, λ m shows. shows),
      )

  -- there is no room for it
  pub is_full : HasClientFate old.talk old.turns number w.p asks.Full → IsFull old piece
  is_full fate = record {
    part = used;
    payload = w.p;
    weight = fate.1;
    whole = w.is;
    later = omega (arith, fate.0, here);
    weighs = fate.2;
    full = λ h c k M r v g. fate.3 (told k) M v [] [] r.stands g;
  }

  pub client_full : (s' : StreamState) → TakenBack s used s' → IsFull old piece → HasOutcome old Client piece 0 outcome.Full (record old { client = s' })
  client_full s' back full =
      let same : s' ≡ old.client = back old.client.held (take used piece) (w.held ∙ sym w.is) (length-take-le used piece w.part) ∙ ap (λ (z : StreamState). record z { held = old.client.held }) w.stays in (
        refl,
        refl,
        ap (λ (z : StreamState). z.kept) same ∙ w.ready.none,
        full,
        λ h c k M r.
            subst (λ z. Runs (record old { client = s' }) z (c ++ []) (k ++ []) (M ++ [])) (sym (append-nil h))
            (subst (λ (z : StreamState). Runs (record old { client = z }) h (c ++ []) (k ++ []) (M ++ [])) (sym same) (nothing_more old h c k M r)),
        (refl, λ m shows. shows),
      )

  -- the talk refused it: it is no request that there is room for
  pub client_refused : (ahead : Option Turn) → HasClientFate old.talk old.turns number w.p (asks.Told ahead) → (e : Fault) (k : Option Fault) (s' : StreamState) (talk : TalkState) →
      IsKeptAt Client s used e k → ((p : List ℕ) → s.held ≡ frame p → IsNotTold old.talk Client p e) →
      IsRefused old Client piece e (record old { talk = talk; client = s'; fault = k })
  client_refused ahead fate e kept s' talk at not =
      refused_told Client old (record old { talk = talk; client = s'; fault = kept }) piece used e w.part at.1 w.p w.fits w.is
      (at.0 ∙ (λ i. fault_of Client (w.stays i).count ((w.stays i).size + used) e.place e.reason)) (not w.p w.held)
      (λ h c k M r f is_fault some n q.
      let begun : 0 < old.client.count = counted old.client.count (payloads Client c) (client_counts old h c k M r) some in
      let same = fate.3 (omega (arith, begun, here)) n q in
      let room = fate.4 (omega (arith, same, q.5, some_weight q.0 q.1)) (told k) M r.stands.conversation [] [] r.stands (its_good old h c k M r) in
      fault_is_bad old.talk.limits (told k ++ on Client (frame w.p)) f is_fault
      (with_client r.stands.conversation q.0, [], [], talk_takes old h c k M r piece used w.p w.part w.small w.is w.fits begun n q (omega (arith, room, same))))
      (λ h c k M r e u. u)
