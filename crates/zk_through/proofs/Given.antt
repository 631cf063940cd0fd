-- What was left out last on a side is of no weight for what comes.
use Rattle.std.proofs.Common.{◌≡◌, ◌≢◌, ℕ, ◌+◌, inl, inr, List, [], ◌++◌, length, take, Some, refl, sym, ap, subst, ◌∙◌}
use Rattle.std.specs.Prelude.{Result, IfOk, IfErr, OnErr}
use Rattle.std.proofs.lemmas.Result.{IfErr-weaker, IfOk-weaker, on_err_weaker}
use Rattle.zk_talk.specs.{declared.message.Side.Side, declared.message.Fault.Fault, Held.Message, History.History, History.side_bytes, Viewed.other_side, Viewed.Shows, Stands.TalkState, Taking.dropped as unshown}
use Rattle.zk_talk.specs.declared.message.Side.TheVariants.{Client, Server}
use Rattle.zk_talk.specs.declared.message.MessageOf.TheVariants.{Client as FromClient, Server as FromServer}
use Rattle.zk_talk.proofs.Stepping.{stands_given, refuses_given}
use Rattle.zk_through.specs.{declared.through.StepOutcome.StepOutcome, declared.through.Passed.Passed, Came.Came}
use Rattle.zk_through.specs.declared.through.StepOutcome.TheVariants as outcome
use Rattle.zk_through.specs.Runs.{ThroughState, AreStreams, Runs, HasOutcome, IsRefused, IsFull, IsWhy, IsNeverFull, LeavesSide, WaitsAfter, KeepsWaiting, KeepsNone, dropped, silenced, stream_on, left_on}
use Rattle.zk_through.proofs.{Frames.by_sides, Steps.with_streams, Never.never_full}

-- these bytes are kept of the sides
abbrev keeping : ThroughState → List ℕ → List ℕ → ThroughState
keeping t a b = record t { client = record t.client { kept = a }; server = record t.server { kept = b } }

module _ (t : ThroughState) (a b : List ℕ) where
  runs_keeping : (h : History) (c k : Came) (M : List Message) → Runs t h c k M → Runs (keeping t a b) h c k M
  runs_keeping h c k M r =
      with_streams t (record t.client { kept = a }) (record t.server { kept = b }) t.late t.matched h h c k M r r.all streams r.seen r.matched
    where
      streams : AreStreams t.talk.limits (record t.client { kept = a }) (record t.server { kept = b }) h r.all
      streams = record {
        frames = record { cut = by_sides _ Client (r.frames.cut Client) (r.frames.cut Server); fronts = r.frames.fronts };
        counts = by_sides _ Client (r.counts Client) (r.counts Server);
        sizes = by_sides _ Client (r.sizes Client) (r.sizes Server);
      }

  full_keeping : (piece : List ℕ) → IsFull (keeping t a b) piece → IsFull t piece
  unfolding runs_keeping with_streams
  full_keeping piece x = record {
    part = x.part;
    payload = x.payload;
    weight = x.weight;
    whole = x.whole;
    later = x.later;
    weighs = x.weighs;
    full = λ h c k M r. x.full h c k M (runs_keeping h c k M r);
  }

  outcome_keeping : (side : Side) (piece : List ℕ) (used : ℕ) (w : StepOutcome) (new : ThroughState) → HasOutcome (keeping t a b) side piece used w new → HasOutcome t side piece used w new
  unfolding runs_keeping with_streams
  outcome_keeping side piece used outcome.Within new x = (x.0, x.1, (λ h c k M r. x.2 h c k M (runs_keeping h c k M r)), x.3)
  outcome_keeping side piece used outcome.Message new x = (x.0, x.1, x.2, λ h c k M r. x.3 h c k M (runs_keeping h c k M r))
  outcome_keeping side piece used (outcome.Asked turn) new x = (x.0, x.1, x.2, x.3, x.4, (λ h c k M r. x.5 h c k M (runs_keeping h c k M r)), x.6)
  outcome_keeping side piece used (outcome.Answered turn) new x = (x.0, x.1, x.2, x.3, x.4, x.5, (λ h c k M r. x.6 h c k M (runs_keeping h c k M r)), x.7)
  outcome_keeping side piece used (outcome.Unseen xid zxid err) new x = (x.0, x.1, x.2, x.3, x.4, x.5, x.6, (x.7.0, λ h c k M r. x.7.1 h c k M (runs_keeping h c k M r)), x.8)
  outcome_keeping side piece used outcome.Full new x = (x.0, x.1, x.2, full_keeping piece x.3, (λ h c k M r. x.4 h c k M (runs_keeping h c k M r)), x.5)

  held_keeping : (side : Side) → (stream_on side (keeping t a b)).held ≡ (stream_on side t).held
  held_keeping Client = refl
  held_keeping Server = refl

  refused_keeping : (side : Side) (piece : List ℕ) (e : Fault) (new : ThroughState) → IsRefused (keeping t a b) side piece e new → IsRefused t side piece e new
  unfolding runs_keeping with_streams
  refused_keeping side piece e new x = (
    x.0,
    λ h c k M r.
        let y = x.1 h c k M (runs_keeping h c k M r) in
        record {
          used = y.used;
          part = y.part;
          told = y.told;
          why = subst (λ z. IsWhy t.talk.limits t.late c k side (length (side_bytes side h) + y.used) (z ++ take y.used piece) e.place e.reason) (held_keeping side) y.why;
        },
  )

pub given_outcome : (side : Side) (old : ThroughState) (piece : List ℕ) (used : ℕ) (w : StepOutcome) (new : ThroughState) → HasOutcome (dropped side old) side piece used w new → HasOutcome old side piece used w new
given_outcome Client old = outcome_keeping old [] old.server.kept Client
given_outcome Server old = outcome_keeping old old.client.kept [] Server

pub given_full : (old : ThroughState) (piece : List ℕ) → IsFull (dropped Client old) piece → IsFull old piece
given_full old = full_keeping old [] old.server.kept

pub given_refused : (side : Side) (old : ThroughState) (piece : List ℕ) (e : Fault) (new : ThroughState) → IsRefused (dropped side old) side piece e new → IsRefused old side piece e new
given_refused Client old = refused_keeping old [] old.server.kept Client
given_refused Server old = refused_keeping old old.client.kept [] Server

pub given_leaves : (side : Side) (old new : ThroughState) → LeavesSide (other_side side) (dropped side old) new → LeavesSide (other_side side) old new
given_leaves Client old new x = x
given_leaves Server old new x = x

pub given_itself : (side : Side) (old : ThroughState) → LeavesSide (other_side side) old (dropped side old)
given_itself Client old = ((refl, λ m s. s), refl)
given_itself Server old = ((refl, λ m s. s), refl)

pub given_waits : (side : Side) (old : ThroughState) → KeepsWaiting old (dropped side old)
given_waits Client old = (refl, λ h M stands. inl stands)
given_waits Server old = (refl, λ h M stands. inl stands)

-- ---- What the side shows, dropped after a refusal
still_shown : (side other : Side) → other ≢ side → (t : TalkState) (m : Message) → Shows t other m → Shows (unshown side t) other m
still_shown Client Client is t m x = absurd (is refl)
still_shown Client Server is t (FromServer s) x = x
still_shown Client Server is t (FromClient f) x = absurd x
still_shown Server Client is t (FromClient f) x = x
still_shown Server Client is t (FromServer s) x = absurd x
still_shown Server Server is t m x = absurd (is refl)

pub silenced_leaves : (side : Side) (old new : ThroughState) → LeavesSide (other_side side) old new → LeavesSide (other_side side) old (silenced side new)
silenced_leaves Client old new x = ((x.0.0, λ m shows. still_shown Client Server (λ e. cc) new.talk m (x.0.1 m shows)), x.1)
silenced_leaves Server old new x = ((x.0.0, λ m shows. still_shown Server Client (λ e. cc) new.talk m (x.0.1 m shows)), x.1)

pub silenced_waits : (side : Side) (old new : ThroughState) → KeepsWaiting old new → KeepsWaiting old (silenced side new)
silenced_waits side old new x = (x.0, λ h M st. waits_still h M (x.1 h M st))
  where
    waits_still : (h : History) (M : List Message) → WaitsAfter new.talk h M → WaitsAfter (unshown side new.talk) h M
    waits_still h M (inl st) = inl (stands_given side new.talk h M st)
    waits_still h M (inr r) = inr (r.0, r.1, refuses_given side new.talk (h ++ r.0) M r.1 r.2)

pub silenced_none : (side : Side) (old new : ThroughState) → left_on side new ≡ [] → (stream_on side new).count ≡ (stream_on side old).count → (stream_on side new).size ≡ (stream_on side old).size → new.answered ≡ old.answered → KeepsNone side old (silenced side new)
silenced_none Client old new left frames sizes answered = record { left = left; shown = refl; frames = frames; sizes = sizes; answered = answered }
silenced_none Server old new left frames sizes answered = record { left = left; shown = refl; frames = frames; sizes = sizes; answered = answered }

-- a side that kept nothing and is refused at once
pub given_none : (side : Side) (t : ThroughState) → left_on side (dropped side t) ≡ []
given_none Client t = refl
given_none Server t = refl

pub given_count : (side : Side) (t : ThroughState) → (stream_on side (dropped side t)).count ≡ (stream_on side t).count
given_count Client t = refl
given_count Server t = refl

pub given_size : (side : Side) (t : ThroughState) → (stream_on side (dropped side t)).size ≡ (stream_on side t).size
given_size Client t = refl
given_size Server t = refl

pub given_answered : (side : Side) (t : ThroughState) → (dropped side t).answered ≡ t.answered
given_answered Client t = refl
given_answered Server t = refl

fault_stays : (side : Side) (t : ThroughState) → t.fault ≡ (dropped side t).fault
fault_stays Client t = refl
fault_stays Server t = refl

pub kept_refused : (side : Side) (old given : ThroughState) → given ≡ dropped side old → (piece : List ℕ) (f : Fault) → given.fault ≡ Some f → IsRefused old side piece f given
kept_refused side old given gave piece f e =
    let kept : old.fault ≡ Some f = fault_stays side old ∙ ap (λ (t : ThroughState). t.fault) (sym gave) ∙ e in
    (e, λ h c k M r. absurd (cc (r.no_fault)))

-- what a side's step did, after what was left out on the side was given up
module _ (side own : Side) (at : side ≡ own) (old given new : ThroughState) (gave : given ≡ dropped side old) (piece : List ℕ) where
  gave_own : given ≡ dropped own old
  gave_own = gave ∙ ap (λ z. dropped z old) at

  refused_own : (e : Fault) → IsRefused given own piece e new → IsRefused old own piece e new
  refused_own e x = given_refused own old piece e new (subst (λ (z : ThroughState). IsRefused z own piece e new) gave_own x)

  pub outcome_then : (result : Result Passed Fault) → IfOk result (λ s. HasOutcome given own piece s.used s.outcome new) → IfOk result (λ s. HasOutcome old side piece s.used s.outcome new)
  outcome_then result x =
      subst (λ z. IfOk result (λ s. HasOutcome old z piece s.used s.outcome new)) (sym at)
      (IfOk-weaker result _ _ (λ s y. given_outcome own old piece s.used s.outcome new (subst (λ (z : ThroughState). HasOutcome z own piece s.used s.outcome new) gave_own y)) x)

  pub refused_then : (result : Result Passed Fault) → IfErr result (λ e. IsRefused given own piece e new) → IfErr result (λ e. IsRefused old side piece e new)
  refused_then result x = subst (λ z. IfErr result (λ e. IsRefused old z piece e new)) (sym at) (IfErr-weaker result _ _ refused_own x)

  pub room_then : (result : Result Passed Fault) → IfErr result (λ e. IsRefused given own piece e new) → IfErr result (λ e. IsNeverFull old e)
  room_then result x = IfErr-weaker result _ _ (λ e y. never_full own old piece e new (refused_own e y)) x

  pub leaves_then : LeavesSide (other_side own) given new → LeavesSide (other_side side) old new
  leaves_then x = subst (λ z. LeavesSide (other_side z) old new) (sym at) (given_leaves own old new (subst (λ (z : ThroughState). LeavesSide (other_side own) z new) gave_own x))

  pub waits_then : (result : Result Passed Fault) → OnErr result (KeepsWaiting given new) → OnErr result (KeepsWaiting old new)
  waits_then result x = on_err_weaker result (waits_given own) (subst (λ (z : ThroughState). OnErr result (KeepsWaiting z new)) gave_own x)
    where
      waits_given : (own : Side) → KeepsWaiting (dropped own old) new → KeepsWaiting old new
      waits_given Client y = y
      waits_given Server y = y
