-- What a step of the server answers, by what its side became.
use Rattle.std.proofs.Common.{◌≡◌, ℕ, ◌+◌, ℤ, Bool, List, take, drop, Option, Some, None, refl, sym, ap, ◌∙◌, subst, arith, true}
use Rattle.std.specs.Prelude.{Ok}
use Rattle.zk_jute.specs.declared.fault.Reason.{Reason}
use Rattle.zk_frames.specs.Framing.{frame}
use Rattle.zk_waiting.specs.Lane.{lane_of}
use Rattle.zk_talk.specs.{declared.message.Side.TheVariants.Server, declared.message.Fault.Fault, Held.Message, History.History, Fault.fault_of, Stands.TalkState, Streams.StreamState, Streams.passed, Streams.kept_now}
use Rattle.zk_through.specs.{declared.turn.Turn.Turn, LeftOut.xid_of, LeftOut.zxid_of, LeftOut.err_of, declared.turns.Due.Due, Came.Came, Unseen.IsSeen}
use Rattle.zk_through.specs.declared.through.StepOutcome.TheVariants as outcome
use Rattle.zk_through.specs.declared.turns.Due.TheVariants as dues
use Rattle.zk_through.specs.Turns.{TurnsState, IsEarlier, matched_on, matched_after, Judges, IsDue, IsLacked, IsBadTurn, TellsFrame, with_waits, after_reply, after_answer, left_out}
use Rattle.zk_through.specs.Runs.{ThroughState, HasOutcome, IsRefused, IsTold, IsNotTold, GoesOnTold, IsKeptAt, Runs}
use Rattle.zk_through.specs.declared.fate.ServerFate.TheVariants as answers
use Rattle.zk_through.specs.Fates.{IsNotAhead, TellsReply, HasServerFate}
use Rattle.zk_through.proofs.{Steps.WholeCame, Steps.FrameCame, Steps.has_come, Steps.outcome_told, Lanes.left_stays, Seen.some_counts, Earlier.seen_other, Earlier.seen_reply}
use Rattle.zk_through.proofs.{Outcomes.server_other, Outcomes.server_answers, Outcomes.server_lacks, Outcomes.server_unseen, Refusals.refused_told, Refusals.refused_bad}

module _ (old : ThroughState) (piece : List ℕ) (used : ℕ) (s : StreamState) (w : WholeCame Server old piece used s) (number : ℕ) (numbered : number ≡ s.count) where
  here : number ≡ old.server.count
  here = numbered ∙ w.count

  -- the talk took the frame
  module _ (s' : StreamState) (talk : TalkState) (turns : TurnsState) (matched : Bool) (answered : Option ℕ) (pass : s' ≡ passed s used) (limits : talk.limits ≡ old.talk.limits) (tells : (p : List ℕ) → s.held ≡ frame p → IsTold old.talk Server p talk) where
    abbrev pub new : ThroughState
    new = record old { talk = talk; server = s'; turns = turns; matched = matched; answered = answered }

    tells_on : (FrameCame Server old new piece used w.p → GoesOnTold old Server (take used piece) w.p new) → HasOutcome old Server piece used outcome.Message new
    tells_on = outcome_told Server old new piece used s w limits refl refl refl pass

    -- it is no reply
    server_told : IsNotAhead 16 number w.p → TellsFrame dues.Nothing number answered → turns ≡ old.turns → (old.late ≡ true → matched ≡ old.matched) → HasOutcome old Server piece used outcome.Message new
    server_told none frame same replies =
        tells_on (λ x.
        server_other old new piece used w.p x (tells w.p w.held) (ap left_out same) same replies (λ later. none (omega (arith, later, here))) (λ zero. frame.0 (here ∙ zero)) (λ some. frame.1 (λ zero. some (sym here ∙ zero))))

    -- it is the reply to a request that the talk got
    server_replied : (xid : ℤ) (turn : Turn) → TellsReply number w.p (Some xid) → IsDue old.turns xid turn → (IsLacked turn → ⊥) → answered ≡ Some turn.frame → turns ≡ with_waits (lane_of xid) (drop 1) old.turns →
        (old.late ≡ true → IsEarlier old.matched old.turns (Some xid) → ⊥) → (old.late ≡ true → matched ≡ matched_on (lane_of xid) old.matched) → HasOutcome old Server piece used outcome.Message new
    server_replied xid turn a is_due known frame less stays replies =
        tells_on (λ x.
        server_answers old new piece used w.p x (tells w.p w.held) (ap left_out less ∙ ap left_out (left_stays (lane_of xid) (drop 1) old.turns)) a.0.1 (omega (arith, a.0.0, here)) turn (subst (λ z. IsDue old.turns z turn) a.1 is_due) known
        (less ∙ ap (λ z. with_waits (lane_of z) (drop 1) old.turns) a.1) frame (subst (λ z. old.late ≡ true → IsEarlier old.matched old.turns (Some z) → ⊥) a.1 stays) (λ e. replies e ∙ ap (λ z. matched_on (lane_of z) old.matched) a.1))

    -- the talk gets it, whichever it is
    passed_as : (due : Due) (ahead : Option ℤ) → ((turn : Turn) → due ≡ dues.LeftOut turn → ⊥) → Judges old.turns ahead (Ok due) → TellsFrame due number answered → turns ≡ after_reply ahead old.turns →
        (old.late ≡ true → IsEarlier old.matched old.turns ahead → ⊥) → (old.late ≡ true → matched ≡ matched_after ahead old.matched) → TellsReply number w.p ahead → HasOutcome old Server piece used outcome.Message new
    passed_as dues.Nothing ahead not_left j frame less stays replies a =
        server_told (subst (TellsReply number w.p) j a) frame (less ∙ ap (λ (z : Option ℤ). after_reply z old.turns) j) (λ e. replies e ∙ ap (λ (z : Option ℤ). matched_after z old.matched) j)
    passed_as (dues.Told turn) ahead not_left j frame less stays replies a =
        server_replied j.0 turn (subst (TellsReply number w.p) j.1 a) j.2 j.3 frame (less ∙ ap (λ (z : Option ℤ). after_reply z old.turns) j.1)
        (subst (λ (z : Option ℤ). old.late ≡ true → IsEarlier old.matched old.turns z → ⊥) j.1 stays) (λ e. replies e ∙ ap (λ (z : Option ℤ). matched_after z old.matched) j.1)
    passed_as (dues.LeftOut turn) ahead not_left j frame less stays replies a = absurd (not_left turn refl)

    pub server_passed : (ahead : Option ℤ) → HasServerFate old.late old.matched old.turns number w.p (answers.Told ahead answered) matched → turns ≡ after_reply ahead old.turns → HasOutcome old Server piece used outcome.Message new
    server_passed ahead fate less = passed_as fate.2 ahead fate.3 fate.4 fate.5 less fate.1 fate.6 fate.0

  -- it is left out
  pub server_left : (s' : StreamState) (turns : TurnsState) (matched : Bool) (answered : Option ℕ) (due : Turn) → HasServerFate old.late old.matched old.turns number w.p (answers.LeftOut due) matched → s' ≡ kept_now s used →
      turns ≡ after_answer due.xid old.turns → answered ≡ Some due.frame →
      HasOutcome old Server piece used (outcome.Answered due) (record old { server = s'; turns = turns; matched = matched; answered = answered })
  server_left s' turns matched answered due fate keep less frame =
      let a = fate.0 in
      let stays = fate.1 in
      let is_due = fate.2 in
      let lacked = fate.3 in
      let replies = fate.4 in
      let new : ThroughState = record old { server = s'; turns = turns; matched = matched; answered = answered } in (
        w.part,
        refl,
        w.p,
        ap (λ (z : StreamState). z.kept) keep ∙ w.held,
        sym a.1,
        is_due,
        server_lacks old new piece used w.p (has_come Server old new piece used s w refl refl refl refl s.held keep) a.0.1 (omega (arith, a.0.0, here)) refl due (subst (λ z. IsDue old.turns z due) a.1 is_due) lacked (less ∙ ap (λ z. after_answer z old.turns) a.1) (sym a.1) frame
            (subst (λ z. old.late ≡ true → IsEarlier old.matched old.turns (Some z) → ⊥) a.1 stays) (λ e. replies e ∙ ap (λ z. matched_on (lane_of z) old.matched) a.1),
        (refl, λ m shows. shows),
      )

  -- it is passed over, as a reply
  over_as : (ahead : Option ℤ) → TellsReply number w.p ahead → (s' : StreamState) (matched : Bool) (xid zxid err : ℤ) → s' ≡ kept_now s used → matched ≡ old.matched → old.late ≡ true → IsEarlier old.matched old.turns ahead →
      xid ≡ xid_of w.p → zxid ≡ zxid_of w.p → err ≡ err_of w.p → HasOutcome old Server piece used (outcome.Unseen xid zxid err) (record old { server = s'; matched = matched })
  over_as None a s' matched xid zxid err keep replies late earlier e f g = absurd earlier
  over_as (Some x) a s' matched xid zxid err keep replies late earlier e f g =
      let new : ThroughState = record old { server = s'; matched = matched } in (
        w.part,
        refl,
        w.p,
        ap (λ (z : StreamState). z.kept) keep ∙ w.held,
        e,
        f,
        g,
        server_unseen old new piece used w.p (has_come Server old new piece used s w refl refl refl refl s.held keep) late a.0.1 (omega (arith, a.0.0, here)) (subst (λ z. IsEarlier old.matched old.turns (Some z)) a.1 earlier) refl refl replies refl,
        (refl, λ m shows. shows),
      )

  pub server_over : (s' : StreamState) (matched : Bool) (xid zxid err : ℤ) → HasServerFate old.late old.matched old.turns number w.p (answers.Unseen xid zxid err) matched → s' ≡ kept_now s used →
      HasOutcome old Server piece used (outcome.Unseen xid zxid err) (record old { server = s'; matched = matched })
  server_over s' matched xid zxid err fate keep = over_as fate.0 fate.1 s' matched xid zxid err keep fate.7 fate.2 fate.3 fate.4 fate.5 fate.6

  -- none waits for it, or another's turn it is
  pub server_bad : (e : Fault) (k : Option Fault) (matched after : Bool) (reason : Reason) → HasServerFate old.late old.matched old.turns number w.p (answers.Refused reason) after →
      e ≡ fault_of Server s.count (s.size + used) 0 reason → k ≡ Some e → IsRefused old Server piece e (record old { server = s; matched = matched; fault = k })
  server_bad e k matched after reason fate at kept =
      let xid = fate.0 in
      let a = fate.1 in
      let stays = fate.2 in
      let bad = fate.3 in
      refused_bad old (record old { server = s; matched = matched; fault = k }) piece used e w.part kept w.p w.is a.0.1 (subst (λ z. old.late ≡ true → IsEarlier old.matched old.turns (Some z) → ⊥) a.1 stays) reason
      (subst (λ z. IsBadTurn old.turns z reason) a.1 bad) (at ∙ (λ i. fault_of Server (w.stays i).count ((w.stays i).size + used) 0 reason))

  -- it isn't passed over
  its_seen : (ahead : Option ℤ) → TellsReply number w.p ahead → (old.late ≡ true → IsEarlier old.matched old.turns ahead → ⊥) → (h : History) (c k : Came) (M : List Message) → Runs old h c k M → IsSeen old.late c (Server, w.p)
  its_seen None a stays h c k M r = seen_other old.talk.limits.profile c old.turns r.lanes old.matched old.late r.matched w.p (λ first. a (omega (arith, some_counts old h c k M r first, here)))
  its_seen (Some xid) a stays h c k M r = seen_reply old.talk.limits.profile c old.turns r.lanes old.matched old.late r.matched w.p xid a.1 stays

  -- the talk refused it
  pub server_refused : (ahead : Option ℤ) (frame_is : Option ℕ) (after : Bool) → HasServerFate old.late old.matched old.turns number w.p (answers.Told ahead frame_is) after → (e : Fault) (k : Option Fault) (matched : Bool) (s' : StreamState) (talk : TalkState) →
      IsKeptAt Server s used e k → ((p : List ℕ) → s.held ≡ frame p → IsNotTold old.talk Server p e) → IsRefused old Server piece e (record old { talk = talk; server = s'; matched = matched; fault = k })
  server_refused ahead frame_is after fate e k matched s' talk at not =
      let a = fate.0 in
      let stays = fate.1 in
      refused_told Server old (record old { talk = talk; server = s'; matched = matched; fault = k }) piece used e w.part at.1 w.p w.fits w.is
      (at.0 ∙ (λ i. fault_of Server (w.stays i).count ((w.stays i).size + used) e.place e.reason)) (not w.p w.held) (λ h c k M r f is_fault. tt) (its_seen ahead a stays)
