-- Why a side's frame is refused.
use Rattle.std.proofs.Common.{◌≡◌, ℕ, ◌+◌, ◌≤◌, inl, inr, List, ◌++◌, length, take, Some, refl, sym, ap, ◌∙◌, subst, arith, true}
use Rattle.zk_jute.specs.{declared.fault.Reason.Reason, declared.fault.Reason.TheVariants.XidOrder}
use Rattle.zk_frames.specs.Framing.{frame, IsBadLength}
use Rattle.zk_talk.specs.{declared.message.Side.Side, declared.message.Side.TheVariants.Server, declared.message.Fault.Fault, Held.Message, History.History, History.side_bytes, History.on, Fault.IsFaultOf, Fault.fault_of, Fault.side_limit}
use Rattle.zk_talk.specs.{Streams.StreamState, Advance.IsStop, Advance.IsStop.too_many, Advance.IsStop.out_of_range, Receiving.IsStopped as WasStopped}
use Rattle.zk_through.specs.{declared.turn.Turn.Turn, Came.Came, Came.told, LeftOut.has_turn, LeftOut.xid_of, Unseen.IsSeen, Turns.IsEarlier, Turns.IsBadTurn}
use Rattle.zk_through.specs.Runs.{ThroughState, Runs, IsWhy, IsRefused, IsNotTold, IsNoRequest, stream_on}
use Rattle.zk_through.specs.Runs.IsWhy.{stream_end, length_range, unasked, other_turn, told_so}
use Rattle.zk_through.proofs.{Lanes.turn_is, Lanes.foreign_of, Lanes.none_due, Earlier.seen_reply}

-- the fault with its own place and reason
pub exactly : (side : Side) (frame offset place : ℕ) (reason : Reason) (e : Fault) → e ≡ fault_of side frame offset place reason → e ≡ fault_of side frame offset e.place e.reason
exactly side frame offset place reason e told = told ∙ (λ i. fault_of side frame offset (ap (λ (z : Fault). z.place) (sym told) i) (ap (λ (z : Fault). z.reason) (sym told) i))

module _ (side : Side) (old new : ThroughState) (piece : List ℕ) (used : ℕ) (e : Fault) (part : used ≤ length piece) (kept : new.fault ≡ Some e) where
  refused_at : e ≡ fault_of side (stream_on side old).count ((stream_on side old).size + used) e.place e.reason →
      ((h : History) (c k : Came) (M : List Message) → Runs old h c k M → IsWhy old.talk.limits old.late c k side (length (side_bytes side h) + used) ((stream_on side old).held ++ take used piece) e.place e.reason) → IsRefused old side piece e new
  refused_at at why = (
    kept,
    λ h c k M r. record {
      used = used;
      part = part;
      told = at ∙ (λ i. fault_of side (r.counts side i) (r.sizes side i + used) e.place e.reason);
      why = why h c k M r;
    },
  )

  -- the talk refuses it
  pub refused_told : (p : List ℕ) → length p ≤ side_limit old.talk.limits side → (stream_on side old).held ++ take used piece ≡ frame p → e ≡ fault_of side (stream_on side old).count ((stream_on side old).size + used) e.place e.reason →
      IsNotTold old.talk side p e →
      ((h : History) (c k : Came) (M : List Message) (r : Runs old h c k M) (f : Fault) → IsFaultOf old.talk.limits (told k ++ on side (frame p)) f → IsNoRequest old.talk.limits.profile c side p) →
      ((h : History) (c k : Came) (M : List Message) → Runs old h c k M → IsSeen old.late c (side, p)) → IsRefused old side piece e new
  refused_told p fits is at t none stays =
      refused_at at (λ h c k M r.
      let f = t.3 (told k) M r.stands in
      told_so p is (stays h c k M r) fits t.0 f (none h c k M r t.0 f) t.1 t.2)

  -- before a frame is whole
  stopped_why : (limit : ℕ) → limit ≡ side_limit old.talk.limits side → e.place ≡ 0 → (reason : Reason) → e.reason ≡ reason → (after : List ℕ) → IsStop limit (stream_on side old).size (stream_on side old).held piece used reason after →
      (h : History) (c k : Came) (M : List Message) → Runs old h c k M → IsWhy old.talk.limits old.late c k side (length (side_bytes side h) + used) ((stream_on side old).held ++ take used piece) e.place e.reason
  stopped_why limit same place reason is after (too_many n u l full begin r' held) h c k M r = stream_end (omega (arith, u, full, r.sizes side)) place (is ∙ r')
  stopped_why limit same place reason is after (out_of_range some l fits few bad r' held) h c k M r =
      length_range (subst (λ z. IsBadLength z ((stream_on side old).held ++ take used piece)) same bad) place (is ∙ r')

pub refused_early : (side : Side) (old new : ThroughState) (piece : List ℕ) (e : Fault) (s : StreamState) → (stream_on side old).limit ≡ side_limit old.talk.limits side → WasStopped side (stream_on side old) piece e s → new.fault ≡ Some e → IsRefused old side piece e new
refused_early side old new piece e s same w kept =
    refused_at side old new piece w.used e w.advance.1 kept (exactly side (stream_on side old).count ((stream_on side old).size + w.used) 0 w.reason e w.told)
    (stopped_why side old new piece w.used e w.advance.1 kept (stream_on side old).limit same (ap (λ (z : Fault). z.place) w.told) w.reason (ap (λ (z : Fault). z.reason) w.told) s.held w.advance.0)

-- ---- A reply that none waits for
module _ (old new : ThroughState) (piece : List ℕ) (used : ℕ) (e : Fault) (part : used ≤ length piece) (kept : new.fault ≡ Some e) (q : List ℕ) (is : old.server.held ++ take used piece ≡ frame q) (turn : has_turn 16 q ≡ true)
    (stays : old.late ≡ true → IsEarlier old.matched old.turns (Some (xid_of q)) → ⊥) where
  its_seen : (h : History) (c k : Came) (M : List Message) → Runs old h c k M → IsSeen old.late c (Server, q)
  its_seen h c k M r = seen_reply old.talk.limits.profile c old.turns r.lanes old.matched old.late r.matched q (xid_of q) refl stays

  bad_why : (reason : Reason) → IsBadTurn old.turns (xid_of q) reason → e.place ≡ 0 → e.reason ≡ reason → (h : History) (c k : Came) (M : List Message) → Runs old h c k M →
      IsWhy old.talk.limits old.late c k Server (length (side_bytes Server h) + used) (old.server.held ++ take used piece) e.place e.reason
  bad_why reason (inl none) place because h c k M r = unasked refl q is (its_seen h c k M r) turn (none_due old.talk.limits.profile c old.turns q r.lanes turn none.0) place (because ∙ none.1)
  bad_why reason (inr b) place because h c k M r =
      let y = turn_is old.talk.limits.profile c old.turns q r.lanes turn b.0 b.1 in
      let xid : b.0.xid ≡ xid_of y.0.1 = ap (λ (z : Turn). z.xid) y.2.is in
      other_turn refl q is (its_seen h c k M r) turn y.0 y.1 (foreign_of old.talk.limits.profile b.0 y.0 y.2 b.2) (λ same. b.3 (xid ∙ same)) place (because ∙ b.4 ∙ ap (λ z. XidOrder z (xid_of q)) xid)

  pub refused_bad : (reason : Reason) → IsBadTurn old.turns (xid_of q) reason → e ≡ fault_of Server old.server.count (old.server.size + used) 0 reason → IsRefused old Server piece e new
  refused_bad reason bad at =
      refused_at Server old new piece used e part kept (exactly Server old.server.count (old.server.size + used) 0 reason e at) (bad_why reason bad (ap (λ (z : Fault). z.place) at) (ap (λ (z : Fault). z.reason) at))
