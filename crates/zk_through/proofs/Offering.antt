-- What a passage does with a frame that is offered, by what its side does.
use Rattle.std.proofs.Common.{◌≡◌, ◌≢◌, ℕ, ◌≤◌, Bool, false, inl, inr, List, [], length, take, Option, Some, None, refl, sym, ap, ◌∙◌, subst, arith}
use Rattle.std.specs.Prelude.{Result, Ok, Err, IfErr, MatchBool}
use Rattle.zk_frames.specs.Framing.{frame, IsFrame, IsLessOrMore}
use Rattle.zk_talk.specs.{declared.message.Side.Side, declared.message.Side.TheVariants.Client, declared.message.Side.TheVariants.Server, declared.message.Fault.Fault, declared.stream.Advance.TheVariants.Whole, Fault.side_limit, History.History, Held.Message, Stands.TalkState, Stands.held_on}
use Rattle.zk_talk.specs.{Streams.StreamState, Streams.held_in, Offered.IsNotOne, Offered.IsOffered, Offered.IsOneFrame as IsOneOfTalk, Offered.IsNotOneFrame as IsNotOneOfTalk}
use Rattle.zk_talk.proofs.{Bodies.frame_once, Offers.carries}
use Rattle.zk_through.specs.{declared.through.Passed.Passed, Came.Came, Runs.ThroughState, Runs.Runs, Runs.IsRefused, Runs.IsNeverFull, Runs.dropped, Runs.stream_on}
use Rattle.zk_through.specs.Offered.{IsOneFrame, IsNotOneFrame, WouldRefuse, Offers, IsWholeFrame, Cuts}
use Rattle.zk_through.proofs.{Given.given_refused, Never.never_full, Refusals.refused_early, Steps.IsReady, Steps.WholeCame}

module _ (side : Side) (t : ThroughState) (bytes : List ℕ) (same : (stream_on side t).limit ≡ side_limit t.talk.limits side) where
  not_one : IsNotOne (stream_on side t) bytes → IsNotOneFrame t side bytes
  not_one (inl begun) = inl begun
  not_one (inr odd) = inr (subst (λ z. IsLessOrMore z bytes) same odd)

  is_not : IsNotOneFrame t side bytes → IsNotOne (stream_on side t) bytes
  is_not (inl begun) = inl begun
  is_not (inr odd) = inr (subst (λ z. IsLessOrMore z bytes) (sym same) odd)

  -- what the side says of the bytes
  pub cuts : (r : Result (Option ℕ) Fault) → IsWholeFrame side (stream_on side t) bytes r → Cuts side t bytes r
  cuts (Ok None) x = not_one x
  cuts (Ok (Some used)) x = ((λ odd. x.0 (is_not odd)), x)
  cuts (Err e) x = ((λ odd. x.0 (is_not odd)), (record t { fault = Some e }, refl, refused_early side t (record t { fault = Some e }) bytes e x.1 same x.2 refl))

  module _ (used : ℕ) (o : IsOffered (stream_on side t) bytes (Whole used)) where
    pub one_frame : IsOneFrame t side bytes
    one_frame = (o.1, subst (λ z. IsFrame z bytes) same o.3.4)

    pub whole_of : (payload : List ℕ) → take used bytes ≡ frame payload → bytes ≡ frame payload
    whole_of payload is = carries bytes payload used o.2 is

    -- the talk has begun none, where the passage has come through a history
    pub never_begun : held_on side t.talk ≢ [] → (h : History) (c k : Came) (M : List Message) → Runs t h c k M → IsNotOneFrame t side bytes
    never_begun begun h c k M r = absurd (begun (none side r.alone))
      where
        none : (s : Side) → (t.talk.client_held ≡ []) × (t.talk.server_held ≡ []) → held_on s t.talk ≡ []
        none Client a = a.0
        none Server a = a.1

-- ---- The talk
module _ (side : Side) (talk : TalkState) (s : StreamState) (bytes : List ℕ) (used : ℕ) (limit : s.limit ≡ side_limit talk.limits side) (o : IsOffered s bytes (Whole used)) where
  pub fits_own : (p : List ℕ) → bytes ≡ frame p → length p ≤ side_limit talk.limits side
  fits_own p is =
      let f : IsFrame s.limit bytes = o.3.4 in
      omega (arith, f.2, limit, ap length (frame_once f.0 p (sym f.1 ∙ is)))

  -- where it doesn't judge the frame, it has begun another
  pub has_begun : (took : Bool) → took ≡ false → MatchBool took (IsOneOfTalk talk side bytes) (IsNotOneOfTalk talk side bytes) → held_on side talk ≢ []
  has_begun took off one = begun (subst (λ b. MatchBool b (IsOneOfTalk talk side bytes) (IsNotOneOfTalk talk side bytes)) off one)
    where
      begun : IsNotOneOfTalk talk side bytes → held_on side talk ≢ []
      begun (inl some) = some
      begun (inr odd) = absurd (o.0 (inr (subst (λ z. IsLessOrMore z bytes) (sym limit) odd)))

-- ---- The passage's side
-- the side is lent the frame
abbrev pub lent : (side : Side) (t : ThroughState) (bytes : List ℕ) (used : ℕ) (o : IsOffered (stream_on side t) bytes (Whole used)) → IsReady side t → (payload : List ℕ) → bytes ≡ frame payload → WholeCame side t bytes used (held_in (stream_on side t) bytes)
lent side t bytes used o x payload is = record {
  p = payload;
  held = is;
  stays = refl;
  some = o.3.0;
  part = o.3.1;
  small = o.3.2;
  fits = fits_own side t.talk (stream_on side t) bytes used x.limit o payload is;
  is = sym o.3.3 ∙ is;
  none = x.none;
  count = refl;
  ready = x;
}

-- ---- Refusals
pub would : (side : Side) (t new : ThroughState) (bytes : List ℕ) (e : Fault) → new.talk.limits ≡ t.talk.limits → IsRefused (dropped side t) side bytes e new → WouldRefuse t side bytes e
would side t new bytes e limits x = (new, limits, given_refused side t bytes e new x)

-- a fault that is kept
pub kept_offered : (side : Side) (t : ThroughState) (bytes : List ℕ) (f : Fault) → t.fault ≡ Some f → WouldRefuse t side bytes f
kept_offered side t bytes f kept = (t, refl, (kept, λ h c k M r. absurd (cc (kept, r.no_fault))))

pub offers_room : (side : Side) (old new : ThroughState) (bytes : List ℕ) (r : Result (Option Passed) Fault) → Offers old side bytes r new → IfErr r (λ e. IsNeverFull old e)
offers_room side old new bytes (Ok s) x = tt
offers_room side old new bytes (Err e) x = never_full side old bytes e x.0.0 x.0.2
