-- What a frame's header tells, and what isn't there.
use Rattle.std.proofs.Common.{◌≡◌, ℕ, ℤ, ◌<◌, inl, inr, arith, List, Option, Some, None, refl, sym, ap, ◌∙◌, subst, Bool, true, false}
use Rattle.std.specs.Prelude.{MatchBool}
use Rattle.std.proofs.lemmas.Bool.{false≢true}
use Rattle.zk_records.specs.declared.profile.Profile.{Profile}
use Rattle.std.specs.Option.{IfSome, IfNone}
use Rattle.zk_through.specs.{declared.turn.Turn.Turn, LeftOut.has_turn, LeftOut.xid_of, LeftOut.number_of, LeftOut.IsForeign, Turns.turn_of, Fates.TellsRequest, Fates.TellsLacking, Fates.TellsReply, Fates.IsAhead, Fates.HasNoForeign, Fates.WeighsAtMost, Fates.IsWeighed, Runs.IsRequestOf, Runs.Weighs}

-- the request with this payload, where it is foreign, and where it isn't
module _ (profile : Profile) (payload : List ℕ) (b : Bool) (foreign : MatchBool b (IsForeign profile payload) (IsForeign profile payload → ⊥)) where
  pub lacks : (ahead : Option Turn) (turn : Turn) → ahead ≡ Some turn → b ≡ true → TellsLacking profile payload ahead (Some (record turn { out = true }))
  lacks ahead turn is on =
      let it = subst (λ b. MatchBool b (IsForeign profile payload) (IsForeign profile payload → ⊥)) on foreign in
      subst (λ (z : Option Turn). TellsLacking profile payload z (Some (record turn { out = true }))) (sym is) (refl, it)

  pub native : (ahead : Option Turn) (turn : Turn) → ahead ≡ Some turn → b ≡ false → TellsLacking profile payload ahead None
  native ahead turn is off =
      let none = subst (λ b. MatchBool b (IsForeign profile payload) (IsForeign profile payload → ⊥)) off foreign in
      subst (λ (z : Option Turn). TellsLacking profile payload z None) (sym is) none

pub if_none : {X P : Type 0} (r : Option X) → P → IfNone r P
if_none None p = p
if_none (Some x) p = tt

-- the frame of this number and payload
module _ (number : ℕ) (payload : List ℕ) where
  -- where it is a later one
  pub tells_request : 0 < number → (r : Option Turn) → IfSome r (λ turn. (has_turn 8 payload ≡ true) × (turn ≡ turn_of false (number, payload))) → IfNone r (has_turn 8 payload ≡ false) → TellsRequest number payload r
  tells_request later None some none = λ _. none
  tells_request later (Some turn) some none = ((later, some.0), some.1)

  pub tells_reply : 0 < number → (r : Option ℤ) → IfSome r (λ xid. (has_turn 16 payload ≡ true) × (xid ≡ xid_of payload)) → IfNone r (has_turn 16 payload ≡ false) → TellsReply number payload r
  tells_reply later None some none = λ _. none
  tells_reply later (Some xid) some none = ((later, some.0), some.1)

  -- what its header has
  pub request_header : (r : Option Turn) → TellsRequest number payload r → IfSome r (λ turn. (turn.number ≡ number_of payload) × (turn.xid ≡ xid_of payload))
  request_header None tells = tt
  request_header (Some turn) tells = (ap (λ (z : Turn). z.number) tells.1, ap (λ (z : Turn). z.xid) tells.1)

  pub reply_header : (r : Option ℤ) → TellsReply number payload r → IfSome r (λ xid. has_turn 16 payload ≡ true)
  reply_header None tells = tt
  reply_header (Some xid) tells = tells.0.1

  -- the request that is left out is ahead, and one that the talk is to get isn't foreign
  module _ (profile held : Profile) (same : profile ≡ held) where
    pub out_ahead : (ahead : Option Turn) (turn : Turn) → TellsRequest number payload ahead → TellsLacking profile payload ahead (Some turn) → IsAhead 8 number payload × (turn ≡ turn_of true (number, payload)) × IsForeign held payload
    out_ahead None turn tells out = absurd (cc (out))
    out_ahead (Some asked) turn tells out = (tells.0, out.0 ∙ ap (λ (z : Turn). record z { out = true }) tells.1, subst (λ (z : Profile). IsForeign z payload) same out.1)

    pub told_ahead : (ahead out : Option Turn) → out ≡ None → TellsRequest number payload ahead → TellsLacking profile payload ahead out → HasNoForeign held number payload
    told_ahead None out none tells lacking a foreign = false≢true (sym (tells a.0) ∙ a.1)
    told_ahead (Some asked) out none tells lacking a foreign =
        let stays = subst (λ (z : Option Turn). TellsLacking profile payload (Some asked) z) none lacking in
        stays (subst (λ (z : Profile). IsForeign z payload) (sym same) foreign)

    -- where it doesn't fit, the frame weighs something
    pub weighs_itself_or : (ahead out : Option Turn) (room size : ℕ) → TellsRequest number payload ahead → TellsLacking profile payload ahead out → IfSome out (λ turn. size ≡ 1) →
        IfNone out (IsWeighed profile number payload room size) → room < size → (0 < number) × Weighs held payload size
    weighs_itself_or ahead (Some turn) room size tells lacking one none more =
        let a = out_ahead ahead turn tells lacking in
        (a.0.0, inl (a.0.1, a.2, one))
    weighs_itself_or ahead None room size tells lacking one asks more =
        let y = (asks.1 more).found (omega (arith, more)) in
        (y.0, inr (subst (λ (z : Profile). IsRequestOf z payload size) same y.1))

    -- one that the talk is to get weighs no more than this
    pub weighs_most : (out : Option Turn) (room weight : ℕ) → out ≡ None → IfNone out (IsWeighed profile number payload room weight) → WeighsAtMost held number payload weight
    weighs_most out room weight none asks = subst (λ (z : Profile). WeighsAtMost z number payload weight) same (subst (λ (z : Option Turn). IfNone z (IsWeighed profile number payload room weight)) none asks).0
