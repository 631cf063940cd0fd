-- Where a record ends that a request is made of, the request's body ends.
use Rattle.std.proofs.Common.{◌≡◌, ℕ, ◌≤◌, ◌<◌, inl, inr, List, [], length, drop, refl, sym, ap, subst, ◌∙◌, arith}
use Rattle.std.specs.Prelude.{ℤ, Option, Result, Ok, Err, IfOk, IfErr}
use Rattle.std.proofs.lemmas.List.{length-map}
use Rattle.zk_jute.specs.{declared.fault.ItemFault.ItemFault, declared.fault.Reason.TheVariants.Trailing, Item.Item, Item.HaveBytes, Layout.Layout, Layout.End, Layout.IsValueOf, Reading.told_place}
use Rattle.zk_jute.specs.{Told.StandsAt, Told.HasSureFault, Told.IsToldAt, Told.IsSurelyTold, Told.IsSurelyToldAt, Verdict.Says, Verdict.IsValueAt}
use Rattle.zk_jute.proofs.{Steps.IsBytes, Steps.IsBytes-drop, Layouts.bytes_only, Sequels.excluded, Judged.says_more}
use Rattle.zk_records.specs.{Records.request_header, declared.op.Op.Op, declared.op.PartOp.PartOp, declared.profile.Profile.Profile, Codes.op_number, Codes.HasOp}
use Rattle.zk_records.specs.declared.op.Op.TheVariants as ops
use Rattle.zk_asks.specs.{Forms.header_items, Forms.IsOf, Forms.IsBody, Faults.IsFaultOf, Faults.IsMultiFault, Faults.IsBodyFault, Faults.IsAskFault, Rows.Body, Rows.Fields, Rows.Parts, Rows.body_of, Rows.op_of_ask, Rows.body_items}
use Rattle.zk_asks.specs.{Frames.ops_of_ask, Frames.others_have_none, Parts.op_of_part, Parts.part_layout, Parts.multi_items, Codes.IsAllowed, declared.judge.Outline.Outline, Held.Part}
use Rattle.zk_asks.specs.declared.frame.AskOf.TheVariants as ask
use Rattle.zk_asks.specs.Fronts.{IsRecordAt, IsHeadAt, IsBodyWith, IsOutlined, outline_of}
use Rattle.zk_asks.proofs.{Asks.body_is, Asks.refused_body, Asks.refused_rest, Deciding.body_decided, Deciding.part_covered, Lying.ask_sent}

-- a body that is a record, or nothing, is no multi
no_multi : (op : Op) (l : Layout) → body_of op ≡ Fields l → op ≡ ops.Multi → ⊥
no_multi op l is e = let both : Fields l ≡ Parts = sym is ∙ ap body_of e in absurd cc

module _ (src : List ℕ) (place : ℕ) (op : Op) (l : Layout) (is : body_of op ≡ Fields l) where
  -- what its layout has there is a body
  pub body_there : IsBytes src → (end : ℕ) → IsValueAt (IsValueOf l) src place end → IsBodyWith op 0 src place end
  body_there fits end v =
      elim (body_decided op (drop place src) (IsBytes-drop place src fits)) [
        | inl a ↦
            let mine : IsBody op (body_items a.ask) = subst (λ (o : Op). IsBody o (body_items a.ask)) a.is (body_is a.ask a.have) in
            let value : IsValueOf l (body_items a.ask) = subst (λ (b : Body). IsOf b (body_items a.ask)) is mine in
            let same = bytes_only l (body_items a.ask) v.0 a.rest (drop end src) value v.1 (sym a.splits ∙ v.2.0) in (
              a.ask,
              a.is,
              ap length (others_have_none a.ask (λ e. no_multi op l is (sym a.is ∙ e))),
              a.have,
              subst (λ (i : List Item). StandsAt i src place end) (sym same.0) v.2,
            )
        | inr f ↦ absurd (excluded l v.0 (drop place src) (drop end src) f.0 f.1 v.1 v.2.0 (subst (λ (b : Body). IsFaultOf b (drop place src) f.0 f.1) is f.2))
      ]

  -- and its layout's fault is the body's
  sure : (e : ItemFault) → HasSureFault (IsValueOf l) src place e → IsSurelyToldAt (IsBodyFault op) src place e
  unfolding IsToldAt
  sure e f = (inr (f.0.0, subst (λ (b : Body). IsFaultOf b (drop place src) f.0.0 e.reason) (sym is) f.0.1, f.0.2), f.1)

  pub body_refused : {V : Type 0} (tells : V → Option ItemFault) (v : V) → Says tells (HasSureFault (IsValueOf l) src place) v → Says tells (IsSurelyToldAt (IsBodyFault op) src place) v
  body_refused tells v h = says_more tells _ _ sure v h

-- a multi's parts are the body
pub multi_there : {V : Type 0} (src : List ℕ) (place : ℕ) (op : Op) → op ≡ ops.Multi → (result : Result (ℕ × ℕ) V)
    → IfOk result (λ x. (ds : List Part) × (length ds ≡ x.0) × HaveBytes (multi_items ds) × StandsAt (multi_items ds) src place x.1) → IfOk result (λ x. IsBodyWith op x.0 src place x.1)
multi_there src place op is (Ok x) f = (ask.Multi f.0, sym is, length-map f.0 op_of_part ∙ f.1, f.2, f.3)
multi_there src place op is (Err v) f = tt

-- and their fault is the body's
pub multi_refused : {V X : Type 0} (tells : V → Option ItemFault) (src : List ℕ) (place : ℕ) (op : Op) → op ≡ ops.Multi → (result : Result X V) → IfErr result (Says tells (IsSurelyToldAt IsMultiFault src place))
    → IfErr result (Says tells (IsSurelyToldAt (IsBodyFault op) src place))
multi_refused tells src place op is result h = subst (λ (o : Op). IfErr result (Says tells (IsSurelyToldAt (IsBodyFault o) src place))) (sym is) h

-- nothing ends where it begins
pub nothing_there : (src : List ℕ) (place : ℕ) → IsValueAt (IsValueOf End) src place place
nothing_there src place = ([], (refl, tt), (refl, omega arith))

-- what a part's layout has is a record of the part
pub part_there : (src : List ℕ) (place : ℕ) (op : PartOp) (end : ℕ) → IsValueAt (IsValueOf (part_layout op)) src place end → IsRecordAt op src place end
part_there src place op end v =
    let p = part_covered op v.0 v.1 in
    (p.part, p.is, subst (IsValueOf (part_layout op)) (sym p.same) v.1, subst (λ (i : List Item). StandsAt i src place end) (sym p.same) v.2)

pub part_ends : {V : Type 0} (src : List ℕ) (place : ℕ) (a op : PartOp) → op ≡ a → (result : Result ℕ V) → IfOk result (IsValueAt (IsValueOf (part_layout a)) src place) → IfOk result (IsRecordAt op src place)
part_ends src place a op is (Ok end) v = subst (λ (o : PartOp). IsRecordAt o src place end) (sym is) (part_there src place a end v)
part_ends src place a op is (Err e) v = tt

-- ---- a header, and a body of its operation

module _ (profile : Profile) (xid : ℤ) (op : Op) (src : List ℕ) (place : ℕ) (h : IsHeadAt profile xid op src place) where
  front : IsValueOf request_header.layout (header_items xid (op_number op))
  front = (request_header.unfolds (record { xid = xid; kind = op_number op }), h.2)

  -- the body is at fault
  pub fault_behind : (e : ItemFault) → IsSurelyToldAt (IsBodyFault op) src place e → IsSurelyTold (IsAskFault profile src) e
  fault_behind e f = (refused_body profile src xid (op_number op) place front h.3 op e h.0 refl h.1 f.0, f.1)

  module _ (parts end : ℕ) (b : IsBodyWith op parts src place end) where
    has : HasOp profile (op_of_ask b.0)
    has = subst (HasOp profile) (sym b.1) h.0

    may : IsAllowed xid (op_of_ask b.0)
    may = subst (IsAllowed xid) (sym b.1) h.1

    -- something follows
    pub rest_behind : end < length src → IsSurelyTold (IsAskFault profile src) (record { place = told_place end; reason = Trailing })
    rest_behind left = (refused_rest profile src xid (op_number op) place front h.3 b.0 end has (ap op_number (sym b.1)) may b.3 b.4 left, λ e. cc)

    abbrev told : Outline
    told = record { xid = xid; op = op; parts = parts }

    outlined : outline_of xid b.0 ≡ told
    outlined =
        ap (λ (o : Op). record { xid = xid; op = o; parts = length (ops_of_ask b.0) }) b.1
        ∙ ap (λ (n : ℕ). record { xid = xid; op = op; parts = n }) b.2

    -- nothing follows
    pub all_there : length src ≤ end → IsOutlined profile told src
    all_there all = let sent = ask_sent src xid (op_number op) place end b.0 h.2 h.3 (ap op_number (sym b.1)) may b.3 b.4 all in (b.0, has, outlined, sent.0, sent.1)
