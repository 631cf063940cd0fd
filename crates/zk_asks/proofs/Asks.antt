-- Requests: what is read, what is refused, and that the two exclude each other.
use Rattle.std.proofs.Common.{◌≡◌, ℕ, ◌+◌, ◌<◌, inl, inr, List, ◌++◌, length, drop, refl, sym, ap, subst, ◌∙◌, arith}
use Rattle.std.specs.Prelude.{ℤ}
use Rattle.zk_jute.specs.{declared.fault.ItemFault.ItemFault, Item.Item, Item.bytes_of, Item.HaveBytes, Layout.IsValueOf, Reading.told_place, Told.StandsAt, Told.IsToldFault, Told.IsTold, Told.IsToldAt}
use Rattle.zk_jute.specs.declared.fault.Reason.TheVariants.{Trailing, UnknownOp, XidOp}
use Rattle.zk_records.specs.{Records.request_header, declared.op.Op.Op, declared.profile.Profile.Profile, Codes.op_number, Codes.HasOp, Codes.IsNoOp}
use Rattle.zk_asks.specs.{Held.Ask, Codes.IsAllowed, Forms.header_items, Forms.IsOf, Forms.IsBody, Forms.asks}
use Rattle.zk_asks.specs.Faults.{IsBodyFault, IsAskFault, in_header, unknown_op, bad_xid, in_body, behind_body}
use Rattle.zk_asks.specs.Rows.{Row, holds, bare, multi, row_of, Content, items_in, body_in, op_of_ask, body_items}
use Rattle.zk_asks.proofs.{Made.IsMade, Made.is_made, Parts.multi_is}
use Rattle.zk_jute.proofs.Sequels.{stands_then, is_left}

row_is : (r : Row) (x : Content r) → HaveBytes (items_in r x) → IsOf (body_in r) (items_in r x)
row_is (holds make w) x have = (w.unfolds x, have)
row_is (bare a) x have = (refl, tt)
row_is (multi make) x have = multi_is x have

-- the items of an ask are those of its form
pub body_is : (a : Ask) → HaveBytes (body_items a) → IsBody (op_of_ask a) (body_items a)
unfolding IsMade
body_is a have =
    let m = is_made a in
    subst (λ (items : List Item). IsBody (op_of_ask a) items) m.2 (row_is (row_of (op_of_ask a)) m.0 (subst HaveBytes (sym m.2) have))

-- ---- what the reader refuses

pub refused_header : (profile : Profile) (src : List ℕ) (e : ItemFault) → IsToldFault (IsValueOf request_header.layout) src 0 e → IsTold (IsAskFault profile src) e
unfolding IsTold
refused_header profile src e h = elim h [ inl m ↦ inl m | inr f ↦ let same : 0 + f.0 ≡ f.0 = omega arith in inr (f.0, in_header f.0 e.reason f.1, f.2 ∙ ap told_place same) ]

module _ (profile : Profile) (src : List ℕ) (xid kind : ℤ) (after : ℕ) (v : IsValueOf request_header.layout (header_items xid kind)) (s : StandsAt (header_items xid kind) src 0 after) where
  pub refused_op : IsNoOp profile kind → IsTold (IsAskFault profile src) (record { place = 4; reason = UnknownOp })
  unfolding IsTold
  refused_op unknown = inr (4, unknown_op xid kind (record { rest = drop after src; have = v.1; splits = s.0 }) unknown, refl)

  pub refused_xid : (op : Op) → HasOp profile op → kind ≡ op_number op → (IsAllowed xid op → ⊥) → IsTold (IsAskFault profile src) (record { place = 4; reason = XidOp })
  unfolding IsTold
  refused_xid op has is not =
      let have : HaveBytes (header_items xid (op_number op)) = subst (λ (k : ℤ). HaveBytes (header_items xid k)) is v.1 in
      let opens : src ≡ bytes_of (header_items xid (op_number op)) ++ drop after src = subst (λ (k : ℤ). src ≡ bytes_of (header_items xid k) ++ drop after src) is s.0 in
      inr (4, bad_xid xid op (record { rest = drop after src; have = have; splits = opens }) has not, refl)

  pub refused_body : (op : Op) (e : ItemFault) → HasOp profile op → kind ≡ op_number op → IsAllowed xid op → IsToldAt (IsBodyFault op) src after e → IsTold (IsAskFault profile src) e
  unfolding IsTold IsToldAt
  refused_body op e has is may h =
      let have : HaveBytes (header_items xid (op_number op)) = subst (λ (k : ℤ). HaveBytes (header_items xid k)) is v.1 in
      let opens : src ≡ bytes_of (header_items xid (op_number op)) ++ drop after src = subst (λ (k : ℤ). src ≡ bytes_of (header_items xid k) ++ drop after src) is s.0 in
      let eight : after ≡ 8 = s.1 in
      elim h [
        | inl m ↦ inl m
        | inr f ↦
            let told : after + f.0 ≡ 8 + f.0 = omega arith in
            inr (8 + f.0, in_body xid op f.0 e.reason (record { header = record { rest = drop after src; have = have; splits = opens }; has = has; may = may }) f.1, f.2 ∙ ap told_place told)
      ]

  pub refused_rest : (a : Ask) (end : ℕ) → HasOp profile (op_of_ask a) → kind ≡ op_number (op_of_ask a) → IsAllowed xid (op_of_ask a) → HaveBytes (body_items a) → StandsAt (body_items a) src after end → end < length src
      → IsTold (IsAskFault profile src) (record { place = told_place end; reason = Trailing })
  unfolding IsTold
  refused_rest a end has is may have t left =
      let op = op_of_ask a in
      let head : HaveBytes (header_items xid (op_number op)) = subst (λ (k : ℤ). HaveBytes (header_items xid k)) is v.1 in
      let opens : StandsAt (header_items xid (op_number op)) src 0 after = subst (λ (k : ℤ). StandsAt (header_items xid k) src 0 after) is s in
      let both = stands_then (header_items xid (op_number op)) (body_items a) src 0 after end opens t in
      let at = both.1 in
      let place : end ≡ length (bytes_of (header_items xid (op_number op) ++ body_items a)) = omega arith in
      inr (
        end,
        behind_body end (record {
          whole = header_items xid (op_number op) ++ body_items a;
          rest = drop end src;
          value = asks xid op (body_items a) head has may (body_is a have);
          splits = both.0;
          some = is_left src end left;
          at = place;
        }),
        refl,
      )
