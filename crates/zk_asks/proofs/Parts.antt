-- Multi: what the loop refuses, and that it is what the parts' forms fix.
use Rattle.std.proofs.Common.{◌≡◌, ℕ, ◌+◌, inl, inr, List, [], ◌∷◌, ◌++◌, length, drop, refl, sym, ap, subst, ◌∙◌, append_assoc, arith}
use Rattle.std.specs.List.{flat_map}
use Rattle.std.proofs.lemmas.List.{length-append}
use Rattle.zk_jute.specs.{declared.fault.ItemFault.ItemFault, declared.fault.Reason.Reason, declared.fault.Reason.TheVariants.BadPart, Item.Item, Item.bytes_of, Item.HaveBytes, Faults.IsFault, Layout.IsValueOf, Layout.Unfolds}
use Rattle.zk_jute.specs.{Reading.told_place, Told.StandsAt, Told.IsToldFault, Told.IsToldAt}
use Rattle.zk_jute.proofs.Layouts.{bytes_both, have_parts}
use Rattle.zk_records.specs.{Records.multi_header, declared.header.MultiHeader.MultiHeader, declared.op.PartOp.PartOp}
use Rattle.zk_records.specs.declared.op.PartOp.TheVariants as parts
use Rattle.zk_asks.specs.{Held.Part, Faults.IsMultiFault, Faults.in_mark, Faults.bad_mark, Faults.in_part, Faults.behind_part}
use Rattle.zk_asks.specs.declared.frame.PartOf.TheVariants as part
use Rattle.zk_asks.specs.Parts.{part_row, part_layout, part_header, end_header, marked, MayStand, IsMulti, no_more, a_part, record_of, op_of_part, part_items, multi_items}

-- ---- a part

-- a part is its operation and its record
abbrev pub IsMade : PartOp → Part → Type 0
IsMade op p = (x : (part_row op).Content) × ((part_row op).make x ≡ p) × ((part_row op).wired.items x ≡ record_of p)

pub part_made : (p : Part) → IsMade (op_of_part p) p
part_made (part.Create x) = (x, refl, refl)
part_made _ = (_, refl, refl)

-- what is made of an operation's record is a part of it
pub made_part : (op : PartOp) (x : (part_row op).Content) → (op_of_part ((part_row op).make x) ≡ op) × (record_of ((part_row op).make x) ≡ (part_row op).wired.items x)
made_part parts.Create x = (refl, refl)
made_part _ x = (refl, refl)

pub record_is : (p : Part) → Unfolds (part_layout (op_of_part p)) (record_of p)
record_is p = let m = part_made p in subst (Unfolds (part_layout (op_of_part p))) m.2 ((part_row (op_of_part p)).wired.unfolds m.0)

pub mark_is : (h : MultiHeader) → HaveBytes (marked h) → IsValueOf multi_header.layout (marked h)
mark_is h have = (multi_header.unfolds h, have)

-- ---- what the loop refuses

-- a fault behind whole parts
past : (ps : List Part) (rest : List ℕ) (behind : ℕ) (reason : Reason) → HaveBytes (flat_map part_items ps) → IsMultiFault rest behind reason
    → IsMultiFault (bytes_of (flat_map part_items ps) ++ rest) (length (bytes_of (flat_map part_items ps)) + behind) reason
past [] rest behind reason have f = let same : 0 + behind ≡ behind = omega arith in subst (λ (p : ℕ). IsMultiFault rest p reason) (sym same) f
past (p ∷ ps) rest behind reason have f =
    let others = flat_map part_items ps in
    let h = have_parts (part_items p) others have in
    let k = have_parts (marked (part_header (op_of_part p))) (record_of p) h.0 in
    let later = past ps rest behind reason h.1 f in
    let split : bytes_of (part_items p ++ others) ++ rest ≡ bytes_of (part_items p) ++ (bytes_of others ++ rest) = ap (λ (b : List ℕ). b ++ rest) (bytes_both (part_items p) others) ∙ append_assoc (bytes_of (part_items p)) (bytes_of others) rest in
    let place : length (bytes_of (part_items p)) + (length (bytes_of others) + behind) ≡ length (bytes_of (part_items p ++ others)) + behind = omega (arith, ap length (bytes_both (part_items p) others), length-append (bytes_of (part_items p)) (bytes_of others)) in
    subst (λ (n : ℕ). IsMultiFault (bytes_of (part_items p ++ others) ++ rest) n reason) place
    (behind_part (bytes_of (part_items p ++ others) ++ rest) (bytes_of others ++ rest) (op_of_part p) (record_of p) (length (bytes_of others) + behind) reason (record_is p, k.1) split later)

-- a fault behind items that stand there, counted from their beginning
pub told_behind : (F G : List ℕ → ℕ → Reason → Type 0) (items : List Item) (src : List ℕ) (at after : ℕ) (e : ItemFault) → StandsAt items src at after
    → ((q : ℕ) → drop at src ≡ bytes_of items ++ drop after src → F (drop after src) q e.reason → G (drop at src) (length (bytes_of items) + q) e.reason) → IsToldAt F src after e → IsToldAt G src at e
unfolding IsToldAt
told_behind F G items src at after e stands make h =
    elim h [
      | inl m ↦ inl m
      | inr f ↦
          let x = stands.1 in
          let told : after + f.0 ≡ at + (length (bytes_of items) + f.0) = omega arith in
          inr (length (bytes_of items) + f.0, make f.0 stands.0 f.1, f.2 ∙ ap told_place told)
    ]

-- a header that may not stand there
pub told_bad : (F : List ℕ → ℕ → Reason → Type 0) (src : List ℕ) (at : ℕ) → F (drop at src) 0 BadPart → IsToldAt F src at (record { place = told_place at; reason = BadPart })
unfolding IsToldAt
told_bad F src at f = let same : at ≡ at + 0 = omega arith in inr (0, f, ap told_place same)

module _ (ps : List Part) (src : List ℕ) (place at : ℕ) (have : HaveBytes (flat_map part_items ps)) (stands : StandsAt (flat_map part_items ps) src place at) where
  told_past : (e : ItemFault) → IsToldAt IsMultiFault src at e → IsToldAt IsMultiFault src place e
  told_past e h =
      let done = flat_map part_items ps in
      told_behind IsMultiFault IsMultiFault done src place at e stands (λ q splits f. subst (λ (b : List ℕ). IsMultiFault b (length (bytes_of done) + q) e.reason) (sym splits) (past ps (drop at src) q e.reason have f)) h

  pub multi_mark : (e : ItemFault) → IsToldFault (IsValueOf multi_header.layout) src at e → IsToldAt IsMultiFault src place e
  unfolding IsToldAt
  multi_mark e h = told_past e (elim h [ inl m ↦ inl m | inr f ↦ inr (f.0, in_mark (drop at src) f.0 e.reason f.1, f.2) ])

  pub multi_bad : (header : MultiHeader) (after : ℕ) → IsValueOf multi_header.layout (marked header) → StandsAt (marked header) src at after → (MayStand header → ⊥)
      → IsToldAt IsMultiFault src place (record { place = told_place at; reason = BadPart })
  multi_bad header after v s not = told_past _ (told_bad IsMultiFault src at (bad_mark (drop at src) (drop after src) header v.1 s.0 not))

  pub multi_part : (header : MultiHeader) (op : PartOp) (after : ℕ) (e : ItemFault) → StandsAt (marked header) src at after → header ≡ part_header op → IsToldFault (IsValueOf (part_layout op)) src after e
      → IsToldAt IsMultiFault src place e
  unfolding IsToldAt
  multi_part header op after e s is h =
      let mark = marked (part_header op) in
      let t : StandsAt mark src at after = subst (λ (x : MultiHeader). StandsAt (marked x) src at after) is s in
      told_past e (told_behind (IsFault (IsValueOf (part_layout op))) IsMultiFault mark src at after e t (λ q. in_part (drop at src) (drop after src) op q e.reason) h)

-- the items of parts are those of a multi
pub multi_is : (ps : List Part) → HaveBytes (multi_items ps) → IsMulti (multi_items ps)
multi_is [] have = no_more
multi_is (p ∷ ps) have =
    let others = multi_items ps in
    let mark = marked (part_header (op_of_part p)) in
    let regroup : multi_items (p ∷ ps) ≡ mark ++ (record_of p ++ others) = append_assoc (part_items p) (flat_map part_items ps) (marked end_header) ∙ append_assoc mark (record_of p) others in
    let h = have_parts mark (record_of p ++ others) (subst HaveBytes regroup have) in
    let k = have_parts (record_of p) others h.1 in
    subst IsMulti (sym regroup) (a_part (op_of_part p) (record_of p) others (record_is p, k.0) (multi_is ps k.1))
