-- A payload that was judged to be a request: its body is made again from the place behind its header.
use Rattle.std.proofs.Common.{w32, FitsSigned, ◌≡◌, ℕ, ◌+◌, ◌≤◌, List, ◌++◌, length, drop, Option, Some, refl, sym, ap, subst, ◌∙◌, arith}
use Rattle.std.specs.Prelude.{ℤ}
use Rattle.std.specs.List.{flat_map}
use Rattle.std.proofs.lemmas.List.{length-map}
use Rattle.zk_jute.specs.{Item.Item, Item.bytes_of, Item.HaveBytes, Told.StandsAt, Standing.OneStands, Shown.Stretch, Shown.Begins, Shown.values_at}
use Rattle.zk_jute.proofs.{Layouts.have_parts, Known.stands_last, Stretches.stands_split, Stretches.values_told}
use Rattle.zk_records.specs.{declared.op.Op.Op, Codes.op_number}
use Rattle.zk_records.specs.declared.op.Op.TheVariants as ops
use Rattle.zk_asks.specs.{Held.Ask, Held.Part, Held.ClientFrame, declared.judge.Outline.Outline, Forms.header_items, Forms.IsBody, Fronts.outline_of, Fronts.asking_of, Fronts.IsMultiOf}
use Rattle.zk_asks.specs.declared.frame.AskOf.TheVariants as ask
use Rattle.zk_asks.specs.declared.frame.ClientFrameOf.TheVariants as frame
use Rattle.zk_asks.specs.{Parts.op_of_part, Parts.part_items, Parts.end_header, Parts.marked, Rows.row_of, Rows.Content, Rows.remake, Rows.items_in, Rows.op_of_ask, Rows.body_items, Shown.part_value}
use Rattle.zk_asks.specs.Frames.{IsSent, ops_of_ask, payload}
use Rattle.zk_asks.proofs.{Made.IsMade, Made.is_made, Asks.body_is, Later.body_only, Later.body_apart, Later.ask_injective, Lying.part_read, Knowing.IsThe, Knowing.made_stands}

-- ---- a body at a place

-- two of one operation are one
pub body_one : (src : List ℕ) (place : ℕ) (a b : Ask) (p q : ℕ) → op_of_ask a ≡ op_of_ask b → HaveBytes (body_items a) → StandsAt (body_items a) src place p → HaveBytes (body_items b) → StandsAt (body_items b) src place q → a ≡ b
body_one src place a b p q same have stands has others =
    let v : IsBody (op_of_ask b) (body_items a) = subst (λ (o : Op). IsBody o (body_items a)) same (body_is a have) in
    let items = body_only (op_of_ask b) (body_items a) (body_items b) (drop p src) (drop q src) v (body_is b has) (sym stands.0 ∙ others.0) in
    body_apart a b (sym same) items.0

-- what is made of what stands there is the ask that stands there
pub content_is : (op : Op) (src : List ℕ) (place : ℕ) (x : Content (row_of op) × ℕ) → IsThe (items_in (row_of op)) src place x
    → (a : Ask) (end : ℕ) → op_of_ask a ≡ op → HaveBytes (body_items a) → StandsAt (body_items a) src place end → remake (row_of op) x.0 ≡ a
unfolding IsMade
content_is op src place x only a end of have stands =
    let m : IsMade op a = subst (λ (o : Op). IsMade o a) of (is_made a) in
    ap (λ (z : Content (row_of op) × ℕ). remake (row_of op) z.0) (only m.0 end (subst HaveBytes (sym m.2) have) (subst (λ (i : List Item). StandsAt i src place end) (sym m.2) stands)) ∙ m.1

-- ---- behind a header

module _ (xid : ℤ) (a : Ask) (src : List ℕ) (sent : IsSent (frame.Ask xid a)) (is : src ≡ payload (frame.Ask xid a)) where
  abbrev head : List Item
  head = header_items xid (op_number (op_of_ask a))

  abbrev end : ℕ
  end = 0 + length (bytes_of (head ++ body_items a))

  xid_fits : FitsSigned w32 xid
  xid_fits = (have_parts head (body_items a) sent.1).0.0

  have : HaveBytes (body_items a)
  have = (have_parts head (body_items a) sent.1).1

  behind_head : StandsAt (body_items a) src 8 end × (8 ≤ length src)
  behind_head = let s = stands_split head (body_items a) src 0 end (omega arith) (stands_last (head ++ body_items a) src 0 (omega arith) is) in (s.1, s.2)

  body_behind : OneStands (items_in (row_of (op_of_ask a))) src 8
  body_behind = made_stands (op_of_ask a) a src 8 end (is_made a) have behind_head.0

-- ---- a multi's parts

module _ (xid : ℤ) (ds : List Part) (src : List ℕ) (m : IsMultiOf xid ds src) (count : ℕ) (counted : length ds ≡ count) where
  parts_behind : (8 ≤ length src) × (at : ℕ) × Stretch part_items src 8 at count
  parts_behind =
      let b = behind_head xid (ask.Multi ds) src m.0 m.1 in
      let s = stands_split (flat_map part_items ds) (marked end_header) src 8 (end xid (ask.Multi ds) src m.0 m.1) b.1 b.0 in
      let h = have_parts (flat_map part_items ds) (marked end_header) (have xid (ask.Multi ds) src m.0 m.1) in
      (b.1, 8 + length (bytes_of (flat_map part_items ds)), record { values = ds; count_is = sym counted; have = h.0; stands = s.0 })

  pub parts_begin : Begins part_items src count 8
  parts_begin = parts_behind

  pub parts_are : values_at (part_value src) count 8 ≡ ds
  unfolding parts_behind
  parts_are = let p = parts_behind in values_told part_items src (part_value src) (part_read src) 8 p.1 count p.0 p.2

  -- and those of any multi that the payload is
  pub parts_alike : (id : ℤ) (es : List Part) → IsMultiOf id es src → values_at (part_value src) count 8 ≡ es
  parts_alike id es n =
      let same = ask_injective (frame.Ask xid (ask.Multi ds)) (frame.Ask id (ask.Multi es)) tt tt m.0 n.0 (sym m.1 ∙ n.1) in
      let one : ds ≡ es = cc in
      parts_are ∙ one

-- ---- the request that asks this

abbrev pub AsksFor : Option Outline → List ℕ → ClientFrame → Type 0
AsksFor asked src f = (asking_of f ≡ asked) × IsSent f × (src ≡ payload f)

parts_in : (a : Ask) → op_of_ask a ≡ ops.Multi → (ds : List Part) × (a ≡ ask.Multi ds)
parts_in (ask.Multi ds) e = (ds, refl)
parts_in a e = absurd cc

pub outline_is : (o : Outline) (xid : ℤ) (a : Ask) → asking_of (frame.Ask xid a) ≡ Some o → outline_of xid a ≡ o
outline_is o xid a e = cc

module _ (src : List ℕ) (o : Outline) where
  pub judged_within : (f : ClientFrame) → AsksFor (Some o) src f → 8 ≤ length src
  judged_within (frame.Connect hello flag) k = let e = k.0 in absurd cc
  judged_within (frame.Ask xid a) k = (behind_head xid a src k.1 k.2).1

  pub judged_body : (f : ClientFrame) → AsksFor (Some o) src f → OneStands (items_in (row_of o.op)) src 8
  judged_body (frame.Connect hello flag) k = let e = k.0 in absurd cc
  judged_body (frame.Ask xid a) k = subst (λ (p : Op). OneStands (items_in (row_of p)) src 8) (ap (λ (z : Outline). z.op) (outline_is o xid a k.0)) (body_behind xid a src k.1 k.2)

  pub judged_xid : (f : ClientFrame) → AsksFor (Some o) src f → FitsSigned w32 o.xid
  judged_xid (frame.Connect hello flag) k = let e = k.0 in absurd cc
  judged_xid (frame.Ask xid a) k = subst (FitsSigned w32) (ap (λ (z : Outline). z.xid) (outline_is o xid a k.0)) (xid_fits xid a src k.1 k.2)

  -- what is made of the body that stands there is the request's
  pub judged_is : (b : Ask) → ((a : Ask) (q : ℕ) → op_of_ask a ≡ o.op → HaveBytes (body_items a) → StandsAt (body_items a) src 8 q → b ≡ a) → (f : ClientFrame) → AsksFor (Some o) src f → frame.Ask o.xid b ≡ f
  judged_is b only (frame.Connect hello flag) k = let e = k.0 in absurd cc
  judged_is b only (frame.Ask xid a) k =
      let same = outline_is o xid a k.0 in
      let one = only a (end xid a src k.1 k.2) (ap (λ (z : Outline). z.op) same) (have xid a src k.1 k.2) (behind_head xid a src k.1 k.2).0 in
      ap (λ (z : Ask). frame.Ask o.xid z) one ∙ ap (λ (x : ℤ). frame.Ask x a) (sym (ap (λ (z : Outline). z.xid) same))

  module _ (multi : o.op ≡ ops.Multi) where
    abbrev pub AMulti : ClientFrame → Type 0
    AMulti f = (ds : List Part) × (f ≡ frame.Ask o.xid (ask.Multi ds)) × IsMultiOf o.xid ds src × (length ds ≡ o.parts)

    pub a_multi : (f : ClientFrame) → AsksFor (Some o) src f → AMulti f
    a_multi (frame.Connect hello flag) k = let e = k.0 in absurd cc
    a_multi (frame.Ask xid a) k =
        let same = outline_is o xid a k.0 in
        let p = parts_in a (ap (λ (z : Outline). z.op) same ∙ multi) in
        let id : xid ≡ o.xid = ap (λ (z : Outline). z.xid) same in
        let is : frame.Ask xid a ≡ frame.Ask o.xid (ask.Multi p.0) = ap (λ (x : ℤ). frame.Ask x a) id ∙ ap (λ (z : Ask). frame.Ask o.xid z) p.1 in (
          p.0,
          is,
          (subst IsSent is k.1, k.2 ∙ ap payload is),
          sym (length-map p.0 op_of_part) ∙ ap (λ (z : Ask). length (ops_of_ask z)) (sym p.1) ∙ ap (λ (z : Outline). z.parts) same,
        )

    pub judged_begins : (f : ClientFrame) → AsksFor (Some o) src f → Begins part_items src o.parts 8
    judged_begins f k = let m = a_multi f k in parts_begin o.xid m.0 src m.2 o.parts m.3

    pub judged_parts : (f : ClientFrame) → AsksFor (Some o) src f → frame.Ask o.xid (ask.Multi (values_at (part_value src) o.parts 8)) ≡ f
    judged_parts f k = let m = a_multi f k in ap (λ (z : List Part). frame.Ask o.xid (ask.Multi z)) (parts_are o.xid m.0 src m.2 o.parts m.3) ∙ sym m.1
