-- Where a record ends that a reply's body is made of, the body ends; and where it reaches the end, the reply is the payload.
use Rattle.std.proofs.Common.{◌≡◌, ◌≢◌, ℕ, ◌≤◌, ◌<◌, List, [], ◌++◌, length, drop, Option, Result, Ok, Err, of_z, to_z, inr, refl, sym, ap, subst, ◌∙◌, arith}
use Rattle.std.specs.Prelude.{pos, negsuc, ℤ, IfOk, IfErr}
use Rattle.std.specs.Int.{w32}
use Rattle.std.proofs.lemmas.Int.{to_z-of_z}
use lib.Signed.{mag}
use Rattle.std.proofs.{Math.Seq.drop-append_seam, lemmas.List.length-append}
use Rattle.zk_jute.specs.{declared.fault.ItemFault.ItemFault, Item.Item, Item.bytes_of, Item.HaveBytes, Layout.Layout, Layout.End, Layout.Unfolds, Layout.IsValueOf, Told.StandsAt, Told.HasSureFault, Told.IsToldAt, Told.IsSurelyToldAt}
use Rattle.zk_jute.specs.Verdict.{Says, IsValueAt}
use Rattle.zk_jute.proofs.{Covers.text_covered, Judged.errs_more}
use Rattle.zk_records.specs.{Records.reply_header, declared.header.ReplyHeader.ReplyHeader, declared.op.Op.Op, declared.op.PartOp.PartOp}
use Rattle.zk_records.specs.declared.op.Op.TheVariants as ops
use Rattle.zk_records.specs.declared.op.PartOp.TheVariants as parts
use Rattle.zk_records.proofs.Covered.{stat_covered}
use Rattle.zk_answers.specs.{Held.Body, Held.Outcome, Held.PartDone, Results.Own, Results.IsDoneFault, Results.result_of, Results.result_layout, Fronts.AreDonesAt, Fronts.IsReplyUnder, Fronts.IsResultAt}
use Rattle.zk_answers.specs.declared.frame.PartDoneOf.TheVariants as done
use Rattle.zk_answers.specs.declared.frame.BodyOf.TheVariants as body
use Rattle.zk_answers.specs.declared.frame.OutcomeOf.TheVariants as outcome
use Rattle.zk_answers.specs.Rows.{Row, holds, bare, multi, row_of, Content, remake, items_in, body_items}
use Rattle.zk_answers.specs.Faults.{Shape, Fields, Results, IsShapeFault, shape_in, body_shape, IsHead}
use Rattle.zk_answers.specs.Scanned.{IsBodyAt, IsOutcomeAt}
use Rattle.zk_answers.proofs.{Bodies.made_is, Bodies.RowFits, Bodies.made_fits, Deciding.Covered, Deciding.covered, Heads.head_is, Refusals.reply_found}

-- what a row's fields are is of its content
row_covered : (r : Row) → Covered r → (left : List PartOp) (l : Layout) → shape_in r left ≡ Fields l → (items : List Item) → Unfolds l items → (x : Content r) × RowFits r left x × (items_in r x ≡ items)
row_covered (holds make w) covers left l is items v =
    let both : Fields w.layout ≡ Fields l = is in
    let same : l ≡ w.layout = cc in
    let x = covers items (subst (λ (m : Layout). Unfolds m items) same v) in
    (x.0, tt, x.1)
row_covered (bare b) covers left l is items v =
    let both : Fields End ≡ Fields l = is in
    let same : l ≡ End = cc in
    (tt, tt, sym (subst (λ (m : Layout). Unfolds m items) same v))
row_covered multi covers left l is items v = let both : Results left ≡ Fields l = is in absurd cc

module _ (src : List ℕ) (place : ℕ) (op : Op) (left : List PartOp) where
  abbrev pub BodyEnds : {V : Type 0} → Result ℕ V → Type 0
  BodyEnds result = IfOk result (λ end. (b : Body) × IsBodyAt op left b src place end)

  -- of fields
  pub of_fields : {V : Type 0} (l : Layout) → body_shape op left ≡ Fields l → (result : Result ℕ V) → IfOk result (IsValueAt (IsValueOf l) src place) → BodyEnds result
  of_fields l is (Ok end) v =
      let x = row_covered (row_of op) (covered op) left l is v.0 v.1.0 in
      let m = made_is op x.0 in
      let items : v.0 ≡ body_items (remake (row_of op) x.0) = sym x.2 ∙ sym m.1 in
      (remake (row_of op) x.0, (m.0, made_fits op left x.0 x.1, subst (λ (i : List Item). HaveBytes i) items v.1.1, subst (λ (i : List Item). StandsAt i src place end) items v.2))
  of_fields l is (Err e) v = tt

  -- of nothing
  pub of_nothing : body_shape op left ≡ Fields End → (b : Body) × IsBodyAt op left b src place place
  of_nothing is = of_fields {V = ⊥} End is (Ok place) ([], (refl, tt), (refl, omega arith))

  -- a record's fault is the body's
  sure : (l : Layout) → body_shape op left ≡ Fields l → (e : ItemFault) → HasSureFault (IsValueOf l) src place e → IsSurelyToldAt (IsShapeFault (body_shape op left)) src place e
  unfolding IsToldAt
  sure l is e f = (inr (f.0.0, subst (λ (s : Shape). IsShapeFault s (drop place src) f.0.0 e.reason) (sym is) f.0.1, f.0.2), f.1)

  pub of_fault : {V : Type 0} (tells : V → Option ItemFault) (l : Layout) → body_shape op left ≡ Fields l → (result : Result ℕ V) → IfErr result (Says tells (HasSureFault (IsValueOf l) src place))
      → IfErr result (Says tells (IsSurelyToldAt (IsShapeFault (body_shape op left)) src place))
  of_fault tells l is result h = errs_more tells _ _ (sure l is) result h

-- of a multi's results
module _ (src : List ℕ) (place : ℕ) (op : Op) (left : List PartOp) (is : op ≡ ops.Multi) where
  pub results_there : {V : Type 0} (result : Result ℕ V) → IfOk result (AreDonesAt left src place) → BodyEnds src place op left result
  results_there (Ok end) f = (body.Multi f.0, (sym is, f.1, f.2, f.3))
  results_there (Err e) f = tt

  pub results_fault : {V : Type 0} (tells : V → Option ItemFault) (result : Result ℕ V) → IfErr result (Says tells (IsSurelyToldAt (IsDoneFault left) src place)) → IfErr result (Says tells (IsSurelyToldAt (IsShapeFault (body_shape op left)) src place))
  results_fault tells result h = subst (λ (o : Op). IfErr result (Says tells (IsSurelyToldAt (IsShapeFault (body_shape o left)) src place))) (sym is) h

-- an int is as it is written
pub int_again : (x : ℤ) → mag x < 2147483648 → to_z w32 (of_z w32 x) ≡ x
int_again (pos n) h = to_z-of_z w32 (pos n) (omega (arith, h))
int_again (negsuc n) h = to_z-of_z w32 (negsuc n) (omega (arith, h))

-- what became of a request that was done
pub body_outcome : {V : Type 0} (src : List ℕ) (op : Op) (left : List PartOp) (err : ℤ) → err ≡ pos 0 → (result : Result ℕ V) → BodyEnds src 16 op left result → IfOk result (λ end. (o : Outcome) × IsOutcomeAt op left err o src 16 end)
body_outcome src op left err is (Ok end) b = (outcome.Done b.0, ((b.1.0, b.1.1), tt, sym is, b.1.2, b.1.3))
body_outcome src op left err is (Err e) b = tt

module _ (src : List ℕ) (header : ReplyHeader) (rest : List ℕ) (h : IsHead src header rest) where
  -- a header's 16 bytes are there
  pub behind_header : 16 ≤ length src
  behind_header = omega (arith, ap length h.1, length-append (bytes_of (reply_header.items header)) rest)

  pub header_there : StandsAt (reply_header.items header) src 0 16
  header_there =
      let behind : rest ≡ drop 16 src = sym (drop-append_seam (bytes_of (reply_header.items header)) rest) ∙ ap (drop 16) (sym h.1) in
      (h.1 ∙ ap (λ (r : List ℕ). bytes_of (reply_header.items header) ++ r) behind, refl)

  -- what stands behind it, up to the end, is what became of the request
  pub reply_there : (op : Op) (left : List PartOp) (o : Outcome) (end : ℕ) → header.xid ≢ negsuc 0 → IsOutcomeAt op left header.err o src 16 end → length src ≤ end → IsReplyUnder header.xid op left src
  reply_there op left o end x k all =
      let found = reply_found src header 16 (head_is header h.0) header_there op left o end x k.0 k.1 k.2 k.3 k.4 all in
      (record { xid = header.xid; zxid = header.zxid; outcome = o }, refl, found.0, found.1, found.2)

-- ---- results of parts

own_covered : (op : PartOp) (items : List Item) → IsValueOf (result_layout op) items → (d : PartDone) × Own op d × (result_of d ≡ items)
own_covered parts.Create items v = let x = text_covered items v.0 in (done.Created x.0, refl, x.1)
own_covered parts.Delete items v = (done.Deleted, refl, sym v.0)
own_covered parts.SetData items v = let x = stat_covered items v.0 in (done.DataSet x.0, refl, x.1)
own_covered parts.Check items v = (done.Checked, refl, sym v.0)

pub result_there : (src : List ℕ) (place : ℕ) (op : PartOp) (end : ℕ) → IsValueAt (IsValueOf (result_layout op)) src place end → IsResultAt op src place end
result_there src place op end v =
    let d = own_covered op v.0 v.1 in
    (d.0, d.1, subst (λ (i : List Item). IsValueOf (result_layout op) i) (sym d.2) v.1, subst (λ (i : List Item). StandsAt i src place end) (sym d.2) v.2)

pub result_ends : {V : Type 0} (src : List ℕ) (place : ℕ) (op : PartOp) (l : Layout) → l ≡ result_layout op → (result : Result ℕ V) → IfOk result (IsValueAt (IsValueOf l) src place) → IfOk result (IsResultAt op src place)
result_ends src place op l is (Ok end) v = result_there src place op end (subst (λ (m : Layout). IsValueAt (IsValueOf m) src place end) is v)
result_ends src place op l is (Err e) v = tt

-- nothing is there, where nothing is to be
pub no_result : (src : List ℕ) (place : ℕ) (op : PartOp) → End ≡ result_layout op → IsResultAt op src place place
no_result src place op is = result_there src place op place (subst (λ (l : Layout). IsValueAt (IsValueOf l) src place place) is ([], (refl, tt), (refl, omega arith)))
