-- Results that lie in a payload: what stands there is their value, and what reads them.
use Rattle.std.proofs.Common.{◌≡◌, ℕ, ◌+◌, ◌≤◌, List, [], ◌∷◌, ◌++◌, length, drop, true, false, None, Ok, Err, inr, refl, sym, ap, subst, ◌∙◌, arith}
use Rattle.std.specs.Prelude.{ℤ, Result, IfOk, ◌≢◌}
use Rattle.std.specs.List.{flat_map}
use Rattle.std.proofs.lemmas.List.{append-nil}
use Rattle.zk_jute.specs.{declared.fault.ItemFault.ItemFault, Item.Item, Item.AnInt, Item.bytes_of, Item.HaveBytes, Layout.IsValueOf, Layout.Unfolds, Told.StandsAt, Told.HasSureFault, Values.text_items, Values.text_unfolds, Held.Text}
use Rattle.zk_jute.specs.Reading.{Read, ◌>>=◌, read_map, int_at, long_at}
use Rattle.zk_jute.specs.{Standing.OneStands, Shown.text_value, Shown.both_at, Shown.text_is_value, Shown.Stretch}
use Rattle.zk_jute.specs.Wired.{Wired, int, long, ustring, ◌and◌}
use Rattle.zk_jute.proofs.{Layouts.bytes_only, Layouts.have_both, Layouts.have_parts, Sequels.stands_then, Stretches.stands_split}
use Rattle.zk_jute.proofs.Valued.{IsValued, int_valued, long_valued, both_valued, recast, stands_told}
use Rattle.zk_records.specs.{Records.multi_header, Records.stat, Codes.part_number, declared.header.MultiHeader.MultiHeader, declared.stat.Stat.Stat, declared.op.PartOp.PartOp}
use Rattle.zk_records.specs.declared.op.PartOp.TheVariants as parts
use Rattle.zk_records.proofs.Numbers.{part_number_apart}
use Rattle.zk_asks.specs.{Multi.AreHeaded, Parts.marked, Parts.end_header, Shown.part_numbered}
use Rattle.zk_answers.specs.{Fronts.AreDonesAt, Fronts.IsResultAt, Fronts.IsDoneAt, Fronts.IsDoneFaultAt, Held.PartDone, Shown.counts_value, Shown.stat_value, Shown.result_value, Shown.done_value}
use Rattle.zk_answers.specs.declared.frame.PartDoneOf.TheVariants as done
use Rattle.zk_answers.specs.Results.{error_header, result_header, done_items, mark_before, result_of, result_layout, Answers, AnswerAll, Own}
use Rattle.zk_records.specs.Made as made
use Rattle.zk_asks.proofs.{Parted.nine, Parted.mark_same, Parts.mark_is, Knowing.IsThe, Knowing.found_there}
use Rattle.zk_answers.proofs.{Dones.not_failed, Outcomes.result_inside}

-- ---- the records

module _ (src : List ℕ) where
  ints_valued : IsValued (int and (int and long)) src (both_at (int_at src) (both_at (int_at src) (long_at src)))
  ints_valued = both_valued int (int and long) src (int_at src) (both_at (int_at src) (long_at src)) (int_valued src) (both_valued int long src (int_at src) (long_at src) (int_valued src) (long_valued src))

  owned_valued : IsValued (long and (int and (int and long))) src (both_at (long_at src) (both_at (int_at src) (both_at (int_at src) (long_at src))))
  owned_valued = both_valued long (int and (int and long)) src (long_at src) (both_at (int_at src) (both_at (int_at src) (long_at src))) (long_valued src) ints_valued

  counts_valued : IsValued (int and (int and (int and (long and (int and (int and long)))))) src (counts_value src)
  counts_valued =
      let w = long and (int and (int and long)) in
      let v = both_at (long_at src) (both_at (int_at src) (both_at (int_at src) (long_at src))) in
      both_valued int (int and (int and w)) src (int_at src) (both_at (int_at src) (both_at (int_at src) v)) (int_valued src)
      (both_valued int (int and w) src (int_at src) (both_at (int_at src) v) (int_valued src) (both_valued int w src (int_at src) v (int_valued src) owned_valued))

  stat_valued : IsValued stat src (stat_value src)
  stat_valued place =
      let w = int and (int and (int and (long and (int and (int and long))))) in
      let v = counts_value src in
      let one = both_valued long w src (long_at src) v (long_valued src) counts_valued in
      let two = both_valued long (long and w) src (long_at src) (both_at (long_at src) v) (long_valued src) one in
      let three = both_valued long (long and (long and w)) src (long_at src) (both_at (long_at src) (both_at (long_at src) v)) (long_valued src) two in
      let value = both_at (long_at src) (both_at (long_at src) (both_at (long_at src) v)) in
      both_valued long (long and (long and (long and w))) src (long_at src) value (long_valued src) three place
      ∙ recast (long and (long and (long and (long and w)))) stat.items made.stat (λ p. refl) (both_at (long_at src) value place)

-- ---- what a result is made of

pub items_are : (d : PartDone) → done_items d ≡ marked (mark_before d) ++ result_of d
items_are done.Deleted = sym (append-nil (marked (result_header parts.Delete)))
items_are done.Checked = sym (append-nil (marked (result_header parts.Check)))
items_are _ = refl

behind_told : (src : List ℕ) (d : PartDone) (place end : ℕ) → place ≤ length src → HaveBytes (result_of d) → StandsAt (result_of d) src place end → result_value (part_numbered (mark_before d).kind) src place ≡ Ok (d, end)
behind_told src (done.Created path) place end le have s = ap (read_map done.Created) (stands_told ustring src (text_value src) (text_is_value src) path place end have le s)
behind_told src (done.DataSet x) place end le have s = ap (read_map done.DataSet) (stands_told stat src (stat_value src) (stat_valued src) x place end have le s)
behind_told src (done.PartFailed e) place end le have s = ap (read_map done.PartFailed) (stands_told int src (int_at src) (int_valued src) e place end have le s)
behind_told src d place end le have s = let same : place ≡ end = omega (arith, s.1) in ap (λ (n : ℕ). Ok (d, n)) same

module _ (src : List ℕ) (d : PartDone) (place end : ℕ) (le : place ≤ length src) (have : HaveBytes (done_items d)) (stands : StandsAt (done_items d) src place end) where
  abbrev mark : List Item
  mark = marked (mark_before d)

  both : HaveBytes (mark ++ result_of d) × StandsAt (mark ++ result_of d) src place end
  both = (subst HaveBytes (items_are d) have, subst (λ (i : List Item). StandsAt i src place end) (items_are d) stands)

  pub header_there : HaveBytes mark × StandsAt mark src place (place + 9)
  header_there =
      let s = stands_split mark (result_of d) src place end le both.1 in
      ((have_parts mark (result_of d) both.0).0, subst (λ (n : ℕ). StandsAt mark src place (place + n)) (nine (mark_before d)) s.0)

  behind_there : HaveBytes (result_of d) × StandsAt (result_of d) src (place + 9) end × (place + 9 ≤ length src)
  behind_there =
      let s = stands_split mark (result_of d) src place end le both.1 in
      ((have_parts mark (result_of d) both.0).1, subst (λ (n : ℕ). StandsAt (result_of d) src (place + n) end) (nine (mark_before d)) s.1, subst (λ (n : ℕ). place + n ≤ length src) (nine (mark_before d)) s.2)

  -- the number in front
  number_there : (after : ℕ) × (int_at src place ≡ Ok ((mark_before d).kind, after))
  number_there =
      let h = mark_before d in
      let one = AnInt h.kind ∷ [] in
      let t = header_there in
      let s = stands_split one (drop 1 mark) src place (place + 9) le t.1 in
      let p = have_parts one (drop 1 mark) t.0 in
      (place + length (bytes_of one), stands_told int src (int_at src) (int_valued src) h.kind place (place + length (bytes_of one)) p.0 le s.0)

  -- a header that was read here is the result's own
  header_read : (header : MultiHeader) (after : ℕ) → IsValueOf multi_header.layout (marked header) → StandsAt (marked header) src place after → (header ≡ mark_before d) × (after ≡ place + 9)
  header_read header after v s =
      let t = header_there in
      let same = bytes_only multi_header.layout (marked header) mark (drop after src) (drop (place + 9) src) v (mark_is (mark_before d) t.0) (sym s.0 ∙ t.1.0) in
      (mark_same header (mark_before d) same.0, omega (arith, s.1, t.1.1, ap (λ (i : List Item). length (bytes_of i)) same.0))

  pub mark_stands : OneStands multi_header.items src place
  mark_stands = (mark_before d, place + 9, header_there.0, header_there.1)

  done_there : done_value src place ≡ Ok (d, end)
  done_there =
      let b = behind_there in
      ap (λ (r : Read ℤ). r >>= λ kind. result_value (part_numbered kind.0) src (place + 9)) number_there.1
      ∙ behind_told src d (place + 9) end b.2 b.0 b.1

pub done_read : (src : List ℕ) (d : PartDone) (place end : ℕ) → place ≤ length src → HaveBytes (done_items d) → StandsAt (done_items d) src place end → done_value src place ≡ Ok (d, end)
done_read src d place end le have stands = done_there src d place end le have stands

-- ---- what its header tells of a result

pub own_of : (d : PartDone) (op : PartOp) → (mark_before d).kind ≡ part_number op → Own op d
own_of (done.Created path) op e = sym (part_number_apart _ op e)
own_of (done.PartFailed n) op e = not_failed op e
own_of _ op e = sym (part_number_apart _ op e)

pub failed_of : (d : PartDone) → ((op : PartOp) → (mark_before d).kind ≢ part_number op) → (e : ℤ) × (d ≡ done.PartFailed e)
failed_of (done.Created path) not = absurd (not parts.Create refl)
failed_of done.Deleted not = absurd (not parts.Delete refl)
failed_of (done.DataSet s) not = absurd (not parts.SetData refl)
failed_of done.Checked not = absurd (not parts.Check refl)
failed_of (done.PartFailed e) not = (e, refl)

own_mark : (op : PartOp) (d : PartDone) → Own op d → mark_before d ≡ result_header op
own_mark op (done.Created path) own = ap result_header (sym own)
own_mark op (done.PartFailed e) own = absurd own
own_mark op _ own = ap result_header (sym own)

pub own_kind : (op : PartOp) (d : PartDone) → Own op d → (mark_before d).kind ≡ part_number op
own_kind op d own = ap (λ (h : MultiHeader). h.kind) (own_mark op d own)

own_is : (op : PartOp) (d : PartDone) → Own op d → Unfolds (result_layout op) (result_of d)
own_is op (done.Created path) own = subst (λ (o : PartOp). Unfolds (result_layout o) (text_items path)) (sym own) (text_unfolds path)
own_is op (done.DataSet s) own = subst (λ (o : PartOp). Unfolds (result_layout o) (stat.items s)) (sym own) (stat.unfolds s)
own_is op (done.PartFailed e) own = absurd own
own_is op _ own = subst (λ (o : PartOp). Unfolds (result_layout o) []) (sym own) refl

created_of : (d : PartDone) → Own parts.Create d → (x : Text) × (result_of d ≡ text_items x)
created_of (done.Created path) own = (path, refl)
created_of (done.PartFailed e) own = absurd own
created_of _ own = absurd cc

set_of : (d : PartDone) → Own parts.SetData d → (x : Stat) × (result_of d ≡ stat.items x)
set_of (done.DataSet s) own = (s, refl)
set_of (done.PartFailed e) own = absurd own
set_of _ own = absurd cc

module _ (src : List ℕ) (place : ℕ) (op : PartOp) where
  stands_as : {X : Type 0} (w : Wired X) (own : PartOp) → ((d : PartDone) → Own own d → (x : X) × (result_of d ≡ w.items x)) → op ≡ own → (e : ℕ) × IsResultAt op src place e → OneStands w.items src place
  stands_as w own of is h =
      let r = h.1 in
      let x = of r.0 (subst (λ (o : PartOp). Own o r.0) is r.1) in
      (x.0, h.0, subst HaveBytes x.1 r.2.1, subst (λ (i : List Item). StandsAt i src place h.0) x.1 r.3)

  pub created_there : op ≡ parts.Create → (e : ℕ) × IsResultAt op src place e → OneStands ustring.items src place
  created_there is = stands_as ustring parts.Create created_of is

  pub set_there : op ≡ parts.SetData → (e : ℕ) × IsResultAt op src place e → OneStands stat.items src place
  set_there is = stands_as stat parts.SetData set_of is

-- ---- one answer

abbrev told : PartDone × ℕ → Read PartDone → PartDone × ℕ
told other (Ok x) = x
told other (Err e) = other

one_value : (r : Read PartDone) (a b : PartDone × ℕ) → r ≡ Ok a → r ≡ Ok b → a ≡ b
one_value r a b x y = ap (told a) (sym x ∙ y)

module _ (src : List ℕ) (place : ℕ) (le : place ≤ length src) (op : PartOp) (d : PartDone) (end : ℕ) (own : Own op d) (have : HaveBytes (result_of d)) (stands : StandsAt (result_of d) src place end) where
  own_told : (x : PartDone) (at : ℕ) → Own op x → HaveBytes (result_of x) → StandsAt (result_of x) src place at → result_value (part_numbered (part_number op)) src place ≡ Ok (x, at)
  own_told x at o h s = subst (λ (k : ℤ). result_value (part_numbered k) src place ≡ Ok (x, at)) (own_kind op x o) (behind_told src x place at le h s)

  pub own_is_it : (x : PartDone) (at : ℕ) → Own op x → HaveBytes (result_of x) → StandsAt (result_of x) src place at → ◌≡◌ {A = PartDone × ℕ} (x, at) (d, end)
  own_is_it x at o h s = one_value (result_value (part_numbered (part_number op)) src place) (x, at) (d, end) (own_told x at o h s) (own_told d end own have stands)

-- the record that was read there is its own
pub own_known : {X : Type 0} (w : Wired X) (src : List ℕ) (place : ℕ) → place ≤ length src → (op : PartOp) (x : X × ℕ) → IsThe w.items src place x → OneStands w.items src place → (y : PartDone) → result_of y ≡ w.items x.0 → Own op y
    → (d : PartDone) (end : ℕ) → Own op d → HaveBytes (result_of d) → StandsAt (result_of d) src place end → ◌≡◌ {A = PartDone × ℕ} (y, x.1) (d, end)
own_known w src place le op x is there y same mine d end own have stands =
    let found = found_there w src place x is there in
    own_is_it src place le op d end own have stands y x.1 mine (subst HaveBytes (sym same) found.0.1) (subst (λ (i : List Item). StandsAt i src place x.1) (sym same) found.1)

module _ (src : List ℕ) (d : PartDone) (place end : ℕ) (le : place ≤ length src) (have : HaveBytes (done_items d)) (stands : StandsAt (done_items d) src place end)
    (header : MultiHeader) (after : ℕ) (v : IsValueOf multi_header.layout (marked header)) (s : StandsAt (marked header) src place after) where
  h : (header ≡ mark_before d) × (after ≡ place + 9)
  h = header_read src d place end le have stands header after v s

  b : HaveBytes (result_of d) × StandsAt (result_of d) src after end × (after ≤ length src)
  b = let t = behind_there src d place end le have stands in (t.0, subst (λ (n : ℕ). StandsAt (result_of d) src n end) (sym h.1) t.1, omega (arith, h.1, t.2))

  -- a part's own result
  pub own_there : (op : PartOp) → header.kind ≡ part_number op → Own op d × HaveBytes (result_of d) × StandsAt (result_of d) src after end × (after ≤ length src)
  own_there op kind = (own_of d op (sym (ap (λ (m : MultiHeader). m.kind) h.0) ∙ kind), b.0, b.1, b.2)

  pub result_there : (op : PartOp) → header.kind ≡ part_number op → (e : ℕ) × IsResultAt op src after e
  result_there op kind =
      let own = own_of d op (sym (ap (λ (m : MultiHeader). m.kind) h.0) ∙ kind) in
      (end, (d, own, (own_is op d own, b.0), b.1))

  -- an error
  module _ (not : (op : PartOp) → header.kind ≢ part_number op) where
    failed : (e : ℤ) × (d ≡ done.PartFailed e)
    failed = failed_of d (λ op k. not op (ap (λ (m : MultiHeader). m.kind) h.0 ∙ k))

    number : HaveBytes (AnInt failed.0 ∷ []) × StandsAt (AnInt failed.0 ∷ []) src after end
    number = subst (λ (x : PartDone). HaveBytes (result_of x) × StandsAt (result_of x) src after end) failed.1 (b.0, b.1)

    pub error_there : (after ≤ length src) × OneStands int.items src after
    error_there = (b.2, (failed.0, end, number.0, number.1))

    pub number_only : (n : ℤ) (at : ℕ) → HaveBytes (AnInt n ∷ []) → StandsAt (AnInt n ∷ []) src after at → ◌≡◌ {A = PartDone × ℕ} (done.PartFailed n, at) (d, end)
    number_only n at has t =
        let told_of = λ (m : ℤ) (e : ℕ) (p : HaveBytes (AnInt m ∷ [])) (q : StandsAt (AnInt m ∷ []) src after e). behind_told src (done.PartFailed m) after e b.2 p q in
        let same = one_value (result_value None src after) (done.PartFailed n, at) (done.PartFailed failed.0, end) (told_of n at has t) (told_of failed.0 end number.0 number.1) in
        same ∙ ap (λ (x : PartDone). (x, end)) (sym failed.1)

-- ---- what is known of each result

pub not_end : (d : PartDone) → mark_before d ≡ end_header → ⊥
not_end (done.Created path) e = let k : false ≡ true = ap (λ (h : MultiHeader). h.done) e in absurd cc
not_end _ e = let k : false ≡ true = ap (λ (h : MultiHeader). h.done) e in absurd cc

pub dones_headed : AreHeaded done_items
dones_headed d = (mark_before d, result_of d, items_are d, not_end d)

-- ---- a part's own result behind its header

pub own_answers : (op : PartOp) (d : PartDone) → Own op d → Answers op d
own_answers op (done.PartFailed e) own = absurd own
own_answers op _ own = own

module _ (op : PartOp) (src : List ℕ) (place after : ℕ) (header : MultiHeader) where
  pub own_found : HaveBytes (marked header) → StandsAt (marked header) src place after → header ≡ result_header op
      → {V : Type 0} (r : Result ℕ V) → IfOk r (IsResultAt op src after) → IfOk r (IsDoneAt op src place)
  own_found have s is (Ok end) found =
      let d = found.0 in
      let mark : header ≡ mark_before d = is ∙ sym (own_mark op d found.1) in
      let m = marked (mark_before d) in
      let has : HaveBytes m = subst (λ (h : MultiHeader). HaveBytes (marked h)) mark have in
      let t : StandsAt m src place after = subst (λ (h : MultiHeader). StandsAt (marked h) src place after) mark s in
      let items = items_are d in (
        d,
        own_answers op d found.1,
        subst HaveBytes (sym items) (have_both m (result_of d) has found.2.1),
        subst (λ (i : List Item). StandsAt i src place end) (sym items) (stands_then m (result_of d) src place after end t found.3),
      )
  own_found have s is (Err e) found = tt

  pub own_fault : StandsAt (marked header) src place after → header ≡ result_header op → (e : ItemFault) → HasSureFault (IsValueOf (result_layout op)) src after e → IsDoneFaultAt op src place e
  own_fault s is e fault = (λ ops. result_inside op ops src place after header e s is (inr fault.0), fault.1)

-- an error, with its header
pub error_found : (op : PartOp) (src : List ℕ) (place after end : ℕ) (header : MultiHeader) (n : ℤ) → HaveBytes (marked header) → StandsAt (marked header) src place after → header ≡ error_header header.err
    → HaveBytes (AnInt n ∷ []) → StandsAt (AnInt n ∷ []) src after end → n ≡ header.err → IsDoneAt op src place end
error_found op src place after end header n have s is has t same =
    let mark = marked (error_header header.err) in
    let number = AnInt header.err ∷ [] in (
      done.PartFailed header.err,
      tt,
      have_both mark number (subst (λ (h : MultiHeader). HaveBytes (marked h)) is have) (subst (λ (k : ℤ). HaveBytes (AnInt k ∷ [])) same has),
      stands_then mark number src place after end (subst (λ (h : MultiHeader). StandsAt (marked h) src place after) is s) (subst (λ (k : ℤ). StandsAt (AnInt k ∷ []) src after end) same t),
    )

-- what is told of the list, once its end is passed
pub dones_passed : (src : List ℕ) (place at count after : ℕ) (header : MultiHeader) (ops : List PartOp) → (s : Stretch done_items src place at count) → AnswerAll ops s.values
    → HaveBytes (marked header) → StandsAt (marked header) src at after → header ≡ end_header
    → AreDonesAt ops src place after
dones_passed src place at count after header ops s answers v t is =
    let ds = s.values in
    let end = marked end_header in
    let have = have_both (flat_map done_items ds) end s.have (subst (λ (h : MultiHeader). HaveBytes (marked h)) is v) in
    let stands = stands_then (flat_map done_items ds) end src place at after s.stands (subst (λ (h : MultiHeader). StandsAt (marked h) src at after) is t) in
    (ds, answers, have, stands)
