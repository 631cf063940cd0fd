-- What can't come next in a multi's results is one of the reader's cases.
use Rattle.std.proofs.Common.{◌≡◌, ℕ, ◌+◌, inl, inr, List, [], ◌∷◌, ◌++◌, length, refl, sym, ap, subst, ◌∙◌, append_assoc, arith}
use Rattle.std.specs.Prelude.{ℤ}
use Rattle.std.proofs.lemmas.List.{append-nil, length-append}
use Rattle.zk_jute.specs.{declared.fault.Reason.Reason, declared.fault.Reason.TheVariants.BadPart, Item.Kind, Item.Int, Item.Item, Item.kind_of, Item.bytes_of, Item.HaveBytes, Layout.IsValueOf, Apart.cons_is}
use Rattle.zk_jute.specs.Faults.{IsNext, IsBad, IsFault, Opens}
use Rattle.zk_jute.proofs.Layouts.{bytes_both, have_parts}
use Rattle.zk_records.specs.{declared.header.MultiHeader.MultiHeader, declared.op.PartOp.PartOp}
use Rattle.zk_asks.specs.Parts.{marked, end_header}
use Rattle.zk_asks.proofs.{Openings.cut, Opened.within_mark, Opened.within_record, Opened.past_front}
use Rattle.zk_answers.specs.Results.{result_header, error_header, result_layout, IsDoneFault, in_mark, bad_mark, in_result, in_error, other_error, behind_result, behind_error}
use Rattle.zk_answers.specs.Openings.{number_items, AreResults, no_result, a_result, an_error, Ends, AreMarked, last, result_before, error_before, IsBadMark, no_mark, no_number, IsBadPart, bad_part}
use Rattle.zk_answers.proofs.{Dones.result_bytes, Dones.an_int, Opened.ending}

module _ (op : PartOp) (ops : List PartOp) where
  -- an opening within a part's result, which goes on
  within_result : (o : List Item) (i : Item) (m : List Item) → IsValueOf (result_layout op) (o ++ (i ∷ m)) → (bytes rest : List ℕ) → Opens bytes (marked (result_header op) ++ o) rest
      → (k : Kind) → IsNext (AreMarked (op ∷ ops)) (marked (result_header op) ++ o) k → (far : ℕ) (r : Reason) → IsBad k rest r far → IsDoneFault (op ∷ ops) bytes (length (bytes_of (marked (result_header op) ++ o)) + far) r
  within_result o i m v bytes rest opens k next far r bad =
      past_front (IsFault (IsValueOf (result_layout op))) (IsDoneFault (op ∷ ops)) (marked (result_header op)) o bytes rest far r opens (λ left q e. in_result op ops bytes left q r e)
      (within_record (result_layout op) (AreMarked (op ∷ ops)) (marked (result_header op)) o i m v rest k next (λ result w. result_before op ops result (marked end_header) w (ending ops)) far r bad)

  -- an error's header, and then no int
  within_number : (n : ℤ) (o : List Item) (i : Item) (m : List Item) → HaveBytes (marked (error_header n) ++ number_items n) → number_items n ≡ o ++ (i ∷ m) → (bytes rest : List ℕ) → Opens bytes (marked (error_header n) ++ o) rest
      → (k : Kind) → kind_of i ≡ k → (far : ℕ) (r : Reason) → IsBad k rest r far → IsDoneFault (op ∷ ops) bytes (length (bytes_of (marked (error_header n) ++ o)) + far) r
  within_number n [] i m have e bytes rest opens k kind far r bad =
      let mark = marked (error_header n) in
      let h = have_parts mark (number_items n) have in
      let whole = an_int n h.1 in
      let split : bytes ≡ bytes_of mark ++ rest = opens ∙ ap (λ (x : List Item). bytes_of x ++ rest) (append-nil mark) in
      let same = cons_is i whole.0.0 m whole.0.1 (sym e ∙ whole.0.4) in
      let int : Int ≡ k = sym whole.0.2 ∙ ap kind_of (sym same.0) ∙ kind in
      let place : length (bytes_of mark) + far ≡ length (bytes_of (mark ++ [])) + far = ap (λ (x : List Item). length (bytes_of x) + far) (sym (append-nil mark)) in
      subst (λ (p : ℕ). IsDoneFault (op ∷ ops) bytes p r) place
      (in_error op ops n bytes rest far r h.0 split (record {
        opening = [];
        rest = rest;
        begins = (number_items n, whole);
        splits = refl;
        next = k;
        is_next = λ more v. let u = v.0 in (u.0, u.1, u.4, u.2 ∙ int);
        behind = far;
        bad = bad;
        at = omega arith;
      }))
  within_number n (x ∷ o) i m have e bytes rest opens k kind far r bad = absurd (omega (arith, ap length e, length-append o (i ∷ m)))

abbrev Backs : List PartOp → List Item → Type 0
Backs ops items = (o more : List Item) → items ≡ o ++ more → (bytes rest : List ℕ) → Opens bytes o rest → (k : Kind) → IsNext (AreMarked ops) o k → (far : ℕ) (r : Reason) → IsBad k rest r far → IsDoneFault ops bytes (length (bytes_of o) + far) r

back_step : (op : PartOp) (ops : List PartOp) (mark tail others : List Item) → AreMarked (op ∷ ops) (mark ++ (tail ++ others))
    → ((o : List Item) (i : Item) (m : List Item) → mark ≡ o ++ (i ∷ m) → (bytes rest : List ℕ) → Opens bytes o rest → (k : Kind) → kind_of i ≡ k → (far : ℕ) (r : Reason) → IsBad k rest r far → IsDoneFault (op ∷ ops) bytes (length (bytes_of o) + far) r)
    → ((o : List Item) (i : Item) (m : List Item) → tail ≡ o ++ (i ∷ m) → (bytes rest : List ℕ) → Opens bytes (mark ++ o) rest → (k : Kind) → kind_of i ≡ k → IsNext (AreMarked (op ∷ ops)) (mark ++ o) k → (far : ℕ) (r : Reason) → IsBad k rest r far → IsDoneFault (op ∷ ops) bytes (length (bytes_of (mark ++ o)) + far) r)
    → ((x : List Item) → AreMarked ops x → AreMarked (op ∷ ops) (mark ++ (tail ++ x)))
    → ((bytes left : List ℕ) (q : ℕ) (r : Reason) → bytes ≡ bytes_of (mark ++ tail) ++ left → IsDoneFault ops left q r → IsDoneFault (op ∷ ops) bytes (length (bytes_of (mark ++ tail)) + q) r)
    → Backs ops others → Backs (op ∷ ops) (mark ++ (tail ++ others))
back_step op ops mark tail others whole in_front in_tail grow make backs o more e bytes rest opens k next far r bad =
    let n = next more (subst (AreMarked (op ∷ ops)) e whole) in
    elim (cut o more mark (tail ++ others) (sym e)) [
      | inl c ↦
          let same = cons_is c.0 n.0 (c.1 ++ (tail ++ others)) n.1 (sym c.3 ∙ n.2) in
          in_front o c.0 c.1 c.2 bytes rest opens k (ap kind_of same.0 ∙ n.3) far r bad
      | inr c ↦
          let m = c.0 in
          let opens2 : Opens bytes (mark ++ m) rest = subst (λ (x : List Item). Opens bytes x rest) c.1 opens in
          let next2 : IsNext (AreMarked (op ∷ ops)) (mark ++ m) k = subst (λ (x : List Item). IsNext (AreMarked (op ∷ ops)) x k) c.1 next in
          let result : IsDoneFault (op ∷ ops) bytes (length (bytes_of (mark ++ m)) + far) r = elim (cut m more tail others (sym c.2)) [
            | inl d ↦
                let same = cons_is d.0 n.0 (d.1 ++ others) n.1 (sym d.3 ∙ n.2) in
                in_tail m d.0 d.1 d.2 bytes rest opens2 k (ap kind_of same.0 ∙ n.3) next2 far r bad
            | inr d ↦
                let o2 = d.0 in
                let both : mark ++ m ≡ (mark ++ tail) ++ o2 = ap (λ (y : List Item). mark ++ y) d.1 ∙ sym (append_assoc mark tail o2) in
                let group : (x : List Item) → (mark ++ m) ++ x ≡ mark ++ (tail ++ (o2 ++ x)) = λ x. ap (λ (y : List Item). y ++ x) both ∙ append_assoc (mark ++ tail) o2 x ∙ append_assoc mark tail (o2 ++ x) in
                let later = backs o2 more d.2 (bytes_of o2 ++ rest) rest refl k (λ x u. next2 x (subst (AreMarked (op ∷ ops)) (sym (group x)) (grow (o2 ++ x) u))) far r bad in
                let opens3 : Opens bytes ((mark ++ tail) ++ o2) rest = subst (λ (x : List Item). Opens bytes x rest) both opens2 in
                let past = past_front (IsDoneFault ops) (IsDoneFault (op ∷ ops)) (mark ++ tail) o2 bytes rest far r opens3 (λ left q. make bytes left q r) later in
                subst (λ (x : List Item). IsDoneFault (op ∷ ops) bytes (length (bytes_of x) + far) r) (sym both) past
          ] in
          subst (λ (x : List Item). IsDoneFault (op ∷ ops) bytes (length (bytes_of x) + far) r) (sym c.1) result
    ]

back_last : (ops : List PartOp) (h : MultiHeader) → HaveBytes (marked h) → Ends ops h → Backs ops (marked h)
back_last ops h have not o more e bytes rest opens k next far r bad =
    let n = next more (subst (AreMarked ops) e (last ops h have not)) in
    in_mark ops bytes _ r (within_mark h o n.0 n.1 have (e ∙ ap (λ (x : List Item). o ++ x) n.2) bytes rest opens k n.3 far r bad)

back : {ops : List PartOp} {items : List Item} → AreMarked ops items → Backs ops items
back (last ops h have not) = back_last ops h have not
back (result_before op ops result others v w) =
    back_step op ops (marked (result_header op)) result others (result_before op ops result others v w)
    (λ o i m e bytes rest opens k kind far r bad. in_mark (op ∷ ops) bytes _ r (within_mark (result_header op) o i m (result_bytes op) e bytes rest opens k kind far r bad))
    (λ o i m e bytes rest opens k kind next. within_result op ops o i m (subst (IsValueOf (result_layout op)) e v) bytes rest opens k next)
    (λ x. result_before op ops result x v)
    (λ bytes left q r e. behind_result op ops result bytes left q r v e)
    (back w)
back (error_before op ops n others have w) =
    back_step op ops (marked (error_header n)) (number_items n) others (error_before op ops n others have w)
    (λ o i m e bytes rest opens k kind far r bad. in_mark (op ∷ ops) bytes _ r (within_mark (error_header n) o i m (have_parts (marked (error_header n)) (number_items n) have).0 e bytes rest opens k kind far r bad))
    (λ o i m e bytes rest opens k kind next. within_number op ops n o i m have e bytes rest opens k kind)
    (λ x. error_before op ops n x have)
    (λ bytes left q r e. behind_error op ops n bytes left q r have e)
    (back w)

pub marked_cased : (ops : List PartOp) (bytes : List ℕ) (p : ℕ) (r : Reason) → IsFault (AreMarked ops) bytes p r → IsDoneFault ops bytes p r
marked_cased ops bytes p r f = subst (λ (q : ℕ). IsDoneFault ops bytes q r) (sym f.at) (back f.begins.1 f.opening f.begins.0 refl bytes f.rest f.splits f.next f.is_next f.behind r f.bad)

-- ---- a header or an int that may not stand there

mark_cased : {ops : List PartOp} {bytes : List ℕ} → IsBadMark ops bytes → IsDoneFault ops bytes 0 BadPart
mark_cased (no_mark ops bytes rest h have not e) = bad_mark ops bytes rest h have e not
mark_cased (no_number op ops bytes rest n d have not e) = other_error op ops n d bytes rest have e not

results_cased : {before : List PartOp} {results : List Item} → AreResults before results → (after : List PartOp) (bytes rest : List ℕ) → Opens bytes results rest → IsBadMark after rest → IsDoneFault (before ++ after) bytes (length (bytes_of results)) BadPart
results_cased no_result after bytes rest e bad = subst (λ (b : List ℕ). IsDoneFault after b 0 BadPart) (sym e) (mark_cased bad)
results_cased (a_result op ops result others v are) after bytes rest e bad =
    let mark = marked (result_header op) in
    let group : mark ++ (result ++ others) ≡ (mark ++ result) ++ others = sym (append_assoc mark result others) in
    let split : bytes ≡ bytes_of (mark ++ result) ++ (bytes_of others ++ rest) = e ∙ ap (λ (x : List Item). bytes_of x ++ rest) group ∙ ap (λ (x : List ℕ). x ++ rest) (bytes_both (mark ++ result) others) ∙ append_assoc (bytes_of (mark ++ result)) (bytes_of others) rest in
    let later = results_cased are after (bytes_of others ++ rest) rest refl bad in
    let place : length (bytes_of (mark ++ result)) + length (bytes_of others) ≡ length (bytes_of (mark ++ (result ++ others))) = omega (arith, ap (λ (x : List Item). length (bytes_of x)) group, ap length (bytes_both (mark ++ result) others), length-append (bytes_of (mark ++ result)) (bytes_of others)) in
    subst (λ (p : ℕ). IsDoneFault (op ∷ (ops ++ after)) bytes p BadPart) place (behind_result op (ops ++ after) result bytes (bytes_of others ++ rest) (length (bytes_of others)) BadPart v split later)
results_cased (an_error op ops n others have are) after bytes rest e bad =
    let mark = marked (error_header n) in
    let number = number_items n in
    let group : mark ++ (number ++ others) ≡ (mark ++ number) ++ others = sym (append_assoc mark number others) in
    let split : bytes ≡ bytes_of (mark ++ number) ++ (bytes_of others ++ rest) = e ∙ ap (λ (x : List Item). bytes_of x ++ rest) group ∙ ap (λ (x : List ℕ). x ++ rest) (bytes_both (mark ++ number) others) ∙ append_assoc (bytes_of (mark ++ number)) (bytes_of others) rest in
    let later = results_cased are after (bytes_of others ++ rest) rest refl bad in
    let place : length (bytes_of (mark ++ number)) + length (bytes_of others) ≡ length (bytes_of (mark ++ (number ++ others))) = omega (arith, ap (λ (x : List Item). length (bytes_of x)) group, ap length (bytes_both (mark ++ number) others), length-append (bytes_of (mark ++ number)) (bytes_of others)) in
    subst (λ (p : ℕ). IsDoneFault (op ∷ (ops ++ after)) bytes p BadPart) place (behind_error op (ops ++ after) n bytes (bytes_of others ++ rest) (length (bytes_of others)) BadPart have split later)

pub part_cased : {ops : List PartOp} {bytes : List ℕ} {p : ℕ} → IsBadPart ops bytes p → IsDoneFault ops bytes p BadPart
part_cased {ops} {bytes} (bad_part before after results rest split are opens bad) = subst (λ (o : List PartOp). IsDoneFault o bytes (length (bytes_of results)) BadPart) (sym split) (results_cased are after bytes rest opens bad)
