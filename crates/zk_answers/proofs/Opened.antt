-- The fault of a multi's results over their openings is the one of the reader's cases.
use Rattle.std.proofs.Common.{◌≡◌, ℕ, zero, suc, ◌+◌, ◌⊎◌, inl, inr, Bool, true, false, List, [], ◌∷◌, ◌++◌, length, refl, sym, ap, subst, ◌∙◌, append_assoc, arith}
use Rattle.std.specs.Prelude.{ℤ, pos, negsuc, ◌≢◌}
use Rattle.std.proofs.{lemmas.Int.ints, lemmas.List.append-nil, lemmas.List.length-append, lemmas.List.append_cancel_left}
use Rattle.zk_jute.specs.{declared.fault.Reason.Reason, declared.fault.Reason.TheVariants.BadPart, Layout.End, Layout.One, Layout.IsValueOf, Apart.cons_is, Apart.unfolds_only, Faults.Begins, Faults.IsNext, Faults.IsFault, Faults.Opens}
use Rattle.zk_jute.specs.Item.{Kind, Int, Item, AnInt, kind_of, bytes_of, HaveBytes}
use Rattle.zk_jute.proofs.Layouts.{bytes_both, have_parts, have_both}
use Rattle.zk_records.specs.{declared.header.MultiHeader.MultiHeader, declared.op.PartOp.PartOp, Records.multi_header}
use Rattle.zk_asks.specs.Parts.{marked, end_header}
use Rattle.zk_asks.proofs.{Openings.NextIs, Openings.next_follows, Openings.behind_front, Opened.mark_shape, Opened.loose, Opened.loose_begins, Parts.mark_is, Parted.mark_same, Parted.end_bytes}
use Rattle.zk_answers.specs.Results.{result_header, error_header, result_layout, IsDoneFault, in_mark, bad_mark, in_result, in_error, other_error, behind_result, behind_error}
use Rattle.zk_answers.specs.Openings.{number_items, AreResults, no_result, a_result, an_error, Ends, AreMarked, last, result_before, error_before, no_mark, no_number, IsBadPart, bad_part}
use Rattle.zk_answers.proofs.Dones.{result_mark, not_error, error_same}

-- ---- headers

-- an error's header, or none
abbrev IsErrorOrNot : MultiHeader → Type 0
IsErrorOrNot h = (h ≡ error_header h.err) ⊎ ((e : ℤ) → h ≢ error_header e)

error_or_not : (kind : ℤ) (done : Bool) (err : ℤ) → IsErrorOrNot (record { kind = kind; done = done; err = err })
error_or_not (negsuc zero) false err = inl refl
error_or_not (negsuc zero) true err = inr (λ e same. let d : ◌≡◌ {A = Bool} true false = ap (λ (h : MultiHeader). h.done) same in absurd cc)
error_or_not (negsuc (suc n)) done err = inr (λ e same. let k : negsuc (suc n) ≡ negsuc zero = ap (λ (h : MultiHeader). h.kind) same in absurd cc)
error_or_not (pos n) done err = inr (λ e same. let k : pos n ≡ negsuc zero = ap (λ (h : MultiHeader). h.kind) same in absurd cc)

not_end : (op : PartOp) → end_header ≡ result_header op → ⊥
not_end op e = let d : ◌≡◌ {A = Bool} true false = ap (λ (h : MultiHeader). h.done) e in absurd cc

not_end_error : (n : ℤ) → end_header ≡ error_header n → ⊥
not_end_error n e = let d : ◌≡◌ {A = Bool} true false = ap (λ (h : MultiHeader). h.done) e in absurd cc

ends : (ops : List PartOp) → Ends ops end_header
ends [] = tt
ends (op ∷ ops) = (not_end op, not_end_error)

pub ending : (ops : List PartOp) → AreMarked ops (marked end_header)
ending ops = last ops end_header end_bytes (ends ops)

loose_bytes : (h : MultiHeader) → HaveBytes (marked h) → HaveBytes (marked (loose (pos 1) h))
unfolding loose
loose_bytes h have = (have.0, (tt, (omega (arith, ints), tt)))

loose_marked : (ops : List PartOp) (h : MultiHeader) → HaveBytes (marked h) → Begins (AreMarked ops) (marked (loose (pos 1) h))
unfolding loose
loose_marked [] h have = ([], subst (AreMarked []) (sym (append-nil (marked (loose (pos 1) h)))) (last [] (loose (pos 1) h) (loose_bytes h have) tt))
loose_marked (op ∷ ops) h have =
    elim (error_or_not h.kind h.done (pos 1)) [
      | inl is ↦
          let one : HaveBytes (marked (error_header (pos 1)) ++ number_items (pos 1)) = (omega (arith, ints), (tt, (omega (arith, ints), (omega (arith, ints), tt)))) in
          (number_items (pos 1) ++ marked end_header, subst (λ (x : MultiHeader). AreMarked (op ∷ ops) (marked x ++ (number_items (pos 1) ++ marked end_header))) (sym is) (error_before op ops (pos 1) (marked end_header) one (ending ops)))
      | inr not ↦
          let other : loose (pos 1) h ≢ result_header op = λ e. let err : pos 1 ≡ pos 0 = ap (λ (x : MultiHeader). x.err) e in absurd cc in
          ([], subst (AreMarked (op ∷ ops)) (sym (append-nil (marked (loose (pos 1) h)))) (last (op ∷ ops) (loose (pos 1) h) (loose_bytes h have) (other, not)))
    ]

mark_begins : (ops : List PartOp) (o : List Item) (i : Item) (m : List Item) (h : MultiHeader) → o ++ (i ∷ m) ≡ marked h → HaveBytes (marked h) → Begins (AreMarked ops) o
mark_begins ops o i m h e have =
    let c = loose_begins (pos 1) o i m h e in
    let b = loose_marked ops h have in
    (c.0 ++ b.0, subst (AreMarked ops) (ap (λ (x : List Item). x ++ b.0) c.1 ∙ append_assoc o c.0 b.0) b.1)

-- ---- what comes next

marks_same : (a b : MultiHeader) (x y : List Item) → marked a ++ x ≡ marked b ++ y → (a ≡ b) × (x ≡ y)
marks_same a b x y e =
    let same = unfolds_only multi_header.layout (marked a) (marked b) x y (multi_header.unfolds a) (multi_header.unfolds b) e in
    (mark_same a b same.0, same.1)

last_same : (a b : MultiHeader) (y : List Item) → marked a ≡ marked b ++ y → a ≡ b
last_same a b y e = (marks_same a b [] y (append-nil (marked a) ∙ e)).0

next_mark : (o m : List Item) (k : Kind) → IsValueOf multi_header.layout (o ++ m) → IsNext (IsValueOf multi_header.layout) o k → {ops : List PartOp} {items : List Item} → AreMarked ops items → (more : List Item) → items ≡ o ++ more → NextIs more k
next_mark o m k v next (last ops h have not) more e = next more (subst (IsValueOf multi_header.layout) e (mark_is h have))
next_mark o m k v next (result_before op ops result others w rest) more e = next_follows multi_header.layout o m k v next (marked (result_header op)) (result ++ others) more (result_mark op) (sym e)
next_mark o m k v next (error_before op ops n others have rest) more e = next_follows multi_header.layout o m k v next (marked (error_header n)) (number_items n ++ others) more (mark_is (error_header n) (have_parts (marked (error_header n)) (number_items n) have).0) (sym e)

-- what a header of the part's result, or of an error, is followed by
after_result : {os : List PartOp} {items : List Item} → AreMarked os items → (op : PartOp) (ops : List PartOp) (x : List Item) → os ≡ op ∷ ops → items ≡ marked (result_header op) ++ x
    → (result : List Item) × (others : List Item) × IsValueOf (result_layout op) result × AreMarked ops others × (x ≡ result ++ others)
after_result (last os h have not) op ops x same e = absurd ((subst (λ (o : List PartOp). Ends o h) same not).0 (last_same h (result_header op) x e))
after_result (result_before po os result others v w) op ops x same e =
    let one : po ≡ op = cc in
    let two : os ≡ ops = cc in
    let both = marks_same (result_header po) (result_header op) (result ++ others) x e in
    (result, others, subst (λ (o : PartOp). IsValueOf (result_layout o) result) one v, subst (λ (o : List PartOp). AreMarked o others) two w, sym both.1)
after_result (error_before po os n others have w) op ops x same e = absurd (not_error op n (sym (marks_same (error_header n) (result_header op) (number_items n ++ others) x e).0))

after_error : {os : List PartOp} {items : List Item} → AreMarked os items → (op : PartOp) (ops : List PartOp) (n : ℤ) (x : List Item) → os ≡ op ∷ ops → items ≡ marked (error_header n) ++ x
    → (others : List Item) × AreMarked ops others × (x ≡ number_items n ++ others)
after_error (last os h have not) op ops n x same e = absurd ((subst (λ (o : List PartOp). Ends o h) same not).1 n (last_same h (error_header n) x e))
after_error (result_before po os result others v w) op ops n x same e = absurd (not_error po n (marks_same (result_header po) (error_header n) (result ++ others) x e).0)
after_error (error_before po os m others have w) op ops n x same e =
    let two : os ≡ ops = cc in
    let both = marks_same (error_header m) (error_header n) (number_items m ++ others) x e in
    let one = error_same m n both.0 in
    (others, subst (λ (o : List PartOp). AreMarked o others) two w, sym both.1 ∙ ap (λ (z : ℤ). number_items z ++ others) one)

module _ (op : PartOp) (ops : List PartOp) where
  next_result : (o m : List Item) (k : Kind) → IsValueOf (result_layout op) (o ++ m) → IsNext (IsValueOf (result_layout op)) o k → (more : List Item) → AreMarked (op ∷ ops) (marked (result_header op) ++ (o ++ more)) → NextIs more k
  next_result o m k v next more w =
      let a = after_result w op ops (o ++ more) refl refl in
      next_follows (result_layout op) o m k v next a.0 a.1 more a.2 a.4

  next_behind : (front o : List Item) (k : Kind) → IsValueOf (result_layout op) front → IsNext (AreMarked ops) o k → (more : List Item) → AreMarked (op ∷ ops) (marked (result_header op) ++ (front ++ (o ++ more))) → NextIs more k
  next_behind front o k v next more w =
      let a = after_result w op ops (front ++ (o ++ more)) refl refl in
      let inside = unfolds_only (result_layout op) a.0 front a.1 (o ++ more) a.2.0 v.0 (sym a.4) in
      next more (subst (AreMarked ops) inside.1 a.3)

  next_behind_error : (n : ℤ) (o : List Item) (k : Kind) → IsNext (AreMarked ops) o k → (more : List Item) → AreMarked (op ∷ ops) (marked (error_header n) ++ (number_items n ++ (o ++ more))) → NextIs more k
  next_behind_error n o k next more w =
      let a = after_error w op ops n (number_items n ++ (o ++ more)) refl refl in
      next more (subst (AreMarked ops) (sym (append_cancel_left (number_items n) (o ++ more) a.0 a.2)) a.1)

  -- an error's int comes next, and nothing before it
  number_goes : (n : ℤ) → HaveBytes (marked (error_header n)) → (o m : List Item) (k : Kind) → IsValueOf (One Int End) (o ++ m) → IsNext (IsValueOf (One Int End)) o k
      → Begins (AreMarked (op ∷ ops)) (marked (error_header n) ++ o) × IsNext (AreMarked (op ∷ ops)) (marked (error_header n) ++ o) k
  number_goes n have [] m k v next =
      let mark = marked (error_header n) in
      let u = v.0 in
      let c = next m v in
      let same = cons_is c.0 u.0 c.1 u.1 (sym c.2 ∙ u.4) in
      let kind : Int ≡ k = sym u.2 ∙ ap kind_of (sym same.0) ∙ c.3 in
      let group : (x : List Item) → (mark ++ []) ++ x ≡ mark ++ x = λ x. ap (λ (y : List Item). y ++ x) (append-nil mark) in
      let both = have_both mark (number_items n) have (have.1.1.0, tt) in (
        (number_items n ++ marked end_header, subst (AreMarked (op ∷ ops)) (sym (group (number_items n ++ marked end_header))) (error_before op ops n (marked end_header) both (ending ops))),
        λ more w.
            let a = after_error (subst (AreMarked (op ∷ ops)) (group more) w) op ops n more refl refl in
            (AnInt n, a.0, a.2, kind),
      )
  number_goes n have (x ∷ o) m k v next =
      let u = v.0 in
      let c = next m v in
      absurd (omega (arith, ap length u.4, ap length u.3, length-append o m, ap length c.2))

-- ---- the cases of the reader, over openings

-- results in front of a bad header
bad_behind : (op : PartOp) (ops : List PartOp) (front : List Item) (bytes rest : List ℕ) (q : ℕ) → ((before : List PartOp) (results : List Item) → AreResults before results → AreResults (op ∷ before) (front ++ results)) → Opens bytes front rest
    → IsBadPart ops rest q → IsBadPart (op ∷ ops) bytes (length (bytes_of front) + q)
bad_behind op ops front bytes rest _ make e (bad_part before after results more split are opens bad) =
    let both : bytes ≡ bytes_of (front ++ results) ++ more = e ∙ ap (λ (x : List ℕ). bytes_of front ++ x) opens ∙ sym (append_assoc (bytes_of front) (bytes_of results) more) ∙ ap (λ (x : List ℕ). x ++ more) (sym (bytes_both front results)) in
    let place : length (bytes_of (front ++ results)) ≡ length (bytes_of front) + length (bytes_of results) = ap length (bytes_both front results) ∙ length-append (bytes_of front) (bytes_of results) in
    subst (IsBadPart (op ∷ ops) bytes) place (bad_part (op ∷ before) after (front ++ results) more (ap (λ (x : List PartOp). op ∷ x) split) (make before results are) both bad)

abbrev pub Opened : List PartOp → List ℕ → ℕ → Reason → Type 0
Opened ops bytes p r = IsFault (AreMarked ops) bytes p r ⊎ (IsBadPart ops bytes p × (r ≡ BadPart))

pub done_opened : {ops : List PartOp} {bytes : List ℕ} {p : ℕ} {r : Reason} → IsDoneFault ops bytes p r → Opened ops bytes p r
done_opened (in_mark ops bytes p r f) =
    let same : 0 + p ≡ p = omega arith in
    inl (subst (λ (q : ℕ). IsFault (AreMarked ops) bytes q r) same
    (behind_front (IsValueOf multi_header.layout) (AreMarked ops) [] bytes bytes p r refl
    (λ o m k v next.
    let s = mark_shape (o ++ m) v in
    let n = next m v in
    (mark_begins ops o n.0 n.1 s.0 (ap (λ (x : List Item). o ++ x) (sym n.2) ∙ s.1) (subst HaveBytes s.1 v.1), λ more w. next_mark o m k v next w more refl))
    f))
done_opened (bad_mark ops bytes rest h have e not) = inr (bad_part [] ops [] bytes refl no_result refl (no_mark ops bytes rest h have not e), refl)
done_opened (in_result op ops bytes rest q r e f) =
    let mark = marked (result_header op) in
    inl (behind_front (IsValueOf (result_layout op)) (AreMarked (op ∷ ops)) mark bytes rest q r e
    (λ o m k v next.
    let group : mark ++ ((o ++ m) ++ marked end_header) ≡ (mark ++ o) ++ (m ++ marked end_header) = ap (λ (x : List Item). mark ++ x) (append_assoc o m (marked end_header)) ∙ sym (append_assoc mark o (m ++ marked end_header)) in (
      (m ++ marked end_header, subst (AreMarked (op ∷ ops)) group (result_before op ops (o ++ m) (marked end_header) v (ending ops))),
      λ more w. next_result op ops o m k v next more (subst (AreMarked (op ∷ ops)) (append_assoc mark o more) w),
    ))
    f)
done_opened (in_error op ops n bytes rest q r have e f) = inl (behind_front (IsValueOf (One Int End)) (AreMarked (op ∷ ops)) (marked (error_header n)) bytes rest q r e (number_goes op ops n have) f)
done_opened (other_error op ops n d bytes rest have e not) = inr (bad_part [] (op ∷ ops) [] bytes refl no_result refl (no_number op ops bytes rest n d have not e), refl)
done_opened (behind_result op ops result bytes rest q r v e f) =
    let mark = marked (result_header op) in
    elim (done_opened f) [
      | inl g ↦ inl (behind_front (AreMarked ops) (AreMarked (op ∷ ops)) (mark ++ result) bytes rest q r e
          (λ o m k w next.
          let group : (more : List Item) → ((mark ++ result) ++ o) ++ more ≡ mark ++ (result ++ (o ++ more)) = λ more. append_assoc (mark ++ result) o more ∙ append_assoc mark result (o ++ more) in
          ((m, subst (AreMarked (op ∷ ops)) (sym (group m)) (result_before op ops result (o ++ m) v w)), λ more u. next_behind op ops result o k v next more (subst (AreMarked (op ∷ ops)) (group more) u)))
          g)
      | inr b ↦ inr (bad_behind op ops (mark ++ result) bytes rest q (λ before results are. subst (AreResults (op ∷ before)) (sym (append_assoc mark result results)) (a_result op before result results v are)) e b.0, b.1)
    ]
done_opened (behind_error op ops n bytes rest q r have e f) =
    let mark = marked (error_header n) in
    let number = number_items n in
    elim (done_opened f) [
      | inl g ↦ inl (behind_front (AreMarked ops) (AreMarked (op ∷ ops)) (mark ++ number) bytes rest q r e
          (λ o m k w next.
          let group : (more : List Item) → ((mark ++ number) ++ o) ++ more ≡ mark ++ (number ++ (o ++ more)) = λ more. append_assoc (mark ++ number) o more ∙ append_assoc mark number (o ++ more) in
          ((m, subst (AreMarked (op ∷ ops)) (sym (group m)) (error_before op ops n (o ++ m) have w)), λ more u. next_behind_error op ops n o k next more (subst (AreMarked (op ∷ ops)) (group more) u)))
          g)
      | inr b ↦ inr (bad_behind op ops (mark ++ number) bytes rest q (λ before results are. subst (AreResults (op ∷ before)) (sym (append_assoc mark number results)) (an_error op before n results have are)) e b.0, b.1)
    ]
