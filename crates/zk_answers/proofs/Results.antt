-- Results of a multi: a fault is unique and excludes each form, and results tell their bytes apart.
use Rattle.std.proofs.Common.{◌≡◌, ℕ, ◌+◌, ◌⊎◌, inl, inr, List, [], ◌∷◌, ◌++◌, length, refl, sym, ap, subst, ◌∙◌, arith}
use Rattle.std.specs.Prelude.{◌≢◌, ℤ}
use Rattle.std.proofs.lemmas.List.{length-append}
use Rattle.zk_jute.specs.{declared.fault.Reason.Reason, declared.fault.Reason.TheVariants.BadPart, Item.Int, Item.Item, Item.AnInt, Item.bytes_of, Item.HaveBytes, Layout.Layout, Layout.End, Layout.One, Layout.IsValueOf, Faults.IsFault}
use Rattle.zk_jute.specs.Wired.{int}
use Rattle.zk_jute.proofs.{Layouts.bytes_only, Layouts.bytes_both, Layouts.have_parts, Sequels.Same, Sequels.Sequel, Sequels.sequel_same, Sequels.sequel_not}
use Rattle.zk_records.specs.{declared.header.MultiHeader.MultiHeader, declared.op.PartOp.PartOp, Records.multi_header}
use Rattle.zk_answers.specs.Held.{PartDone}
use Rattle.zk_answers.specs.declared.frame.PartDoneOf.TheVariants as done
use Rattle.zk_asks.specs.Parts.{end_header, marked}
use Rattle.zk_answers.specs.Results.{result_header, error_header, done_items, multi_items, result_layout, Answers, AnswerAll, MayAnswer, IsDoneFault, in_mark, bad_mark, in_result, in_error, other_error, behind_result, behind_error}
use Rattle.zk_asks.proofs.{Placed.Placed, Placed.layout_exact, Placed.placed_same, Placed.placed_not, Parts.mark_is, Parted.mark_same, Parted.end_mark}
use Rattle.zk_answers.proofs.Dones.{result_mark, not_error, error_same, done_of, result_items, result_is, result_apart, items_of, done_is, multi_more, split_items, an_int}

-- ---- a fault by its header

abbrev BehindResult : List PartOp → List Item → List ℕ → ℕ → Reason → Type 0
BehindResult ops items more p r = (behind : ℕ) × (p ≡ 9 + (length (bytes_of items) + behind)) × IsDoneFault ops more behind r

abbrev BehindNumber : ℤ → List PartOp → List Item → List ℕ → ℕ → Reason → Type 0
BehindNumber e ops items more p r = (d : ℤ) × (items ≡ AnInt d ∷ []) × (((d ≢ e) × (p ≡ 0) × (r ≡ BadPart)) ⊎ ((d ≡ e) × BehindResult ops items more p r))

-- behind a header
abbrev Behind : Layout → (List Item → List ℕ → ℕ → Reason → Type 0) → List ℕ → ℕ → Reason → Type 0
Behind l = Placed 9 (IsValueOf l) (IsFault (IsValueOf l))

abbrev Continues : List PartOp → MultiHeader → List ℕ → ℕ → Reason → Type 0
Continues [] h rest p r = ⊥
Continues (op ∷ ops) h rest p r = ((h ≡ result_header op) × Behind (result_layout op) (BehindResult ops) rest p r) ⊎ ((e : ℤ) × (h ≡ error_header e) × Behind (One Int End) (BehindNumber e ops) rest p r)

abbrev Judged : List PartOp → MultiHeader → List ℕ → ℕ → Reason → Type 0
Judged ops h rest p r = ((MayAnswer ops h → ⊥) × (p ≡ 0) × (r ≡ BadPart)) ⊎ Continues ops h rest p r

abbrev AfterMark : List PartOp → List Item → List ℕ → ℕ → Reason → Type 0
AfterMark ops mark rest p r = (h : MultiHeader) × (mark ≡ marked h) × Judged ops h rest p r

place_behind : (a b : List Item) (behind : ℕ) → length (bytes_of a) ≡ 9 → length (bytes_of (a ++ b)) + behind ≡ 9 + (length (bytes_of b) + behind)
place_behind a b behind nine = omega (arith, ap length (bytes_both a b), length-append (bytes_of a) (bytes_of b))

sequel : {ops : List PartOp} {bytes : List ℕ} {p : ℕ} {r : Reason} → IsDoneFault ops bytes p r → Sequel multi_header.layout (AfterMark ops) bytes p r
sequel (in_mark ops bytes place reason f) = inl f
sequel (bad_mark ops bytes rest header have e not) = inr (marked header, rest, mark_is header have, e, (header, refl, inl (not, refl, refl)))
sequel (in_result op ops bytes rest behind reason e f) = inr (marked (result_header op), rest, result_mark op, e, (result_header op, refl, inr (inl (refl, inl (behind, refl, f)))))
sequel (in_error op ops e bytes rest behind reason have o f) = inr (marked (error_header e), rest, mark_is (error_header e) have, o, (error_header e, refl, inr (inr (e, refl, inl (behind, refl, f)))))
sequel (other_error op ops e d bytes rest have o not) =
    let mark = marked (error_header e) in
    let items = AnInt d ∷ [] in
    let h = have_parts mark items have in
    inr (mark, bytes_of items ++ rest, mark_is (error_header e) h.0, split_items mark items bytes rest o, (error_header e, refl, inr (inr (e, refl, inr (items, rest, an_int d h.1, refl, (d, refl, inl (not, refl, refl)))))))
sequel (behind_result op ops result bytes rest behind reason v e f) =
    let mark = marked (result_header op) in
    inr (mark, bytes_of result ++ rest, result_mark op, split_items mark result bytes rest e, (result_header op, refl, inr (inl (refl, inr (result, rest, v, refl, (behind, place_behind mark result behind refl, f))))))
sequel (behind_error op ops e bytes rest behind reason have o f) =
    let mark = marked (error_header e) in
    let items = AnInt e ∷ [] in
    let h = have_parts mark items have in
    inr (mark, bytes_of items ++ rest, mark_is (error_header e) h.0, split_items mark items bytes rest o, (error_header e, refl, inr (inr (e, refl, inr (items, rest, an_int e h.1, refl, (e, refl, inr (refl, (behind, place_behind mark items behind refl, f))))))))

-- ---- one fault

abbrev Once : List PartOp → Type 0
Once ops = (bytes : List ℕ) (p q : ℕ) (r s : Reason) → IsDoneFault ops bytes p r → IsDoneFault ops bytes q s → Same p r q s

behind_same : (ops : List PartOp) → Once ops → (items : List Item) (more : List ℕ) (p q : ℕ) (r s : Reason) → BehindResult ops items more p r → BehindResult ops items more q s → Same p r q s
behind_same ops once items more p q r s a b =
    let same = once more a.0 b.0 r s a.2 b.2 in
    let number : p ≡ q = let x = a.1 in let y = b.1 in let z = same.0 in omega arith in
    (number, same.1)

number_same : (e : ℤ) (ops : List PartOp) → Once ops → (items : List Item) (more : List ℕ) (p q : ℕ) (r s : Reason) → BehindNumber e ops items more p r → BehindNumber e ops items more q s → Same p r q s
number_same e ops once items more p q r s a b =
    let same : a.0 ≡ b.0 = int.tells_apart a.0 b.0 (sym a.1 ∙ b.1) in
    elim a.2 [
      | inl x ↦ elim b.2 [ inl y ↦ (x.1 ∙ sym y.1, x.2 ∙ sym y.2) | inr y ↦ absurd (x.0 (same ∙ y.0)) ]
      | inr x ↦ elim b.2 [ inl y ↦ absurd (y.0 (sym same ∙ x.0)) | inr y ↦ behind_same ops once items more p q r s x.1 y.1 ]
    ]

continues_same : (op : PartOp) (ops : List PartOp) → Once ops → (h : MultiHeader) (rest : List ℕ) (p q : ℕ) (r s : Reason) → Continues (op ∷ ops) h rest p r → Continues (op ∷ ops) h rest q s → Same p r q s
continues_same op ops once h rest p q r s a b =
    elim a [
      | inl x ↦ elim b [
        | inl y ↦ placed_same 9 (layout_exact (result_layout op)) (BehindResult ops) rest (behind_same ops once) p q r s x.1 y.1
        | inr y ↦ absurd (not_error op y.0 (sym x.0 ∙ y.1))
      ]
      | inr x ↦ elim b [
        | inl y ↦ absurd (not_error op x.0 (sym y.0 ∙ x.1))
        | inr y ↦
            let same : y.0 ≡ x.0 = error_same y.0 x.0 (sym y.1 ∙ x.1) in
            placed_same 9 (layout_exact (One Int End)) (BehindNumber x.0 ops) rest (number_same x.0 ops once) p q r s x.2 (subst (λ (e : ℤ). Behind (One Int End) (BehindNumber e ops) rest q s) same y.2)
      ]
    ]

may_continue : (ops : List PartOp) (h : MultiHeader) (rest : List ℕ) (p : ℕ) (r : Reason) → Continues ops h rest p r → MayAnswer ops h
may_continue [] h rest p r c = absurd c
may_continue (op ∷ ops) h rest p r c = elim c [ inl x ↦ inl x.0 | inr x ↦ inr (x.0, x.1) ]

judged_same : (ops : List PartOp) (h : MultiHeader) (rest : List ℕ) (p q : ℕ) (r s : Reason) → (Continues ops h rest p r → Continues ops h rest q s → Same p r q s) → Judged ops h rest p r → Judged ops h rest q s → Same p r q s
judged_same ops h rest p q r s go a b =
    elim a [
      | inl x ↦ elim b [ inl y ↦ (x.1 ∙ sym y.1, x.2 ∙ sym y.2) | inr y ↦ absurd (x.0 (may_continue ops h rest q s y)) ]
      | inr x ↦ elim b [ inl y ↦ absurd (y.0 (may_continue ops h rest p r x)) | inr y ↦ go x y ]
    ]

marks_same : (ops : List PartOp) → ((h : MultiHeader) (rest : List ℕ) (p q : ℕ) (r s : Reason) → Continues ops h rest p r → Continues ops h rest q s → Same p r q s) → Once ops
marks_same ops go bytes p q r s f g =
    sequel_same multi_header.layout (AfterMark ops) bytes
    (λ mark rest p q r s v e a b.
    let same = mark_same b.0 a.0 (sym b.1 ∙ a.1) in
    judged_same ops a.0 rest p q r s (go a.0 rest p q r s) a.2 (subst (λ (h : MultiHeader). Judged ops h rest q s) same b.2))
    p q r s (sequel f) (sequel g)

pub done_unique : (ops : List PartOp) → Once ops
done_unique [] = marks_same [] (λ h rest p q r s a b. absurd a)
done_unique (op ∷ ops) = marks_same (op ∷ ops) (continues_same op ops (done_unique ops))

-- ---- a form excludes a fault

marks_not : (ops : List PartOp) (h : MultiHeader) (bytes rest : List ℕ) (p : ℕ) (r : Reason) → IsValueOf multi_header.layout (marked h) → bytes ≡ bytes_of (marked h) ++ rest → MayAnswer ops h
    → (Continues ops h rest p r → ⊥) → IsDoneFault ops bytes p r → ⊥
marks_not ops h bytes rest p r v e may not f =
    sequel_not multi_header.layout (AfterMark ops) bytes (marked h) rest v e p r
    (λ a.
    let same = mark_same a.0 h (sym a.1) in
    let j : Judged ops h rest p r = subst (λ (h : MultiHeader). Judged ops h rest p r) same a.2 in
    let no : ⊥ = elim j [ inl x ↦ x.0 may | inr x ↦ not x ] in
    no)
    (sequel f)

abbrev Excludes : List PartOp → List ℕ → Type 0
Excludes ops bytes = (p : ℕ) (r : Reason) → IsDoneFault ops bytes p r → ⊥

done_not : (op : PartOp) (ops : List PartOp) (d : PartDone) (bytes rest : List ℕ) → Answers op d → HaveBytes (done_items d) → bytes ≡ bytes_of (done_items d) ++ rest → Excludes ops rest → Excludes (op ∷ ops) bytes
done_not op ops d bytes rest answers have e later p r f =
    elim (done_is op d answers) [
      | inl x ↦
          let mark = marked (result_header op) in
          let items = result_items op x.0 in
          let is : done_items d ≡ mark ++ items = ap done_items x.1 ∙ items_of op x.0 in
          let h = have_parts mark items (subst HaveBytes is have) in
          let split = split_items mark items bytes rest (e ∙ ap (λ (i : List Item). bytes_of i ++ rest) is) in
          marks_not (op ∷ ops) (result_header op) bytes (bytes_of items ++ rest) p r (result_mark op) split (inl refl)
          (λ c. elim c [
            | inl y ↦ placed_not 9 (layout_exact (result_layout op)) (BehindResult ops) (bytes_of items ++ rest) items rest (result_is op x.0, h.1) refl p r (λ b. later b.0 r b.2) y.1
            | inr y ↦ not_error op y.0 y.1
          ])
          f
      | inr x ↦
          let mark = marked (error_header x.0) in
          let items = AnInt x.0 ∷ [] in
          let is : done_items d ≡ mark ++ items = ap done_items x.1 in
          let h = have_parts mark items (subst HaveBytes is have) in
          let split = split_items mark items bytes rest (e ∙ ap (λ (i : List Item). bytes_of i ++ rest) is) in
          marks_not (op ∷ ops) (error_header x.0) bytes (bytes_of items ++ rest) p r (mark_is (error_header x.0) h.0) split (inr (x.0, refl))
          (λ c. elim c [
            | inl y ↦ not_error op x.0 (sym y.0)
            | inr y ↦ placed_not 9 (layout_exact (One Int End)) (BehindNumber y.0 ops) (bytes_of items ++ rest) items rest (an_int x.0 h.1) refl p r
                (λ b. let one : x.0 ≡ b.0 = int.tells_apart x.0 b.0 b.1 in let no : ⊥ = elim b.2 [ inl z ↦ z.0 (sym one ∙ error_same x.0 y.0 y.1) | inr z ↦ later z.1.0 r z.1.2 ] in no) y.2
          ])
          f
    ]

pub done_excludes : (ops : List PartOp) (ds : List PartDone) → AnswerAll ops ds → HaveBytes (multi_items ds) → (bytes more : List ℕ) (p : ℕ) (r : Reason) → bytes ≡ bytes_of (multi_items ds) ++ more → IsDoneFault ops bytes p r → ⊥
done_excludes [] [] all have bytes more p r e f = marks_not [] end_header bytes more p r end_mark e refl (λ c. c) f
done_excludes [] (d ∷ ds) all have bytes more p r e f = absurd all
done_excludes (op ∷ ops) [] all have bytes more p r e f = absurd all
done_excludes (op ∷ ops) (d ∷ ds) all have bytes more p r e f =
    let is = multi_more d ds in
    let h = have_parts (done_items d) (multi_items ds) (subst HaveBytes is have) in
    let split = split_items (done_items d) (multi_items ds) bytes more (e ∙ ap (λ (i : List Item). bytes_of i ++ more) is) in
    done_not op ops d bytes (bytes_of (multi_items ds) ++ more) all.0 h.0 split (λ p r f. done_excludes ops ds all.1 h.1 (bytes_of (multi_items ds) ++ more) more p r refl f) p r f

-- ---- no results begin others

abbrev BothSame : PartDone → PartDone → List ℕ → List ℕ → Type 0
BothSame d e x y = (d ≡ e) × (x ≡ y)

module _ (op : PartOp) (d e : PartDone) (p : Answers op d) (q : Answers op e) (have : HaveBytes (done_items d)) (has : HaveBytes (done_items e)) (x y : List ℕ) (same : bytes_of (done_items d) ++ x ≡ bytes_of (done_items e) ++ y) where
  -- two headers, and the rest of each
  heads_same : (h k : MultiHeader) (a b : List Item) → done_items d ≡ marked h ++ a → done_items e ≡ marked k ++ b → (h ≡ k) × (bytes_of a ++ x ≡ bytes_of b ++ y)
  heads_same h k a b s t =
      let u = have_parts (marked h) a (subst HaveBytes s have) in
      let v = have_parts (marked k) b (subst HaveBytes t has) in
      let left = split_items (marked h) a (bytes_of (done_items d) ++ x) x (ap (λ (i : List Item). bytes_of i ++ x) s) in
      let right = split_items (marked k) b (bytes_of (done_items e) ++ y) y (ap (λ (i : List Item). bytes_of i ++ y) t) in
      let one = bytes_only multi_header.layout (marked h) (marked k) (bytes_of a ++ x) (bytes_of b ++ y) (mark_is h u.0) (mark_is k v.0) (sym left ∙ same ∙ right) in
      (mark_same h k one.0, one.1)

  pub done_only : BothSame d e x y
  done_only =
      elim (done_is op d p) [
        | inl a ↦
            let s : done_items d ≡ marked (result_header op) ++ result_items op a.0 = ap done_items a.1 ∙ items_of op a.0 in
            elim (done_is op e q) [
              | inl b ↦
                  let t : done_items e ≡ marked (result_header op) ++ result_items op b.0 = ap done_items b.1 ∙ items_of op b.0 in
                  let h = heads_same (result_header op) (result_header op) (result_items op a.0) (result_items op b.0) s t in
                  let u = have_parts (marked (result_header op)) (result_items op a.0) (subst HaveBytes s have) in
                  let v = have_parts (marked (result_header op)) (result_items op b.0) (subst HaveBytes t has) in
                  let one = bytes_only (result_layout op) (result_items op a.0) (result_items op b.0) x y (result_is op a.0, u.1) (result_is op b.0, v.1) h.1 in
                  (a.1 ∙ ap (done_of op) (result_apart op a.0 b.0 one.0) ∙ sym b.1, one.1)
              | inr b ↦ absurd (not_error op b.0 (heads_same (result_header op) (error_header b.0) (result_items op a.0) (AnInt b.0 ∷ []) s (ap done_items b.1)).0)
            ]
        | inr a ↦
            let s : done_items d ≡ marked (error_header a.0) ++ (AnInt a.0 ∷ []) = ap done_items a.1 in
            elim (done_is op e q) [
              | inl b ↦
                  let t : done_items e ≡ marked (result_header op) ++ result_items op b.0 = ap done_items b.1 ∙ items_of op b.0 in
                  absurd (not_error op a.0 (sym (heads_same (error_header a.0) (result_header op) (AnInt a.0 ∷ []) (result_items op b.0) s t).0))
              | inr b ↦
                  let t : done_items e ≡ marked (error_header b.0) ++ (AnInt b.0 ∷ []) = ap done_items b.1 in
                  let h = heads_same (error_header a.0) (error_header b.0) (AnInt a.0 ∷ []) (AnInt b.0 ∷ []) s t in
                  let u = have_parts (marked (error_header a.0)) (AnInt a.0 ∷ []) (subst HaveBytes s have) in
                  let v = have_parts (marked (error_header b.0)) (AnInt b.0 ∷ []) (subst HaveBytes t has) in
                  let one = bytes_only (One Int End) (AnInt a.0 ∷ []) (AnInt b.0 ∷ []) x y (an_int a.0 u.1) (an_int b.0 v.1) h.1 in
                  (a.1 ∙ ap done.PartFailed (int.tells_apart a.0 b.0 one.0) ∙ sym b.1, one.1)
            ]
      ]

pub multi_only : (ops : List PartOp) (ds es : List PartDone) → AnswerAll ops ds → AnswerAll ops es → HaveBytes (multi_items ds) → HaveBytes (multi_items es) → (x y : List ℕ) → bytes_of (multi_items ds) ++ x ≡ bytes_of (multi_items es) ++ y → (ds ≡ es) × (x ≡ y)
multi_only [] [] [] p q u v x y e = (refl, (bytes_only multi_header.layout (marked end_header) (marked end_header) x y end_mark end_mark e).1)
multi_only [] (d ∷ ds) es p q u v x y e = absurd p
multi_only [] [] (d ∷ es) p q u v x y e = absurd q
multi_only (op ∷ ops) [] es p q u v x y e = absurd p
multi_only (op ∷ ops) (d ∷ ds) [] p q u v x y e = absurd q
multi_only (op ∷ ops) (d ∷ ds) (c ∷ es) p q u v x y e =
    let a = have_parts (done_items d) (multi_items ds) (subst HaveBytes (multi_more d ds) u) in
    let b = have_parts (done_items c) (multi_items es) (subst HaveBytes (multi_more c es) v) in
    let left = split_items (done_items d) (multi_items ds) (bytes_of (multi_items (d ∷ ds)) ++ x) x (ap (λ (i : List Item). bytes_of i ++ x) (multi_more d ds)) in
    let right = split_items (done_items c) (multi_items es) (bytes_of (multi_items (c ∷ es)) ++ y) y (ap (λ (i : List Item). bytes_of i ++ y) (multi_more c es)) in
    let one = done_only op d c p.0 q.0 a.0 b.0 (bytes_of (multi_items ds) ++ x) (bytes_of (multi_items es) ++ y) (sym left ∙ e ∙ right) in
    let rest = multi_only ops ds es p.1 q.1 a.1 b.1 x y one.1 in
    (ap (λ (z : PartDone). z ∷ ds) one.0 ∙ ap (λ (z : List PartDone). c ∷ z) rest.0, rest.1)
