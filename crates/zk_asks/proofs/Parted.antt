-- Multi: its fault is unique, excludes each form, and its forms tell their bytes apart.
use Rattle.std.proofs.Common.{◌≡◌, ℕ, zero, suc, ◌+◌, ◌<◌, ◌⊎◌, inl, inr, true, false, Bool, List, [], ◌∷◌, ◌++◌, length, refl, sym, ap, subst, ◌∙◌, append_assoc, arith}
use Rattle.std.specs.Prelude.{ℤ}
use Rattle.std.specs.List.{flat_map}
use Rattle.std.proofs.{lemmas.Int.ints, lemmas.List.append-nil, lemmas.List.length-append}
use Rattle.zk_jute.specs.{declared.fault.Reason.Reason, declared.fault.Reason.TheVariants.BadPart, Item.Item, Item.bytes_of, Item.HaveBytes, Layout.IsValueOf, Layout.Unfolds, Apart.unfolds_only}
use Rattle.zk_jute.proofs.{Layouts.bytes_only, Layouts.bytes_both, Layouts.has_byte, Sequels.Same, Sequels.Sequel, Sequels.sequel_same, Sequels.sequel_not}
use Rattle.zk_records.specs.{Records.multi_header, declared.header.MultiHeader.MultiHeader, declared.op.PartOp.PartOp}
use Rattle.zk_records.specs.declared.op.PartOp.TheVariants as parts
use Rattle.zk_asks.specs.{Held.Part, Faults.IsMultiFault, Faults.in_mark, Faults.bad_mark, Faults.in_part, Faults.behind_part}
use Rattle.zk_records.proofs.Numbers.{part_number_apart}
use Rattle.zk_asks.specs.Parts.{part_row, part_layout, part_header, end_header, marked, MayStand, IsMulti, no_more, a_part, record_of, op_of_part, part_items, multi_items}
use Rattle.zk_asks.proofs.Parts.{IsMade, part_made, record_is, mark_is}

-- ---- headers

pub op_same : (a b : PartOp) → part_header a ≡ part_header b → a ≡ b
op_same a b e = part_number_apart a b (ap (λ (h : MultiHeader). h.kind) e)

pub not_end : (op : PartOp) → part_header op ≡ end_header → ⊥
not_end op e = let d : ◌≡◌ {A = Bool} false true = ap (λ (h : MultiHeader). h.done) e in absurd cc

pub mark_bytes : (op : PartOp) → HaveBytes (marked (part_header op))
mark_bytes parts.Create = (omega (arith, ints), (tt, (omega (arith, ints), tt)))
mark_bytes _ = (omega (arith, ints), (tt, (omega (arith, ints), tt)))

pub end_bytes : HaveBytes (marked end_header)
end_bytes = (omega (arith, ints), (tt, (omega (arith, ints), tt)))

pub part_mark : (op : PartOp) → IsValueOf multi_header.layout (marked (part_header op))
part_mark op = mark_is (part_header op) (mark_bytes op)

pub end_mark : IsValueOf multi_header.layout (marked end_header)
end_mark = mark_is end_header end_bytes

pub mark_same : (a b : MultiHeader) → marked a ≡ marked b → a ≡ b
mark_same a b e = multi_header.tells_apart a b e

nine_of : (kind err : ℤ) (done : Bool) → length (bytes_of (marked (record { kind = kind; done = done; err = err }))) ≡ 9
nine_of kind err false = refl
nine_of kind err true = refl

pub nine : (h : MultiHeader) → length (bytes_of (marked h)) ≡ 9
nine h = nine_of h.kind h.err h.done

-- ---- a fault by its header

abbrev AfterPart : List Item → List ℕ → ℕ → Reason → Type 0
AfterPart part rest p r = (behind : ℕ) × (p ≡ length (bytes_of part) + behind) × IsMultiFault rest behind r

abbrev IsWithin : MultiHeader → List Item → List ℕ → ℕ → Reason → Type 0
IsWithin h mark rest p r = (op : PartOp) × (behind : ℕ) × (h ≡ part_header op) × (p ≡ length (bytes_of mark) + behind) × Sequel (part_layout op) AfterPart rest behind r

abbrev AfterMark : List Item → List ℕ → ℕ → Reason → Type 0
AfterMark mark rest p r = (h : MultiHeader) × (mark ≡ marked h) × (((MayStand h → ⊥) × (p ≡ 0) × (r ≡ BadPart)) ⊎ IsWithin h mark rest p r)

sequel : {bytes : List ℕ} {p : ℕ} {r : Reason} → IsMultiFault bytes p r → Sequel multi_header.layout AfterMark bytes p r
sequel (in_mark bytes place reason f) = inl f
sequel (bad_mark bytes rest header have e not) = inr (marked header, rest, mark_is header have, e, (header, refl, inl (not, refl, refl)))
sequel (in_part bytes rest op behind reason e f) = inr (marked (part_header op), rest, part_mark op, e, (part_header op, refl, inr (op, behind, refl, refl, inl f)))
sequel (behind_part bytes rest op part behind reason v e f) =
    let mark = marked (part_header op) in
    let split : bytes ≡ bytes_of mark ++ (bytes_of part ++ rest) = e ∙ ap (λ (b : List ℕ). b ++ rest) (bytes_both mark part) ∙ append_assoc (bytes_of mark) (bytes_of part) rest in
    let place : length (bytes_of (mark ++ part)) + behind ≡ length (bytes_of mark) + (length (bytes_of part) + behind) = omega (arith, ap length (bytes_both mark part), length-append (bytes_of mark) (bytes_of part)) in
    inr (mark, bytes_of part ++ rest, part_mark op, split, (part_header op, refl, inr (op, length (bytes_of part) + behind, refl, place, inr (part, rest, v, refl, (behind, refl, f)))))

-- ---- one fault

within_same : (h k : MultiHeader) (mark : List Item) (rest : List ℕ) → h ≡ k
    → ((part : List Item) (more : List ℕ) (p q : ℕ) (r s : Reason) → rest ≡ bytes_of part ++ more → IsMultiFault more p r → IsMultiFault more q s → Same p r q s)
    → (p q : ℕ) (r s : Reason) → IsWithin h mark rest p r → IsWithin k mark rest q s → Same p r q s
within_same h k mark rest same again p q r s a b =
    let ops : b.0 ≡ a.0 = op_same b.0 a.0 (sym b.2 ∙ sym same ∙ a.2) in
    let g : Sequel (part_layout a.0) AfterPart rest b.1 s = subst (λ (op : PartOp). Sequel (part_layout op) AfterPart rest b.1 s) ops b.4 in
    let one = sequel_same (part_layout a.0) AfterPart rest
    (λ part more p q r s v e c d.
    let two = again part more c.0 d.0 r s e c.2 d.2 in
    let number : p ≡ q = let x = c.1 in let y = d.1 in let z = two.0 in omega arith in
    (number, two.1))
    a.1 b.1 r s a.4 g in
    let number : p ≡ q = let x = a.3 in let y = b.3 in let z = one.0 in omega arith in
    (number, one.1)

pub multi_unique : (n : ℕ) (bytes : List ℕ) → length bytes < n → (p q : ℕ) (r s : Reason) → IsMultiFault bytes p r → IsMultiFault bytes q s → Same p r q s
multi_unique zero bytes lt p q r s f g = absurd (omega arith)
multi_unique (suc n) bytes lt p q r s f g =
    sequel_same multi_header.layout AfterMark bytes
    (λ mark rest p q r s v e a b.
    let same = mark_same a.0 b.0 (sym a.1 ∙ b.1) in
    let result : Same p r q s = elim a.2 [
      | inl bad ↦ elim b.2 [
        | inl other ↦ (bad.1 ∙ sym other.1, bad.2 ∙ sym other.2)
        | inr within ↦ absurd (bad.0 (inl (within.0, same ∙ within.2)))
      ]
      | inr within ↦ elim b.2 [
        | inl bad ↦ absurd (bad.0 (inl (within.0, sym same ∙ within.2)))
        | inr other ↦ within_same a.0 b.0 mark rest same
            (λ part more p q r s t f g.
            let some = has_byte multi_header.layout mark multi_header.has_fields v.0 in
            let shorter : length more < n = omega (arith, ap length e, length-append (bytes_of mark) rest, ap length t, length-append (bytes_of part) more) in
            multi_unique n more shorter p q r s f g)
            p q r s within other
      ]
    ] in
    result)
    p q r s (sequel f) (sequel g)

-- ---- a form excludes a fault

pub multi_excludes : {items : List Item} → IsMulti items → (bytes more : List ℕ) (p : ℕ) (r : Reason) → bytes ≡ bytes_of items ++ more → IsMultiFault bytes p r → ⊥
multi_excludes no_more bytes more p r e f =
    sequel_not multi_header.layout AfterMark bytes (marked end_header) more end_mark e p r
    (λ a.
    let same = mark_same end_header a.0 a.1 in
    let no : ⊥ = elim a.2 [ inl bad ↦ bad.0 (inr (sym same)) | inr within ↦ not_end within.0 (sym (same ∙ within.2)) ] in
    no)
    (sequel f)
multi_excludes (a_part op part others v m) bytes more p r e f =
    let mark = marked (part_header op) in
    let rest : List ℕ = bytes_of part ++ (bytes_of others ++ more) in
    let split : bytes ≡ bytes_of mark ++ rest = e ∙ ap (λ (b : List ℕ). b ++ more) (bytes_both mark (part ++ others)) ∙ append_assoc (bytes_of mark) (bytes_of (part ++ others)) more ∙ ap (λ (b : List ℕ). bytes_of mark ++ b) (ap (λ (b : List ℕ). b ++ more) (bytes_both part others) ∙ append_assoc (bytes_of part) (bytes_of others) more) in
    sequel_not multi_header.layout AfterMark bytes mark rest (part_mark op) split p r
    (λ a.
    let same = mark_same (part_header op) a.0 a.1 in
    let no : ⊥ = elim a.2 [
      | inl bad ↦ bad.0 (inl (op, sym same))
      | inr within ↦
          let ops : within.0 ≡ op = op_same within.0 op (sym within.2 ∙ sym same) in
          let g : Sequel (part_layout op) AfterPart rest within.1 r = subst (λ (o : PartOp). Sequel (part_layout o) AfterPart rest within.1 r) ops within.4 in
          sequel_not (part_layout op) AfterPart rest part (bytes_of others ++ more) v refl within.1 r (λ c. multi_excludes m (bytes_of others ++ more) more c.0 r refl c.2) g
    ] in
    no)
    (sequel f)

-- ---- no form begins another

parts_apart : (op : PartOp) (part others : List Item) (x y : List ℕ) → bytes_of (marked end_header) ++ x ≡ bytes_of (marked (part_header op) ++ (part ++ others)) ++ y → ⊥
parts_apart op part others x y e =
    let mark = marked (part_header op) in
    let same = bytes_only multi_header.layout (marked end_header) mark x (bytes_of (part ++ others) ++ y) end_mark (part_mark op) (e ∙ ap (λ (b : List ℕ). b ++ y) (bytes_both mark (part ++ others)) ∙ append_assoc (bytes_of mark) (bytes_of (part ++ others)) y) in
    not_end op (sym (mark_same end_header (part_header op) same.0))

grouped : (mark part others : List Item) (x : List ℕ) → bytes_of (mark ++ (part ++ others)) ++ x ≡ bytes_of mark ++ (bytes_of part ++ (bytes_of others ++ x))
grouped mark part others x =
    ap (λ (b : List ℕ). b ++ x) (bytes_both mark (part ++ others)) ∙ append_assoc (bytes_of mark) (bytes_of (part ++ others)) x
    ∙ ap (λ (b : List ℕ). bytes_of mark ++ b) (ap (λ (b : List ℕ). b ++ x) (bytes_both part others) ∙ append_assoc (bytes_of part) (bytes_of others) x)

pub multi_only : {a b : List Item} → IsMulti a → IsMulti b → (x y : List ℕ) → bytes_of a ++ x ≡ bytes_of b ++ y → (a ≡ b) × (x ≡ y)
multi_only no_more no_more x y e = bytes_only multi_header.layout (marked end_header) (marked end_header) x y end_mark end_mark e
multi_only no_more (a_part op part others v m) x y e = absurd (parts_apart op part others x y e)
multi_only (a_part op part others v m) no_more x y e = absurd (parts_apart op part others y x (sym e))
multi_only (a_part op part others v m) (a_part po trap more w k) x y e =
    let mark = marked (part_header op) in
    let kram = marked (part_header po) in
    let same = bytes_only multi_header.layout mark kram (bytes_of part ++ (bytes_of others ++ x)) (bytes_of trap ++ (bytes_of more ++ y)) (part_mark op) (part_mark po) (sym (grouped mark part others x) ∙ e ∙ grouped kram trap more y) in
    let ops : po ≡ op = sym (op_same op po (mark_same (part_header op) (part_header po) same.0)) in
    let u : IsValueOf (part_layout op) trap = subst (λ (o : PartOp). IsValueOf (part_layout o) trap) ops w in
    let inside = bytes_only (part_layout op) part trap (bytes_of others ++ x) (bytes_of more ++ y) v u same.1 in
    let rest = multi_only m k x y inside.1 in
    (ap (λ (i : List Item). i ++ (part ++ others)) same.0 ∙ ap (λ (i : List Item). kram ++ (i ++ others)) inside.0 ∙ ap (λ (i : List Item). kram ++ (trap ++ i)) rest.0, rest.1)

-- ---- parts are told apart

pub record_same : (p q : Part) → op_of_part p ≡ op_of_part q → record_of p ≡ record_of q → p ≡ q
record_same p q same e =
    let r = part_row (op_of_part p) in
    let x = part_made p in
    let y : IsMade (op_of_part p) q = subst (λ (op : PartOp). IsMade op q) (sym same) (part_made q) in
    sym x.1 ∙ ap r.make (r.wired.tells_apart x.0 y.0 (x.2 ∙ e ∙ sym y.2)) ∙ y.1

regroup : (p : Part) (ps : List Part) → multi_items (p ∷ ps) ≡ marked (part_header (op_of_part p)) ++ (record_of p ++ multi_items ps)
regroup p ps = append_assoc (part_items p) (flat_map part_items ps) (marked end_header) ∙ append_assoc (marked (part_header (op_of_part p))) (record_of p) (multi_items ps)

pub multi_apart : (ps qs : List Part) → multi_items ps ≡ multi_items qs → ps ≡ qs
multi_apart [] [] e = refl
multi_apart [] (q ∷ qs) e =
    let mark = marked (part_header (op_of_part q)) in
    let same = unfolds_only multi_header.layout (marked end_header) mark [] (record_of q ++ multi_items qs) (multi_header.unfolds end_header) (multi_header.unfolds (part_header (op_of_part q))) (append-nil (marked end_header) ∙ e ∙ regroup q qs) in
    absurd (not_end (op_of_part q) (sym (mark_same end_header (part_header (op_of_part q)) same.0)))
multi_apart (p ∷ ps) [] e =
    let mark = marked (part_header (op_of_part p)) in
    let same = unfolds_only multi_header.layout (marked end_header) mark [] (record_of p ++ multi_items ps) (multi_header.unfolds end_header) (multi_header.unfolds (part_header (op_of_part p))) (append-nil (marked end_header) ∙ sym e ∙ regroup p ps) in
    absurd (not_end (op_of_part p) (sym (mark_same end_header (part_header (op_of_part p)) same.0)))
multi_apart (p ∷ ps) (q ∷ qs) e =
    let a = part_header (op_of_part p) in
    let b = part_header (op_of_part q) in
    let same = unfolds_only multi_header.layout (marked a) (marked b) (record_of p ++ multi_items ps) (record_of q ++ multi_items qs) (multi_header.unfolds a) (multi_header.unfolds b) (sym (regroup p ps) ∙ e ∙ regroup q qs) in
    let ops : op_of_part p ≡ op_of_part q = op_same (op_of_part p) (op_of_part q) (mark_same a b same.0) in
    let u : Unfolds (part_layout (op_of_part p)) (record_of q) = subst (λ (o : PartOp). Unfolds (part_layout o) (record_of q)) (sym ops) (record_is q) in
    let inside = unfolds_only (part_layout (op_of_part p)) (record_of p) (record_of q) (multi_items ps) (multi_items qs) (record_is p) u same.1 in
    ap (λ (z : Part). z ∷ ps) (record_same p q ops inside.0) ∙ ap (λ (zs : List Part). q ∷ zs) (multi_apart ps qs inside.1)
