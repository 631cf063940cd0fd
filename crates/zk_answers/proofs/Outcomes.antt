-- Results of a multi: what the reader refuses.
use Rattle.std.proofs.Common.{◌≡◌, ℕ, ◌+◌, ◌≤◌, inl, inr, List, [], ◌∷◌, ◌++◌, length, drop, take, Some, refl, sym, ap, subst, ◌∙◌, append_assoc, arith}
use Rattle.std.specs.Prelude.{ℤ, ◌≢◌}
use Rattle.std.specs.List.{flat_map, slice_get}
use Rattle.std.proofs.lemmas.List.{append-nil, length-append, take-append-drop, length-drop, drop_more, take_more}
use Rattle.std.proofs.lemmas.Option.{slice_get_within, get_or_from_slice_get}
use Rattle.zk_jute.specs.{declared.fault.ItemFault.ItemFault, declared.fault.Reason.Reason, declared.fault.Reason.TheVariants.BadPart, Item.Int, Item.Item, Item.AnInt, Item.bytes_of, Item.HaveBytes, Layout.End, Layout.One, Layout.IsValueOf}
use Rattle.zk_jute.specs.{Faults.IsFault, Reading.told_place, Told.StandsAt, Told.IsToldFault, Told.IsToldAt}
use Rattle.zk_jute.proofs.{Layouts.bytes_both, Layouts.have_both, Layouts.have_parts, Sequels.stands_then}
use Rattle.zk_records.specs.{declared.header.MultiHeader.MultiHeader, declared.op.PartOp.PartOp, Records.multi_header}
use Rattle.zk_answers.specs.Held.{PartDone}
use Rattle.zk_asks.specs.Parts.{marked}
use Rattle.zk_asks.proofs.Parts.{told_behind, told_bad}
use Rattle.zk_answers.proofs.Dones.{result_items, result_is, items_of, done_is}
use Rattle.zk_answers.specs.Results.{result_header, error_header, result_layout, done_items, Answers, AnswerAll, MayAnswer, IsDoneFault, in_mark, bad_mark, in_result, in_error, other_error, behind_result, behind_error}

pub result_mark : (ops : List PartOp) (src : List ℕ) (place : ℕ) (e : ItemFault) → IsToldFault (IsValueOf multi_header.layout) src place e → IsToldAt (IsDoneFault ops) src place e
unfolding IsToldAt
result_mark ops src place e h = elim h [ inl m ↦ inl m | inr f ↦ inr (f.0, in_mark ops (drop place src) f.0 e.reason f.1, f.2) ]

pub result_bad : (ops : List PartOp) (src : List ℕ) (place after : ℕ) (header : MultiHeader) → IsValueOf multi_header.layout (marked header) → StandsAt (marked header) src place after → (MayAnswer ops header → ⊥)
    → IsToldAt (IsDoneFault ops) src place (record { place = told_place place; reason = BadPart })
result_bad ops src place after header v s not = told_bad (IsDoneFault ops) src place (bad_mark ops (drop place src) (drop after src) header v.1 s.0 not)

pub result_inside : (op : PartOp) (ops : List PartOp) (src : List ℕ) (place after : ℕ) (header : MultiHeader) (e : ItemFault) → StandsAt (marked header) src place after → header ≡ result_header op
    → IsToldFault (IsValueOf (result_layout op)) src after e → IsToldAt (IsDoneFault (op ∷ ops)) src place e
unfolding IsToldAt
result_inside op ops src place after header e s is h =
    let t : StandsAt (marked (result_header op)) src place after = subst (λ (x : MultiHeader). StandsAt (marked x) src place after) is s in
    told_behind (IsFault (IsValueOf (result_layout op))) (IsDoneFault (op ∷ ops)) (marked (result_header op)) src place after e t (λ q. in_result op ops (drop place src) (drop after src) q e.reason) h

pub error_inside : (op : PartOp) (ops : List PartOp) (src : List ℕ) (place after : ℕ) (header : MultiHeader) (number : ℤ) (e : ItemFault) → HaveBytes (marked header) → StandsAt (marked header) src place after → header ≡ error_header number
    → IsToldFault (IsValueOf (One Int End)) src after e → IsToldAt (IsDoneFault (op ∷ ops)) src place e
unfolding IsToldAt
error_inside op ops src place after header number e have s is h =
    let t : StandsAt (marked (error_header number)) src place after = subst (λ (x : MultiHeader). StandsAt (marked x) src place after) is s in
    let has : HaveBytes (marked (error_header number)) = subst (λ (x : MultiHeader). HaveBytes (marked x)) is have in
    told_behind (IsFault (IsValueOf (One Int End))) (IsDoneFault (op ∷ ops)) (marked (error_header number)) src place after e t (λ q. in_error op ops number (drop place src) (drop after src) q e.reason has) h

pub error_differs : (op : PartOp) (ops : List PartOp) (src : List ℕ) (place after end : ℕ) (header : MultiHeader) (number other : ℤ) → HaveBytes (marked header) → StandsAt (marked header) src place after → header ≡ error_header number
    → HaveBytes (AnInt other ∷ []) → StandsAt (AnInt other ∷ []) src after end → other ≢ number → IsToldAt (IsDoneFault (op ∷ ops)) src place (record { place = told_place place; reason = BadPart })
error_differs op ops src place after end header number other have s is has t not =
    let u : StandsAt (marked (error_header number)) src place after = subst (λ (x : MultiHeader). StandsAt (marked x) src place after) is s in
    let head : HaveBytes (marked (error_header number)) = subst (λ (x : MultiHeader). HaveBytes (marked x)) is have in
    let both = stands_then (marked (error_header number)) (AnInt other ∷ []) src place after end u t in
    told_bad (IsDoneFault (op ∷ ops)) src place (other_error op ops number other (drop place src) (drop end src) (have_both (marked (error_header number)) (AnInt other ∷ []) head has) both.0 not)

-- ---- results so far

abbrev pub results_items : List PartDone → List Item
results_items ds = flat_map done_items ds

behind_done : (op : PartOp) (ops : List PartOp) (d : PartDone) (bytes rest : List ℕ) (behind : ℕ) (reason : Reason) → Answers op d → HaveBytes (done_items d) → bytes ≡ bytes_of (done_items d) ++ rest → IsDoneFault ops rest behind reason
    → IsDoneFault (op ∷ ops) bytes (length (bytes_of (done_items d)) + behind) reason
behind_done op ops d bytes rest behind reason answers have e f =
    elim (done_is op d answers) [
      | inl x ↦
          let is : done_items d ≡ marked (result_header op) ++ result_items op x.0 = ap done_items x.1 ∙ items_of op x.0 in
          let h = have_parts (marked (result_header op)) (result_items op x.0) (subst HaveBytes is have) in
          subst (λ (i : List Item). IsDoneFault (op ∷ ops) bytes (length (bytes_of i) + behind) reason) (sym is)
          (behind_result op ops (result_items op x.0) bytes rest behind reason (result_is op x.0, h.1) (e ∙ ap (λ (i : List Item). bytes_of i ++ rest) is) f)
      | inr x ↦
          let is : done_items d ≡ marked (error_header x.0) ++ (AnInt x.0 ∷ []) = ap done_items x.1 in
          subst (λ (i : List Item). IsDoneFault (op ∷ ops) bytes (length (bytes_of i) + behind) reason) (sym is)
          (behind_error op ops x.0 bytes rest behind reason (subst HaveBytes is have) (e ∙ ap (λ (i : List Item). bytes_of i ++ rest) is) f)
    ]

past : (a b : List PartOp) (ds : List PartDone) (rest : List ℕ) (behind : ℕ) (reason : Reason) → AnswerAll a ds → HaveBytes (results_items ds) → IsDoneFault b rest behind reason
    → IsDoneFault (a ++ b) (bytes_of (results_items ds) ++ rest) (length (bytes_of (results_items ds)) + behind) reason
past [] b [] rest behind reason all have f = let same : 0 + behind ≡ behind = omega arith in subst (λ (p : ℕ). IsDoneFault b rest p reason) (sym same) f
past [] b (d ∷ ds) rest behind reason all have f = absurd all
past (op ∷ a) b [] rest behind reason all have f = absurd all
past (op ∷ a) b (d ∷ ds) rest behind reason all have f =
    let one = done_items d in
    let others = results_items ds in
    let h = have_parts one others have in
    let later = past a b ds rest behind reason all.1 h.1 f in
    let split : bytes_of (one ++ others) ++ rest ≡ bytes_of one ++ (bytes_of others ++ rest) = ap (λ (x : List ℕ). x ++ rest) (bytes_both one others) ∙ append_assoc (bytes_of one) (bytes_of others) rest in
    let place : length (bytes_of one) + (length (bytes_of others) + behind) ≡ length (bytes_of (one ++ others)) + behind = omega (arith, ap length (bytes_both one others), length-append (bytes_of one) (bytes_of others)) in
    subst (λ (n : ℕ). IsDoneFault (op ∷ (a ++ b)) (bytes_of (one ++ others) ++ rest) n reason) place
    (behind_done op (a ++ b) d (bytes_of (one ++ others) ++ rest) (bytes_of others ++ rest) (length (bytes_of others) + behind) reason all.0 h.0 split later)

result_past : (a b : List PartOp) (ds : List PartDone) (src : List ℕ) (place at : ℕ) → AnswerAll a ds → HaveBytes (results_items ds) → StandsAt (results_items ds) src place at
    → (e : ItemFault) → IsToldAt (IsDoneFault b) src at e → IsToldAt (IsDoneFault (a ++ b)) src place e
unfolding IsToldAt
result_past a b ds src place at all have stands e h =
    elim h [
      | inl m ↦ inl m
      | inr f ↦
          let done = bytes_of (results_items ds) in
          let x = stands.1 in
          let told : at + f.0 ≡ place + (length done + f.0) = omega arith in
          inr (length done + f.0, subst (λ (z : List ℕ). IsDoneFault (a ++ b) z (length done + f.0) e.reason) (sym stands.0) (past a b ds (drop at src) f.0 e.reason all have f.1), f.2 ∙ ap told_place told)
    ]

pub loop_fault : (ops : List PartOp) (i : ℕ) (ds : List PartDone) (src : List ℕ) (place at : ℕ) → AnswerAll (take i ops) ds → HaveBytes (results_items ds) → StandsAt (results_items ds) src place at
    → (e : ItemFault) → IsToldAt (IsDoneFault (drop i ops)) src at e → IsToldAt (IsDoneFault ops) src place e
loop_fault ops i ds src place at all have stands e h = subst (λ (o : List PartOp). IsToldAt (IsDoneFault o) src place e) (take-append-drop i ops) (result_past (take i ops) (drop i ops) ds src place at all have stands e h)

none : (ops : List PartOp) → length ops ≤ 0 → ops ≡ []
none [] le = refl
none (o ∷ ops) le = absurd (omega arith)

pub drop_all : (ops : List PartOp) (i : ℕ) → length ops ≤ i → drop i ops ≡ []
drop_all ops i le = none (drop i ops) (omega (arith, length-drop i ops))

pub take_all : (ops : List PartOp) (i : ℕ) → length ops ≤ i → take i ops ≡ ops
take_all ops i le = sym (append-nil (take i ops)) ∙ ap (λ (o : List PartOp). take i ops ++ o) (sym (drop_all ops i le)) ∙ take-append-drop i ops

pub answers_push : (a : List PartOp) (op : PartOp) (ds : List PartDone) (d : PartDone) → AnswerAll a ds → Answers op d → AnswerAll (a ++ op ∷ []) (ds ++ d ∷ [])
answers_push [] op [] d all one = (one, tt)
answers_push [] op (e ∷ ds) d all one = absurd all
answers_push (o ∷ a) op [] d all one = absurd all
answers_push (o ∷ a) op (e ∷ ds) d all one = (all.0, answers_push a op ds d all.1 one)

-- ---- the part at an index

pub drop_some : (ops : List PartOp) (i : ℕ) (op : PartOp) → slice_get ops i ≡ Some op → drop i ops ≡ op ∷ drop (i + 1) ops
drop_some ops i op e = drop_more ops i op (slice_get_within ops i op e) ∙ ap (λ (o : PartOp). o ∷ drop (i + 1) ops) (get_or_from_slice_get ops i op op e)

pub take_some : (ops : List PartOp) (i : ℕ) (op : PartOp) → slice_get ops i ≡ Some op → take (i + 1) ops ≡ take i ops ++ op ∷ []
take_some ops i op e = take_more ops i op (slice_get_within ops i op e) ∙ ap (λ (o : PartOp). take i ops ++ o ∷ []) (get_or_from_slice_get ops i op op e)
