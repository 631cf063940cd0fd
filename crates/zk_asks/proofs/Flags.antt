-- The fault of a value that one boolean may follow, over its openings, is the one of the reader's cases.
use Rattle.std.proofs.Common.{◌≡◌, ℕ, ◌+◌, inl, inr, false, List, [], ◌∷◌, ◌++◌, length, refl, sym, ap, subst, ◌∙◌, append_assoc, arith}
use Rattle.std.specs.Prelude.{◌≢◌}
use Rattle.std.proofs.lemmas.List.{append-nil, length-append}
use Rattle.zk_jute.specs.{declared.fault.Reason.Reason, declared.fault.Reason.TheVariants.Trailing, Item.Item, Item.ABoolean, Item.bytes_of, Layout.Layout, Layout.IsValueOf, Apart.unfolds_only, Faults.IsFault}
use Rattle.zk_jute.specs.Flagged.{flag_layout, IsFlaggedFault, in_value, in_flag, behind_flag, IsWithFlag, IsFlaggedOpeningFault, of_either, of_left}
use Rattle.zk_jute.proofs.{Layouts.bytes_only, Layouts.bytes_both, Sequels.excluded}
use Rattle.zk_asks.proofs.Openings.{cut, next_follows, goes_on, behind_front}

a_flag : List Item
a_flag = ABoolean false ∷ []

a_flag_is : IsValueOf flag_layout a_flag
unfolding a_flag
a_flag_is = ((ABoolean false, [], refl, refl, refl), (tt, tt))

pub flagged_opened : (l : Layout) {bytes : List ℕ} {p : ℕ} {r : Reason} → IsFlaggedFault l bytes p r → IsFlaggedOpeningFault l bytes p r
flagged_opened l (in_value bytes p r f) =
    let same : 0 + p ≡ p = omega arith in
    of_either bytes p r
    (λ value v e. excluded l value bytes [] p r v (e ∙ sym (append-nil (bytes_of value))) f)
    (subst (λ (q : ℕ). IsFault (IsWithFlag l) bytes q r) same
    (behind_front (IsValueOf l) (IsWithFlag l) [] bytes bytes p r refl
    (λ o m k v next. ((m ++ a_flag, (o ++ m, a_flag, v, a_flag_is, sym (append_assoc o m a_flag))), λ more w. next_follows l o m k v next w.0 w.1 more w.2 w.4))
    f))
flagged_opened l (in_flag bytes rest value q r v e some f) =
    of_either bytes (length (bytes_of value) + q) r
    (λ other w same. let one = bytes_only l value other rest [] v w (sym e ∙ same ∙ sym (append-nil (bytes_of other))) in some one.1)
    (behind_front (IsValueOf flag_layout) (IsWithFlag l) value bytes rest q r e
    (λ o m k w next. (
      (m, (value, o ++ m, v, w, append_assoc value o m)),
      λ more u.
          let same = unfolds_only l value u.0 (o ++ more) u.1 v.0 u.2.0 (sym (append_assoc value o more) ∙ u.4) in
          next more (subst (IsValueOf flag_layout) (sym same.1) u.3),
    ))
    f)
flagged_opened l (behind_flag bytes rest value flag v w e some) = of_left bytes (length (bytes_of (value ++ flag))) (record { whole = value ++ flag; rest = rest; value = (value, flag, v, w, refl); splits = e; some = some; at = refl })

pub flagged_cased : (l : Layout) {bytes : List ℕ} {p : ℕ} {r : Reason} → IsFlaggedOpeningFault l bytes p r → IsFlaggedFault l bytes p r
flagged_cased l (of_either bytes p r not f) =
    let o = f.opening in
    let more = f.begins.0 in
    let b = f.begins.1 in
    let value = b.0 in
    let flag = b.1 in
    let at = f.at in
    elim (cut o more value flag b.4) [
      | inl c ↦ in_value bytes p r (record {
        opening = o;
        rest = f.rest;
        begins = (c.0 ∷ c.1, subst (IsValueOf l) c.2 b.2);
        splits = f.splits;
        next = f.next;
        is_next = λ x w. goes_on l o c.0 c.1 x flag f.next (subst (IsValueOf l) c.2 b.2) w (f.is_next (x ++ flag) (o ++ x, flag, w, b.3, sym (append_assoc o x flag)));
        behind = f.behind;
        bad = f.bad;
        at = f.at;
      })
      | inr c ↦
          let m = c.0 in
          let rest : List ℕ = bytes_of m ++ f.rest in
          let split : bytes ≡ bytes_of value ++ rest = f.splits ∙ ap (λ (x : List Item). bytes_of x ++ f.rest) c.1 ∙ ap (λ (x : List ℕ). x ++ f.rest) (bytes_both value m) ∙ append_assoc (bytes_of value) (bytes_of m) f.rest in
          let place : length (bytes_of value) + (length (bytes_of m) + f.behind) ≡ p = omega (arith, ap (λ (x : List Item). length (bytes_of x)) c.1, ap length (bytes_both value m), length-append (bytes_of value) (bytes_of m)) in
          let some : rest ≢ [] = λ none. not value b.2 (split ∙ ap (λ (x : List ℕ). bytes_of value ++ x) none ∙ append-nil (bytes_of value)) in
          subst (λ (q : ℕ). IsFlaggedFault l bytes q r) place
          (in_flag bytes rest value (length (bytes_of m) + f.behind) r b.2 split some (record {
            opening = m;
            rest = f.rest;
            begins = (more, subst (IsValueOf flag_layout) c.2 b.3);
            splits = refl;
            next = f.next;
            is_next = λ x w. f.is_next x (value, m ++ x, b.2, w, ap (λ (y : List Item). y ++ x) c.1 ∙ append_assoc value m x);
            behind = f.behind;
            bad = f.bad;
            at = refl;
          }))
    ]
flagged_cased l (of_left bytes p t) =
    let b = t.value in
    let split : bytes ≡ bytes_of (b.0 ++ b.1) ++ t.rest = t.splits ∙ ap (λ (x : List Item). bytes_of x ++ t.rest) b.4 in
    let place : length (bytes_of (b.0 ++ b.1)) ≡ p = sym (t.at ∙ ap (λ (x : List Item). length (bytes_of x)) b.4) in
    subst (λ (q : ℕ). IsFlaggedFault l bytes q Trailing) place (behind_flag bytes t.rest b.0 b.1 b.2 b.3 split t.some)
