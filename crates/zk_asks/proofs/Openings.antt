-- Openings of values that stand one behind the other.
use Rattle.std.proofs.Common.{◌≡◌, ℕ, ◌+◌, ◌⊎◌, inl, inr, List, [], ◌∷◌, ◌++◌, length, Ok, refl, sym, ap, subst, ◌∙◌, append_assoc, arith}
use Rattle.std.proofs.lemmas.List.{append-nil, length-append, append_cancel_left}
use Rattle.zk_jute.specs.{declared.fault.Reason.Reason, Layout.Layout, Layout.IsValueOf, Apart.cons_is, Apart.unfolds_only, Faults.Begins, Faults.IsNext, Faults.IsBad, Faults.IsFault, Reading.Read}
use Rattle.zk_jute.specs.Item.{Kind, Item, kind_of, item_bytes, bytes_of, HasBytes, HaveBytes}
use Rattle.zk_jute.proofs.{Primitives.item_again, Unique.err, Unique.bad_again, Layouts.bytes_both, Layouts.have_parts}

-- an opening ends within the front, or goes past it
pub cut : {A : Type 0} (o more front body : List A) → o ++ more ≡ front ++ body
    → ((i : A) × (m : List A) × (front ≡ o ++ (i ∷ m)) × (more ≡ i ∷ (m ++ body))) ⊎ ((m : List A) × (o ≡ front ++ m) × (body ≡ m ++ more))
cut [] more [] body e = inr ([], refl, sym e)
cut [] more (i ∷ front) body e = inl (i, front, refl, e)
cut (x ∷ o) more [] body e = inr (x ∷ o, refl, sym e)
cut {A} (x ∷ o) more (y ∷ front) body e =
    let head : x ≡ y = cc in
    let tail : o ++ more ≡ front ++ body = cc in
    elim (cut o more front body tail) [
      | inl f ↦ inl (f.0, f.1, ap (λ (z : List A). y ∷ z) f.2 ∙ ap (λ (z : A). z ∷ (o ++ (f.0 ∷ f.1))) (sym head), f.3)
      | inr f ↦ inr (f.0, ap (λ (z : List A). x ∷ z) f.1 ∙ ap (λ (z : A). z ∷ (front ++ f.0)) head, f.2)
    ]

-- where an item stands, none of its kind is bad
pub item_not : (i : Item) (more : List ℕ) (r : Reason) (far : ℕ) → HasBytes i → IsBad (kind_of i) (item_bytes i ++ more) r far → ⊥
item_not i more r far has bad =
    let ok = item_again i (item_bytes i ++ more) more 0 (omega arith) has refl in
    let no = bad_again bad (item_bytes i ++ more) 0 refl in
    let both : ◌≡◌ {A = Read Item} (Ok (i, 0 + length (item_bytes i))) (err (0 + far) r) = sym ok ∙ no in
    absurd cc

abbrev pub NextIs : List Item → Kind → Type 0
NextIs more k = (i : Item) × (others : List Item) × (more ≡ i ∷ others) × (kind_of i ≡ k)

-- what comes next in the values of a layout does so too where more follows them
pub next_follows : (l : Layout) (o m : List Item) (k : Kind) → IsValueOf l (o ++ m) → IsNext (IsValueOf l) o k → (a b more : List Item) → IsValueOf l a → o ++ more ≡ a ++ b → NextIs more k
next_follows l o m k v next a b more w e =
    elim (cut o more a b e) [
      | inl f ↦
          let n = next (f.0 ∷ f.1) (subst (IsValueOf l) f.2 w) in
          let same = cons_is f.0 n.0 f.1 n.1 n.2 in
          (f.0, f.1 ++ b, f.3, ap kind_of same.0 ∙ n.3)
      | inr f ↦
          let g = unfolds_only l (o ++ m) a [] (f.0 ++ m) v.0 w.0 (append-nil (o ++ m) ∙ ap (λ (x : List Item). x ++ m) f.1 ∙ append_assoc a f.0 m) in
          let n = next m v in
          absurd (omega (arith, ap length g.1, length-append f.0 m, ap length n.2))
    ]

-- a fault of what stands behind a front
pub behind_front : (V W : List Item → Type 0) (front : List Item) (bytes rest : List ℕ) (q : ℕ) (r : Reason) → bytes ≡ bytes_of front ++ rest
    → ((o m : List Item) (k : Kind) → V (o ++ m) → IsNext V o k → Begins W (front ++ o) × IsNext W (front ++ o) k) → IsFault V rest q r → IsFault W bytes (length (bytes_of front) + q) r
behind_front V W front bytes rest q r e goes f =
    let g = goes f.opening f.begins.0 f.next f.begins.1 f.is_next in
    let at = f.at in
    record {
      opening = front ++ f.opening;
      rest = f.rest;
      begins = g.0;
      splits = e ∙ ap (λ (b : List ℕ). bytes_of front ++ b) f.splits ∙ sym (append_assoc (bytes_of front) (bytes_of f.opening) f.rest) ∙ ap (λ (b : List ℕ). b ++ f.rest) (sym (bytes_both front f.opening));
      next = f.next;
      is_next = g.1;
      behind = f.behind;
      bad = f.bad;
      at = omega (arith, ap length (bytes_both front f.opening), length-append (bytes_of front) (bytes_of f.opening));
    }

-- a fault of values that begin with a front, where that front stands
pub drop_front : (K : List Item → Type 0) (front : List Item) → HaveBytes front → (bytes rest : List ℕ) (p : ℕ) (r : Reason) → bytes ≡ bytes_of front ++ rest
    → IsFault (λ items. (body : List Item) × K body × (items ≡ front ++ body)) bytes p r → (q : ℕ) × (p ≡ length (bytes_of front) + q) × IsFault K rest q r
drop_front K front have bytes rest p r e f =
    let o = f.opening in
    let b = f.begins.1 in
    elim (cut o f.begins.0 front b.0 b.2) [
      | inl c ↦
          let n = f.is_next f.begins.0 b in
          let same = cons_is c.0 n.0 (c.1 ++ b.0) n.1 (sym c.3 ∙ n.2) in
          let kind : f.next ≡ kind_of c.0 = sym n.3 ∙ ap kind_of (sym same.0) in
          let h = have_parts o (c.0 ∷ c.1) (subst HaveBytes c.2 have) in
          let split : bytes_of front ++ rest ≡ bytes_of o ++ (item_bytes c.0 ++ (bytes_of c.1 ++ rest)) =
          ap (λ (x : List Item). bytes_of x ++ rest) c.2 ∙ ap (λ (x : List ℕ). x ++ rest) (bytes_both o (c.0 ∷ c.1)) ∙ append_assoc (bytes_of o) (bytes_of (c.0 ∷ c.1)) rest
          ∙ ap (λ (x : List ℕ). bytes_of o ++ x) (append_assoc (item_bytes c.0) (bytes_of c.1) rest) in
          let left : f.rest ≡ item_bytes c.0 ++ (bytes_of c.1 ++ rest) = append_cancel_left (bytes_of o) f.rest (item_bytes c.0 ++ (bytes_of c.1 ++ rest)) (sym f.splits ∙ e ∙ split) in
          let one : IsBad (kind_of c.0) f.rest r f.behind = subst (λ (k : Kind). IsBad k f.rest r f.behind) kind f.bad in
          absurd (item_not c.0 (bytes_of c.1 ++ rest) r f.behind h.1.0 (subst (λ (x : List ℕ). IsBad (kind_of c.0) x r f.behind) left one))
      | inr c ↦
          let m = c.0 in
          let at = f.at in
          let split : bytes_of o ++ f.rest ≡ bytes_of front ++ (bytes_of m ++ f.rest) = ap (λ (x : List Item). bytes_of x ++ f.rest) c.1 ∙ ap (λ (x : List ℕ). x ++ f.rest) (bytes_both front m) ∙ append_assoc (bytes_of front) (bytes_of m) f.rest in
          let number : p ≡ length (bytes_of front) + (length (bytes_of m) + f.behind) = omega (arith, ap (λ (x : List Item). length (bytes_of x)) c.1, ap length (bytes_both front m), length-append (bytes_of front) (bytes_of m)) in (
            length (bytes_of m) + f.behind,
            number,
            record {
              opening = m;
              rest = f.rest;
              begins = (f.begins.0, subst K c.2 b.1);
              splits = append_cancel_left (bytes_of front) rest (bytes_of m ++ f.rest) (sym e ∙ f.splits ∙ split);
              next = f.next;
              is_next = λ more k. f.is_next more (m ++ more, k, ap (λ (x : List Item). x ++ more) c.1 ∙ append_assoc front m more);
              behind = f.behind;
              bad = f.bad;
              at = refl;
            },
          )
    ]

-- what comes next in a value that goes on, and in a tail behind it, does so in the value
pub goes_on : (l : Layout) (o : List Item) (i : Item) (m more tail : List Item) (k : Kind) → IsValueOf l (o ++ (i ∷ m)) → IsValueOf l (o ++ more) → NextIs (more ++ tail) k → NextIs more k
goes_on l o i m [] tail k v w n =
    let same = unfolds_only l (o ++ []) (o ++ (i ∷ m)) (i ∷ m) [] w.0 v.0 (ap (λ (x : List Item). x ++ (i ∷ m)) (append-nil o) ∙ sym (append-nil (o ++ (i ∷ m)))) in
    absurd (omega (arith, ap length same.1))
goes_on l o i m (j ∷ more) tail k v w n = let same = cons_is j n.0 (more ++ tail) n.1 n.2 in (j, more, refl, ap kind_of same.0 ∙ n.3)
