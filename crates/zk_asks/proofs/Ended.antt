-- Values that are known to stand before an end marker; each begins with a header.
use Rattle.std.proofs.Common.{◌≡◌, ℕ, ◌+◌, ◌≤◌, List, [], ◌∷◌, length, drop, Ok, Err, refl, sym, ap, ap₂, subst, ◌∙◌, append_assoc, arith}
use Rattle.std.specs.List.{flat_map}
use Rattle.std.proofs.lemmas.List.{length-append}
use Rattle.zk_jute.specs.{Item.Item, Item.bytes_of, Item.HaveBytes, Reading.Read, Told.StandsAt, Standing.OneStands, Shown.AreTold, Shown.AreThere, Shown.Stretch, Shown.values_at}
use Rattle.zk_jute.proofs.{Layouts.bytes_only, Layouts.bytes_both, Layouts.have_both, Layouts.have_parts, Sequels.stands_then, Stretches.stands_split, Stretches.values_told, Stretches.values_counted}
use Rattle.zk_records.specs.{Records.multi_header, declared.header.MultiHeader.MultiHeader}
use Rattle.zk_asks.specs.{Multi.AreHeaded, Parts.end_header, Parts.marked, Parts.ended}
use Rattle.zk_asks.proofs.{Knowing.IsThe, Parted.end_bytes, Parted.end_mark, Parted.mark_same, Parted.nine}

module _ {X : Type 0} (items : X → List Item) (src : List ℕ) where
  module _ (place : ℕ) (le : place ≤ length src) where
    -- the place behind this one
    abbrev pub behind : X → ℕ
    behind x = place + length (bytes_of (items x))

    first_of : (x : X) (xs : List X) (end : ℕ) → HaveBytes (ended items (x ∷ xs)) → StandsAt (ended items (x ∷ xs)) src place end
        → (HaveBytes (items x) × StandsAt (items x) src place (behind x)) × (HaveBytes (ended items xs) × StandsAt (ended items xs) src (behind x) end) × (behind x ≤ length src)
    first_of x xs end have stands =
        let all = append_assoc (items x) (flat_map items xs) (marked end_header) in
        let h = have_parts (items x) (ended items xs) (subst HaveBytes all have) in
        let s = stands_split (items x) (ended items xs) src place end le (subst (λ (i : List Item). StandsAt i src place end) all stands) in
        ((h.0, s.0), (h.1, s.1), s.2)

    module _ (headed : AreHeaded items) where
      mark_of : (x : X) → HaveBytes (items x) → StandsAt (items x) src place (behind x) → HaveBytes (marked (headed x).0) × StandsAt (marked (headed x).0) src place (place + length (bytes_of (marked (headed x).0)))
      mark_of x have stands =
          let h = headed x in (
            (have_parts (marked h.0) h.1 (subst HaveBytes h.2 have)).0,
            (stands_split (marked h.0) h.1 src place (behind x) le (subst (λ (i : List Item). StandsAt i src place (behind x)) h.2 stands)).0,
          )

      mark_there : (xs : List X) (end : ℕ) → HaveBytes (ended items xs) → StandsAt (ended items xs) src place end → OneStands multi_header.items src place
      mark_there [] end have stands = (end_header, end, have, stands)
      mark_there (x ∷ xs) end have stands =
          let f = first_of x xs end have stands in
          let m = mark_of x f.0.0 f.0.1 in
          ((headed x).0, place + length (bytes_of (marked (headed x).0)), m.0, m.1)

      pub mark_left : OneStands (ended items) src place → OneStands multi_header.items src place
      mark_left s = mark_there s.0 s.1 s.2 s.3

      module _ (y : MultiHeader × ℕ) (is : IsThe marked src place y) where
        -- the next value, and those behind it
        abbrev pub IsNext : X → Type 0
        IsNext x = HaveBytes (items x) × StandsAt (items x) src place (behind x) × OneStands (ended items) src (behind x) × (behind x ≤ length src) × (place + 9 ≤ behind x)

        next_of : (y.0 ≡ end_header → ⊥) → (xs : List X) (end : ℕ) → HaveBytes (ended items xs) → StandsAt (ended items xs) src place end → (x : X) × IsNext x
        next_of not [] end have stands = absurd (not (ap (λ (z : MultiHeader × ℕ). z.0) (is end_header end have stands)))
        next_of not (x ∷ xs) end have stands =
            let f = first_of x xs end have stands in
            let h = headed x in
            let long = ap length (ap bytes_of h.2 ∙ bytes_both (marked h.0) h.1) in
            let far : place + 9 ≤ behind x = omega (arith, long, nine h.0, length-append (bytes_of (marked h.0)) (bytes_of h.1)) in
            (x, (f.0.0, f.0.1, (xs, end, f.1.0, f.1.1), f.2, far))

        pub next_is : (y.0 ≡ end_header → ⊥) → OneStands (ended items) src place → (x : X) × IsNext x
        next_is not s = next_of not s.0 s.1 s.2 s.3

        end_of : y.0 ≡ end_header → (xs : List X) (end : ℕ) → HaveBytes (ended items xs) → StandsAt (ended items xs) src place end → (end : ℕ) × StandsAt (marked end_header) src place end
        end_of e [] end have stands = (end, stands)
        end_of e (x ∷ xs) end have stands =
            let f = first_of x xs end have stands in
            let m = mark_of x f.0.0 f.0.1 in
            let header = is (headed x).0 (place + length (bytes_of (marked (headed x).0))) m.0 m.1 in
            absurd ((headed x).3 (sym (ap (λ (z : MultiHeader × ℕ). z.0) header) ∙ e))

        pub end_is : y.0 ≡ end_header → OneStands (ended items) src place → (end : ℕ) × StandsAt (marked end_header) src place end
        end_is e s = end_of e s.0 s.1 s.2 s.3

  -- those that were passed are told
  module _ (headed : AreHeaded items) (at : ℕ → Read X) (told : AreTold items at src) where
    pub all_told : (place here count : ℕ) → place ≤ length src → Stretch items src place here count → AreThere items at src count place
    all_told place here count le passed = ((le, here, passed), values_counted items src at told count place (le, here, passed))

    abbrev Ended : List X → ℕ → ℕ → Type 0
    Ended xs place end = HaveBytes (ended items xs) × StandsAt (ended items xs) src place end

    no_end : (x : X) (xs : List X) (place e f : ℕ) → place ≤ length src → Ended [] place e → Ended (x ∷ xs) place f → ⊥
    no_end x xs place e f le none some =
        let first = first_of place le x xs f some.0 some.1 in
        let m = mark_of place le headed x first.0.0 first.0.1 in
        let h = (headed x).0 in
        let same = bytes_only multi_header.layout (marked h) (marked end_header) (drop (place + length (bytes_of (marked h))) src) (drop e src) (multi_header.unfolds h, m.0) end_mark (sym m.1.0 ∙ none.1.0) in
        (headed x).3 (mark_same h end_header same.0)

    abbrev one_of : X × ℕ → Read X → X × ℕ
    one_of other (Ok x) = x
    one_of other (Err e) = other

    -- those that stand before an end marker are the same
    same : (xs ys : List X) (place e f : ℕ) → place ≤ length src → Ended xs place e → Ended ys place f → xs ≡ ys
    same [] [] place e f le a b = refl
    same [] (y ∷ ys) place e f le a b = absurd (no_end y ys place e f le a b)
    same (x ∷ xs) [] place e f le a b = absurd (no_end x xs place f e le b a)
    same (x ∷ xs) (y ∷ ys) place e f le a b =
        let p = first_of place le x xs e a.0 a.1 in
        let q = first_of place le y ys f b.0 b.1 in
        let one : ◌≡◌ {A = X × ℕ} (x, behind place le x) (y, behind place le y) = ap (one_of (x, 0)) (sym (told x place (behind place le x) le p.0.0 p.0.1) ∙ told y place (behind place le y) le q.0.0 q.0.1) in
        let ends : behind place le x ≡ behind place le y = ap (λ (z : X × ℕ). z.1) one in
        let others = same xs ys (behind place le x) e f p.2 p.1 (q.1.0, subst (λ (n : ℕ). StandsAt (ended items ys) src n f) (sym ends) q.1.1) in
        ap₂ (λ z zs. z ∷ zs) (ap (λ (z : X × ℕ). z.0) one) others

    pub all_passed : (place here count end : ℕ) (le : place ≤ length src) → Stretch items src place here count → StandsAt (marked end_header) src here end → (ys : List X) (f : ℕ) → Ended ys place f → values_at at count place ≡ ys
    all_passed place here count end le passed stands ys f b =
        let xs = passed.values in
        let both : Ended xs place end = (have_both (flat_map items xs) (marked end_header) passed.have end_bytes, stands_then (flat_map items xs) (marked end_header) src place here end passed.stands stands) in
        values_told items src at told place here count le passed ∙ same xs ys place end f le both b
