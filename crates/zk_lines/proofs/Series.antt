-- Series and lists are read as they are spelled.
use Rattle.std.proofs.Common.{◌≡◌, ℕ, suc, ◌<◌, List, [], ◌∷◌, ◌++◌, length, Option, Some, None, Bool, true, refl, ap, sym, subst, ◌∙◌, append_assoc, cond, arith, ne_eqb, length-append}
use Rattle.std.specs.Prelude.{codes, ◌≢◌}
use Rattle.std.specs.List.{flat_map, AllByRecursion}
use Rattle.zk_jute.specs.Held.{Vector}
use Rattle.zk_jute.specs.declared.value.Nullable.TheVariants as nullable
use Rattle.zk_items.specs.Form.{Form, Read, ◌>>=◌, read_map, stops, word_at}
use Rattle.zk_lines.specs.Series.{series, series_at, series_spell, element_at, if_passed, list_of, list_at, list_spell, list_fits}
use Rattle.zk_items.specs.{Many.many_at, Many.with_first, Laws.Lawful}
use Rattle.zk_items.proofs.{Forms.bind_some, Forms.some_is, Forms.word_again, Forms.word_sound, Many.many_again, Many.many_sound}

-- no value's spelling begins with the sign
abbrev pub NeverBegins : {X : Type 0} → Form X → ℕ → Type 0
NeverBegins {X} f close = (x : X) (rest : List ℕ) → f.fits x → word_at (close ∷ []) (f.spell x ++ rest) ≡ None

other_word : (c d : ℕ) (rest : List ℕ) → c ≢ d → word_at (c ∷ []) (d ∷ rest) ≡ None
unfolding word_at
other_word c d rest h = ap (λ (t : Bool). cond t (Some rest) None) (ne_eqb c d h)

module _ {X : Type 0} (sep close : ℕ) (apart : close ≢ sep) (parts : (rest : List ℕ) → stops (sep ∷ rest) ≡ true) (ends : (rest : List ℕ) → stops (close ∷ rest) ≡ true) (f : Form X) (is : Lawful f) (begins : NeverBegins f close) where
  -- what the loop reads for an element
  abbrev piece : X → List ℕ
  piece x = sep ∷ f.spell x

  element_again : (x : X) (rest : List ℕ) → f.fits x → stops rest ≡ true → element_at sep close f.at (piece x ++ rest) ≡ Some (Some x, rest)
  unfolding element_at
  element_again x rest fit stop =
      ap (λ (o : Option (List ℕ)). if_passed {A = Option X × List ℕ} o (λ rest. Some (None, rest)) (word_at (sep ∷ []) (piece x ++ rest) >>= λ rest. f.at rest >>= λ q. Some (Some q.0, q.1))) (other_word close sep (f.spell x ++ rest) apart)
      ∙ ap (λ (o : Option (List ℕ)). o >>= λ rest. f.at rest >>= λ q. Some (Some q.0, q.1)) (word_again (sep ∷ []) (f.spell x ++ rest))
      ∙ ap (λ (r : Read X). r >>= λ q. Some (Some q.0, q.1)) (is.again x rest fit stop)

  element_end : (rest : List ℕ) → element_at sep close f.at (close ∷ rest) ≡ Some (None, rest)
  unfolding element_at
  element_end rest = ap (λ (o : Option (List ℕ)). if_passed {A = Option X × List ℕ} o (λ rest. Some (None, rest)) (word_at (sep ∷ []) (close ∷ rest) >>= λ rest. f.at rest >>= λ q. Some (Some q.0, q.1))) (word_again (close ∷ []) rest)

  element_sound : (bytes : List ℕ) (x : X) (rest : List ℕ) → element_at sep close f.at bytes ≡ Some (Some x, rest) → (bytes ≡ piece x ++ rest) × f.fits x
  unfolding element_at
  element_sound bytes x rest e = pick (word_at (close ∷ []) bytes) e where
    pick : (o : Option (List ℕ)) → if_passed {A = Option X × List ℕ} o (λ rest. Some (None, rest)) (word_at (sep ∷ []) bytes >>= λ rest. f.at rest >>= λ q. Some (Some q.0, q.1)) ≡ Some (Some x, rest) → (bytes ≡ piece x ++ rest) × f.fits x
    pick (Some behind) e = let h = some_is (None, behind) (Some x, rest) e in let k = h.0 in absurd cc
    pick None e =
        let a = bind_some (word_at (sep ∷ []) bytes) (λ rest. f.at rest >>= λ q. Some (Some q.0, q.1)) (Some x, rest) e in
        let b = bind_some (f.at a.0) (λ q. Some (Some q.0, q.1)) (Some x, rest) a.2 in
        let h = some_is (Some b.0.0, b.0.1) (Some x, rest) b.2 in
        let same : b.0.0 ≡ x = let k = h.0 in cc in
        let s = is.sound a.0 b.0.0 b.0.1 b.1 in
        (word_sound (sep ∷ []) bytes a.0 a.1 ∙ ap (λ (r : List ℕ). sep ∷ r) (s.0 ∙ ap (λ (x : X). f.spell x ++ b.0.1) same ∙ ap (λ (r : List ℕ). f.spell x ++ r) h.1), subst f.fits same s.1)

  element_ended : (bytes rest : List ℕ) → element_at sep close f.at bytes ≡ Some (None, rest) → bytes ≡ close ∷ rest
  unfolding element_at
  element_ended bytes rest e = pick (word_at (close ∷ []) bytes) refl e where
    pick : (o : Option (List ℕ)) → word_at (close ∷ []) bytes ≡ o → if_passed {A = Option X × List ℕ} o (λ rest. Some (None, rest)) (word_at (sep ∷ []) bytes >>= λ rest. f.at rest >>= λ q. Some (Some q.0, q.1)) ≡ Some (None, rest) → bytes ≡ close ∷ rest
    pick (Some behind) is e = let h = some_is (None, behind) (None, rest) e in word_sound (close ∷ []) bytes behind is ∙ ap (λ (r : List ℕ). close ∷ r) h.1
    pick None is e =
        let a = bind_some (word_at (sep ∷ []) bytes) (λ rest. f.at rest >>= λ q. Some (Some q.0, q.1)) (None, rest) e in
        let b = bind_some (f.at a.0) (λ q. Some (Some q.0, q.1)) (None, rest) a.2 in
        let h = some_is (Some b.0.0, b.0.1) (None, rest) b.2 in
        let k = h.0 in absurd cc

  longer : (xs : List X) (rest : List ℕ) → length xs < length (flat_map piece xs ++ (close ∷ rest))
  longer [] rest = omega arith
  longer (x ∷ xs) rest =
      let h = longer xs rest in
      let regrouped : length (flat_map piece (x ∷ xs) ++ (close ∷ rest)) ≡ suc (length (f.spell x ++ (flat_map piece xs ++ (close ∷ rest)))) = ap (λ (r : List ℕ). suc (length r)) (append_assoc (f.spell x) (flat_map piece xs) (close ∷ rest)) in
      omega (arith, h, regrouped, length-append (f.spell x) (flat_map piece xs ++ (close ∷ rest)))

  others_again : (xs : List X) (rest : List ℕ) → AllByRecursion f.fits xs → many_at (element_at sep close f.at) (length (flat_map piece xs ++ (close ∷ rest))) (flat_map piece xs ++ (close ∷ rest)) ≡ Some (xs, rest)
  others_again xs rest fit = many_again (element_at sep close f.at) piece f.fits close stops element_again (λ x r _. parts (f.spell x ++ r)) element_end ends _ xs rest fit (longer xs rest)

  others_stop : (xs : List X) (rest : List ℕ) → stops (flat_map piece xs ++ (close ∷ rest)) ≡ true
  others_stop [] rest = ends rest
  others_stop (x ∷ xs) rest = parts ((f.spell x ++ flat_map piece xs) ++ (close ∷ rest))

  series_again : (xs : List X) (rest : List ℕ) → AllByRecursion f.fits xs → stops rest ≡ true → series_at sep close f.at (series_spell sep close f.spell xs ++ rest) ≡ Some (xs, rest)
  unfolding series_at
  series_again [] rest fit stop = ap (λ (o : Option (List ℕ)). if_passed {A = List X × List ℕ} o (λ rest. Some ([], rest)) (f.at (close ∷ rest) >>= λ q. with_first q.0 (many_at (element_at sep close f.at) (length q.1) q.1))) (word_again (close ∷ []) rest)
  series_again (x ∷ xs) rest fit stop =
      let behind = flat_map piece xs ++ (close ∷ rest) in
      let regrouped : series_spell sep close f.spell (x ∷ xs) ++ rest ≡ f.spell x ++ behind =
      append_assoc (f.spell x) (flat_map piece xs ++ (close ∷ [])) rest ∙ ap (λ (r : List ℕ). f.spell x ++ r) (append_assoc (flat_map piece xs) (close ∷ []) rest) in
      ap (series_at sep close f.at) regrouped
      ∙ ap (λ (o : Option (List ℕ)). if_passed {A = List X × List ℕ} o (λ rest. Some ([], rest)) (f.at (f.spell x ++ behind) >>= λ q. with_first q.0 (many_at (element_at sep close f.at) (length q.1) q.1))) (begins x behind fit.0)
      ∙ ap (λ (r : Read X). r >>= λ q. with_first q.0 (many_at (element_at sep close f.at) (length q.1) q.1)) (is.again x behind fit.0 (others_stop xs rest))
      ∙ ap (with_first x) (others_again xs rest fit.1)

  series_sound : (bytes : List ℕ) (xs : List X) (rest : List ℕ) → series_at sep close f.at bytes ≡ Some (xs, rest) → (bytes ≡ series_spell sep close f.spell xs ++ rest) × AllByRecursion f.fits xs
  unfolding series_at
  series_sound bytes xs rest e = pick (word_at (close ∷ []) bytes) refl e where
    Spelled : List X → Type 0
    Spelled xs = (bytes ≡ series_spell sep close f.spell xs ++ rest) × AllByRecursion f.fits xs

    pick : (o : Option (List ℕ)) → word_at (close ∷ []) bytes ≡ o → if_passed {A = List X × List ℕ} o (λ rest. Some ([], rest)) (f.at bytes >>= λ q. with_first q.0 (many_at (element_at sep close f.at) (length q.1) q.1)) ≡ Some (xs, rest) → Spelled xs
    pick (Some behind) is e =
        let h = some_is ([], behind) (xs, rest) e in
        subst Spelled h.0 (word_sound (close ∷ []) bytes behind is ∙ ap (λ (r : List ℕ). close ∷ r) h.1, tt)
    pick None none e =
        let a = bind_some (f.at bytes) (λ q. with_first q.0 (many_at (element_at sep close f.at) (length q.1) q.1)) (xs, rest) e in
        let b = bind_some (many_at (element_at sep close f.at) (length a.0.1) a.0.1) (λ q. Some (a.0.0 ∷ q.0, q.1)) (xs, rest) a.2 in
        let h = some_is (a.0.0 ∷ b.0.0, b.0.1) (xs, rest) b.2 in
        let first = is.sound bytes a.0.0 a.0.1 a.1 in
        let others = many_sound (element_at sep close f.at) piece f.fits close element_sound element_ended (length a.0.1) a.0.1 b.0.0 b.0.1 b.1 in
        let whole : bytes ≡ series_spell sep close f.spell (a.0.0 ∷ b.0.0) ++ rest =
        first.0 ∙ ap (λ (r : List ℕ). f.spell a.0.0 ++ r) (others.0 ∙ ap (λ (r : List ℕ). flat_map piece b.0.0 ++ (close ∷ r)) h.1 ∙ sym (append_assoc (flat_map piece b.0.0) (close ∷ []) rest))
        ∙ sym (append_assoc (f.spell a.0.0) (flat_map piece b.0.0 ++ (close ∷ [])) rest) in
        subst Spelled h.0 (whole, (first.1, others.1))

  pub series_is : Lawful (series sep close f)
  series_is = record { again = series_again; sound = series_sound }

-- ---- lists

module _ {X : Type 0} (f : Form X) (is : Lawful f) (begins : NeverBegins f 93) where
  inner : Lawful (series 44 93 f)
  inner = series_is 44 93 (λ e. absurd cc) (λ _. refl) (λ _. refl) f is begins

  list_again : (x : Vector X) (rest : List ℕ) → list_fits f.fits x → stops rest ≡ true → list_at f.at (list_spell f.spell x ++ rest) ≡ Some (x, rest)
  unfolding list_at word_at
  list_again nullable.Null rest fit stop = refl
  list_again (nullable.Full xs) rest fit stop = ap (read_map nullable.Full) (inner.again xs rest fit stop)

  list_sound : (bytes : List ℕ) (x : Vector X) (rest : List ℕ) → list_at f.at bytes ≡ Some (x, rest) → (bytes ≡ list_spell f.spell x ++ rest) × list_fits f.fits x
  unfolding list_at
  list_sound bytes x rest e = pick (word_at (codes "~") bytes) refl e where
    Spelled : Vector X → Type 0
    Spelled x = (bytes ≡ list_spell f.spell x ++ rest) × list_fits f.fits x

    pick : (o : Option (List ℕ)) → word_at (codes "~") bytes ≡ o → if_passed {A = Vector X × List ℕ} o (λ rest. Some (nullable.Null, rest)) (word_at (codes "[") bytes >>= λ rest. read_map nullable.Full (series_at 44 93 f.at rest)) ≡ Some (x, rest) → Spelled x
    pick (Some behind) is e =
        let h = some_is (nullable.Null, behind) (x, rest) e in
        subst Spelled h.0 (word_sound (codes "~") bytes behind is ∙ ap (λ (r : List ℕ). 126 ∷ r) h.1, tt)
    pick None none e =
        let a = bind_some (word_at (codes "[") bytes) (λ rest. read_map nullable.Full (series_at 44 93 f.at rest)) (x, rest) e in
        let b = bind_some (series_at 44 93 f.at a.0) (λ q. Some (nullable.Full q.0, q.1)) (x, rest) a.2 in
        let h = some_is (nullable.Full b.0.0, b.0.1) (x, rest) b.2 in
        let s = inner.sound a.0 b.0.0 b.0.1 b.1 in
        subst Spelled h.0 (word_sound (codes "[") bytes a.0 a.1 ∙ ap (λ (r : List ℕ). 91 ∷ r) (s.0 ∙ ap (λ (r : List ℕ). series_spell 44 93 f.spell b.0.0 ++ r) h.1), s.1)

  pub list_is : Lawful (list_of f)
  list_is = record { again = list_again; sound = list_sound }
