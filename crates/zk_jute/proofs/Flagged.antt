-- A value, and then nothing or one boolean: what is refused, and that a payload has one value or one fault.
use Rattle.std.proofs.Common.{◌≡◌, ℕ, ◌+◌, ◌≤◌, ◌<◌, inl, inr, List, [], ◌∷◌, ◌++◌, length, drop, Bool, true, false, Option, Some, None, refl, sym, ap, subst, ◌∙◌, append_assoc, arith}
use Rattle.std.specs.Prelude.{◌≢◌, Result, Ok, Err, IfOk, IfErr}
use Rattle.std.proofs.lemmas.List.{append-nil, length-append}
use Rattle.zk_jute.specs.{declared.fault.ItemFault.ItemFault, declared.fault.Reason.Reason, Item.Item, Item.ABoolean, Item.bytes_of, Item.HaveBytes, Layout.Layout, Layout.Unfolds, Layout.IsValueOf, Reading.told_place}
use Rattle.zk_jute.specs.declared.fault.Reason.TheVariants.{Trailing, NoMemory}
use Rattle.zk_jute.specs.Told.{StandsAt, IsReadAs, IsToldFault, IsTold}
use Rattle.zk_jute.specs.Flagged.{flag_items, flag_layout, IsFlaggedFault, in_value, in_flag, behind_flag}
use Rattle.zk_jute.proofs.Layouts.{bytes_only, bytes_both, have_both, have_parts, has_byte}
use Rattle.zk_jute.proofs.Sequels.{Same, Sequel, sequel_same, sequel_not, stands_then, is_left}

-- ---- what a reader refuses

pub refused_value : (l : Layout) (src : List ℕ) (e : ItemFault) → IsToldFault (IsValueOf l) src 0 e → IsTold (IsFlaggedFault l src) e
unfolding IsTold
refused_value l src e h = elim h [ inl m ↦ inl m | inr f ↦ let same : 0 + f.0 ≡ f.0 = omega arith in inr (f.0, in_value src f.0 e.reason f.1, f.2 ∙ ap told_place same) ]

pub refused_flag : (l : Layout) (src : List ℕ) (value : List Item) (place : ℕ) (e : ItemFault) → place ≤ length src → place ≢ length src → IsValueOf l value → StandsAt value src 0 place
    → IsToldFault (IsValueOf flag_layout) src place e → IsTold (IsFlaggedFault l src) e
unfolding IsTold
refused_flag l src value place e le left v stands h =
    elim h [
      | inl m ↦ inl m
      | inr f ↦
          let at = stands.1 in
          let told : place + f.0 ≡ length (bytes_of value) + f.0 = omega arith in
          inr (length (bytes_of value) + f.0, in_flag src (drop place src) value f.0 e.reason v stands.0 (is_left src place (omega arith)) f.1, f.2 ∙ ap told_place told)
    ]

pub refused_rest : (l : Layout) (src : List ℕ) (value flag : List Item) (middle place : ℕ) → place < length src → IsValueOf l value → StandsAt value src 0 middle → IsValueOf flag_layout flag → StandsAt flag src middle place
    → IsTold (IsFlaggedFault l src) (record { place = told_place place; reason = Trailing })
unfolding IsTold
refused_rest l src value flag middle place lt v s w t =
    let both = stands_then value flag src 0 middle place s t in
    let at = both.1 in
    let told : place ≡ length (bytes_of (value ++ flag)) = omega arith in
    inr (length (bytes_of (value ++ flag)), behind_flag src (drop place src) value flag v w both.0 (is_left src place lt), ap told_place told)

pub ruleset refusals = (refused_value, refused_flag, refused_rest)

flag_has : (flag : Option Bool) → HaveBytes (flag_items flag)
flag_has None = tt
flag_has (Some b) = (tt, tt)

-- a value, and what all bytes after it are
pub flagged_found : (l : Layout) (src : List ℕ) (value : List Item) (place : ℕ) (flag : Option Bool) → IsValueOf l value → StandsAt value src 0 place → drop place src ≡ bytes_of (flag_items flag)
    → HaveBytes (value ++ flag_items flag) × (src ≡ bytes_of (value ++ flag_items flag))
flagged_found l src value place flag v s e =
    (have_both value (flag_items flag) v.1 (flag_has flag), s.0 ∙ ap (λ (b : List ℕ). bytes_of value ++ b) e ∙ sym (bytes_both value (flag_items flag)))

-- ---- laws

abbrev BehindFlag : List Item → List ℕ → ℕ → Reason → Type 0
BehindFlag flag rest p r = (rest ≢ []) × (p ≡ length (bytes_of flag)) × (r ≡ Trailing)

abbrev BehindValue : List Item → List ℕ → ℕ → Reason → Type 0
BehindValue value rest p r = (rest ≢ []) × (behind : ℕ) × (p ≡ length (bytes_of value) + behind) × Sequel flag_layout BehindFlag rest behind r

sequel : {l : Layout} {bytes : List ℕ} {p : ℕ} {r : Reason} → IsFlaggedFault l bytes p r → Sequel l BehindValue bytes p r
sequel (in_value bytes place reason f) = inl f
sequel (in_flag bytes rest value behind reason v e some f) = inr (value, rest, v, e, (some, behind, refl, inl f))
sequel (behind_flag bytes rest value flag v w e some) =
    let split : bytes ≡ bytes_of value ++ (bytes_of flag ++ rest) = e ∙ ap (λ (b : List ℕ). b ++ rest) (bytes_both value flag) ∙ append_assoc (bytes_of value) (bytes_of flag) rest in
    let long : 1 ≤ length (bytes_of flag) = has_byte flag_layout flag tt w.0 in
    inr (
      value,
      bytes_of flag ++ rest,
      v,
      split,
      (
        λ none. absurd (omega (arith, ap length none, length-append (bytes_of flag) rest)),
        length (bytes_of flag),
        omega (arith, ap length (bytes_both value flag), length-append (bytes_of value) (bytes_of flag)),
        inr (flag, rest, w, refl, (some, refl, refl)),
      ),
    )

-- bytes have one fault at most
pub flagged_unique : (l : Layout) (bytes : List ℕ) (p q : ℕ) (r s : Reason) → IsFlaggedFault l bytes p r → IsFlaggedFault l bytes q s → Same p r q s
flagged_unique l bytes p q r s f g =
    sequel_same l BehindValue bytes
    (λ value rest p q r s v e a b.
    let same = sequel_same flag_layout BehindFlag rest (λ flag more p q r s v e a b. (a.1 ∙ sym b.1, a.2 ∙ sym b.2)) a.1 b.1 r s a.3 b.3 in
    let number : p ≡ q = let x = a.2 in let y = b.2 in let z = same.0 in omega arith in
    (number, same.1))
    p q r s (sequel f) (sequel g)

flag_not : (flag : Option Bool) (rest : List ℕ) (p : ℕ) (r : Reason) → rest ≡ bytes_of (flag_items flag) → rest ≢ [] → Sequel flag_layout BehindFlag rest p r → ⊥
flag_not None rest p r e some f = some e
flag_not (Some b) rest p r e some f =
    sequel_not flag_layout BehindFlag rest (ABoolean b ∷ []) [] ((ABoolean b, [], refl, refl, refl), (tt, tt)) (e ∙ sym (append-nil (bytes_of (ABoolean b ∷ [])))) p r (λ h. h.0 refl) f

-- a payload of the form has no fault
pub flagged_excludes : (l : Layout) (value : List Item) (flag : Option Bool) (p : ℕ) (r : Reason) → IsValueOf l value → IsFlaggedFault l (bytes_of (value ++ flag_items flag)) p r → ⊥
flagged_excludes l value flag p r v fault =
    sequel_not l BehindValue (bytes_of (value ++ flag_items flag)) value (bytes_of (flag_items flag)) v (bytes_both value (flag_items flag)) p r
    (λ a. flag_not flag (bytes_of (flag_items flag)) a.1 r refl a.0 a.3) (sequel fault)

flag_same : (a b : Option Bool) → bytes_of (flag_items a) ≡ bytes_of (flag_items b) → a ≡ b
flag_same None None e = refl
flag_same None (Some true) e = absurd cc
flag_same None (Some false) e = absurd cc
flag_same (Some true) None e = absurd cc
flag_same (Some false) None e = absurd cc
flag_same (Some true) (Some true) e = refl
flag_same (Some true) (Some false) e = absurd cc
flag_same (Some false) (Some true) e = absurd cc
flag_same (Some false) (Some false) e = refl

-- no two have one payload
pub flagged_injective : (l : Layout) (a b : List Item) (f g : Option Bool) → IsValueOf l a → IsValueOf l b → bytes_of (a ++ flag_items f) ≡ bytes_of (b ++ flag_items g) → (a ≡ b) × (f ≡ g)
flagged_injective l a b f g v w e =
    let same = bytes_only l a b (bytes_of (flag_items f)) (bytes_of (flag_items g)) v w (sym (bytes_both a (flag_items f)) ∙ e ∙ bytes_both b (flag_items g)) in
    (same.0, flag_same f g same.1)

-- what has the form is read
module _ {X : Type 0} (l : Layout) (items : X → List Item) (unfolds : (x : X) → Unfolds l (items x)) (apart : (x y : X) → items x ≡ items y → x ≡ y) where
  pub flagged_only : (src : List ℕ) (answer : Result (X × Option Bool) ItemFault) → IfOk answer (λ x. HaveBytes (items x.0 ++ flag_items x.1) × (src ≡ bytes_of (items x.0 ++ flag_items x.1))) → IfErr answer (λ e. IsTold (IsFlaggedFault l src) e)
      → (x : X) (flag : Option Bool) → HaveBytes (items x ++ flag_items flag) → src ≡ bytes_of (items x ++ flag_items flag) → IsReadAs (x, flag) answer
  unfolding IsTold
  flagged_only src (Ok y) found fault x flag have e =
      let v : IsValueOf l (items y.0) = (unfolds y.0, (have_parts (items y.0) (flag_items y.1) found.0).0) in
      let w : IsValueOf l (items x) = (unfolds x, (have_parts (items x) (flag_items flag) have).0) in
      let same = flagged_injective l (items y.0) (items x) y.1 flag v w (sym found.1 ∙ e) in
      ap (λ (z : X). (z, y.1)) (apart y.0 x same.0) ∙ ap (λ (f : Option Bool). (x, f)) same.1
  flagged_only src (Err x) found fault y flag have e =
      let w : IsValueOf l (items y) = (unfolds y, (have_parts (items y) (flag_items flag) have).0) in
      elim fault [ inl m ↦ m | inr k ↦ absurd (flagged_excludes l (items y) flag k.0 x.reason w (subst (λ (b : List ℕ). IsFlaggedFault l b k.0 x.reason) e k.1)) ]

-- what is read unless memory is wanted is read, where it isn't
pub read_is_all : {X : Type 0} (y : X) (answer : Result X ItemFault) → IsReadAs y answer → IfErr answer (λ e. e.reason ≢ NoMemory) → answer ≡ Ok y
read_is_all y (Ok x) read none = ap Ok read
read_is_all y (Err e) read none = absurd (none (ap (λ (f : ItemFault). f.reason) read))

pub read_exactly : {X : Type 0} (Told : ItemFault → Type 0) (y : X) (answer : Result X ItemFault) → IfErr answer (λ e. Told e × (e.reason ≢ NoMemory)) → (IfErr answer Told → IsReadAs y answer) → answer ≡ Ok y
read_exactly Told y (Ok x) fault read = ap Ok (read tt)
read_exactly Told y (Err e) fault read = read_is_all y (Err e) (read fault.0) fault.1
