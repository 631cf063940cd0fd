-- The forms of forms have the laws of a form.
use Rattle.std.proofs.Common.{◌≡◌, ℕ, List, [], ◌∷◌, ◌++◌, Option, Some, None, Bool, true, false, ◌==◌, refl, ap, sym, subst, ◌∙◌, append_assoc, cond, eq-eqb, eqb-true}
use Rattle.zk_items.specs.Form.{Form, Read, ◌>>=◌, stops, word_at, led, closed, fields, ◌and◌}
use Rattle.zk_items.specs.Laws.{LawfulBefore, Lawful}

-- ---- options

pub if_some : {A : Type 0} (b : Bool) (r : Option A) (x : A) → cond b r None ≡ Some x → (b ≡ true) × (r ≡ Some x)
if_some true r x e = (refl, e)
if_some false r x e = absurd cc

pub if_not : {A : Type 0} (b : Bool) (r : Option A) (x : A) → cond b None r ≡ Some x → (b ≡ false) × (r ≡ Some x)
if_not true r x e = absurd cc
if_not false r x e = (refl, e)

pub bind_some : {A B : Type 0} (r : Option A) (f : A → Option B) (y : B) → (r >>= f) ≡ Some y → (x : A) × (r ≡ Some x) × (f x ≡ Some y)
bind_some None f y e = absurd cc
bind_some (Some x) f y e = (x, refl, e)

pub some_is : {A B : Type 0} (p q : A × B) → ◌≡◌ {A = Option (A × B)} (Some p) (Some q) → (p.0 ≡ q.0) × (p.1 ≡ q.1)
some_is {A} {B} p q e = let h : p ≡ q = cc in (ap (λ (z : A × B). z.0) h, ap (λ (z : A × B). z.1) h)

-- ---- words

pub word_again : (w rest : List ℕ) → word_at w (w ++ rest) ≡ Some rest
unfolding word_at
word_again [] rest = refl
word_again (c ∷ w) rest = ap (λ (t : Bool). cond t (word_at w (w ++ rest)) None) (eq-eqb c c refl) ∙ word_again w rest

pub word_sound : (w bytes rest : List ℕ) → word_at w bytes ≡ Some rest → bytes ≡ w ++ rest
unfolding word_at
word_sound [] bytes rest e = cc
word_sound (c ∷ w) [] rest e = absurd cc
word_sound (c ∷ w) (d ∷ bytes) rest e =
    let chosen = if_some (c == d) (word_at w bytes) rest e in
    let same : c ≡ d = eqb-true c d chosen.0 in
    ap (λ (x : ℕ). x ∷ bytes) (sym same) ∙ ap (λ (r : List ℕ). c ∷ r) (word_sound w bytes rest chosen.1)

-- what doesn't begin with a word has nothing behind it
pub word_none : (w bytes : List ℕ) → ((rest : List ℕ) → bytes ≡ w ++ rest → ⊥) → word_at w bytes ≡ None
word_none w bytes h = pick (word_at w bytes) refl where
  pick : (r : Option (List ℕ)) → word_at w bytes ≡ r → r ≡ None
  pick None e = refl
  pick (Some rest) e = absurd (h rest (word_sound w bytes rest e))

pub word_some : (w bytes rest : List ℕ) → bytes ≡ w ++ rest → word_at w bytes ≡ Some rest
word_some w bytes rest e = subst (λ (b : List ℕ). word_at w b ≡ Some rest) (sym e) (word_again w rest)

-- ---- a word in front

module _ {X : Type 0} {behind : List ℕ → Bool} (w : List ℕ) (f : Form X) (is : LawfulBefore behind f) where
  led_again : (x : X) (rest : List ℕ) → f.fits x → behind rest ≡ true → (led w f).at ((w ++ f.spell x) ++ rest) ≡ Some (x, rest)
  led_again x rest fit stop =
      ap (led w f).at (append_assoc w (f.spell x) rest) ∙ ap (λ (r : Option (List ℕ)). r >>= f.at) (word_again w (f.spell x ++ rest)) ∙ is.again x rest fit stop

  led_sound : (bytes : List ℕ) (x : X) (rest : List ℕ) → (led w f).at bytes ≡ Some (x, rest) → (bytes ≡ (w ++ f.spell x) ++ rest) × f.fits x
  led_sound bytes x rest e =
      let s = bind_some (word_at w bytes) f.at (x, rest) e in
      let t = is.sound s.0 x rest s.2 in
      (word_sound w bytes s.0 s.1 ∙ ap (λ (r : List ℕ). w ++ r) t.0 ∙ sym (append_assoc w (f.spell x) rest), t.1)

  pub led_is : LawfulBefore behind (led w f)
  led_is = record { again = led_again; sound = led_sound }

-- ---- a word behind

module _ {X : Type 0} (f : Form X) (is : Lawful f) (w : List ℕ) (opens : (rest : List ℕ) → stops (w ++ rest) ≡ true) where
  closed_again : (x : X) (rest : List ℕ) → f.fits x → stops rest ≡ true → (closed f w).at ((f.spell x ++ w) ++ rest) ≡ Some (x, rest)
  closed_again x rest fit stop =
      ap (closed f w).at (append_assoc (f.spell x) w rest)
      ∙ ap (λ (r : Read X). r >>= λ q. word_at w q.1 >>= λ rest. Some (q.0, rest)) (is.again x (w ++ rest) fit (opens rest))
      ∙ ap (λ (r : Option (List ℕ)). r >>= λ rest. Some (x, rest)) (word_again w rest)

  closed_sound : (bytes : List ℕ) (x : X) (rest : List ℕ) → (closed f w).at bytes ≡ Some (x, rest) → (bytes ≡ (f.spell x ++ w) ++ rest) × f.fits x
  closed_sound bytes x rest e =
      let a = bind_some (f.at bytes) (λ q. word_at w q.1 >>= λ rest. Some (q.0, rest)) (x, rest) e in
      let b = bind_some (word_at w a.0.1) (λ rest. Some (a.0.0, rest)) (x, rest) a.2 in
      let pair = some_is (a.0.0, b.0) (x, rest) b.2 in
      let s = is.sound bytes a.0.0 a.0.1 a.1 in
      let whole : bytes ≡ (f.spell a.0.0 ++ w) ++ rest = s.0 ∙ ap (λ (r : List ℕ). f.spell a.0.0 ++ r) (word_sound w a.0.1 b.0 b.1 ∙ ap (λ (r : List ℕ). w ++ r) pair.1) ∙ sym (append_assoc (f.spell a.0.0) w rest) in
      subst (λ (x : X). (bytes ≡ (f.spell x ++ w) ++ rest) × f.fits x) pair.0 (whole, s.1)

  pub closed_is : Lawful (closed f w)
  closed_is = record { again = closed_again; sound = closed_sound }

-- ---- one behind the other

-- an item may end before each spelling
abbrev pub Opens : {X : Type 0} → Form X → Type 0
Opens {X} f = (x : X) (rest : List ℕ) → stops (f.spell x ++ rest) ≡ true

pub led_opens : {X : Type 0} (w : List ℕ) (f : Form X) → ((rest : List ℕ) → stops (w ++ rest) ≡ true) → Opens (led w f)
led_opens w f opens x rest = ap stops (append_assoc w (f.spell x) rest) ∙ opens (f.spell x ++ rest)

pub and_opens : {X Y : Type 0} (f : Form X) (g : Form Y) → Opens f → Opens (f and g)
and_opens f g opens p rest = ap stops (append_assoc (f.spell p.0) (g.spell p.1) rest) ∙ opens p.0 (g.spell p.1 ++ rest)

module _ {X Y : Type 0} {behind : List ℕ → Bool} (f : Form X) (left : Lawful f) (g : Form Y) (right : LawfulBefore behind g) (opens : Opens g) where
  and_again : (p : X × Y) (rest : List ℕ) → (f and g).fits p → behind rest ≡ true → (f and g).at ((f.spell p.0 ++ g.spell p.1) ++ rest) ≡ Some (p, rest)
  and_again p rest fit stop =
      ap (f and g).at (append_assoc (f.spell p.0) (g.spell p.1) rest)
      ∙ ap (λ (r : Read X). r >>= λ p. g.at p.1 >>= λ q. Some ((p.0, q.0), q.1)) (left.again p.0 (g.spell p.1 ++ rest) fit.0 (opens p.1 rest))
      ∙ ap (λ (r : Read Y). r >>= λ q. Some ((p.0, q.0), q.1)) (right.again p.1 rest fit.1 stop)

  and_sound : (bytes : List ℕ) (p : X × Y) (rest : List ℕ) → (f and g).at bytes ≡ Some (p, rest) → (bytes ≡ (f.spell p.0 ++ g.spell p.1) ++ rest) × (f and g).fits p
  and_sound bytes p rest e =
      let a = bind_some (f.at bytes) (λ p. g.at p.1 >>= λ q. Some ((p.0, q.0), q.1)) (p, rest) e in
      let b = bind_some (g.at a.0.1) (λ q. Some ((a.0.0, q.0), q.1)) (p, rest) a.2 in
      let pair = some_is ((a.0.0, b.0.0), b.0.1) (p, rest) b.2 in
      let first = left.sound bytes a.0.0 a.0.1 a.1 in
      let second = right.sound a.0.1 b.0.0 b.0.1 b.1 in
      let whole : bytes ≡ (f.spell a.0.0 ++ g.spell b.0.0) ++ rest =
      first.0 ∙ ap (λ (r : List ℕ). f.spell a.0.0 ++ r) (second.0 ∙ ap (λ (r : List ℕ). g.spell b.0.0 ++ r) pair.1) ∙ sym (append_assoc (f.spell a.0.0) (g.spell b.0.0) rest) in
      subst (λ (p : X × Y). (bytes ≡ (f.spell p.0 ++ g.spell p.1) ++ rest) × (f and g).fits p) pair.0 (whole, (first.1, second.1))

  pub and_is : LawfulBefore behind (f and g)
  and_is = record { again = and_again; sound = and_sound }

-- ---- a record by its fields

module _ {X Y : Type 0} {behind : List ℕ → Bool} (f : Form Y) (is : LawfulBefore behind f) (out : X → Y) (made : Y → X) (same : (x : X) → made (out x) ≡ x) (back : (y : Y) → out (made y) ≡ y) where
  fields_again : (x : X) (rest : List ℕ) → f.fits (out x) → behind rest ≡ true → (fields f out made).at (f.spell (out x) ++ rest) ≡ Some (x, rest)
  fields_again x rest fit stop =
      ap (λ (r : Read Y). r >>= λ q. Some (made q.0, q.1)) (is.again (out x) rest fit stop) ∙ ap (λ (x : X). Some (x, rest)) (same x)

  fields_sound : (bytes : List ℕ) (x : X) (rest : List ℕ) → (fields f out made).at bytes ≡ Some (x, rest) → (bytes ≡ f.spell (out x) ++ rest) × f.fits (out x)
  fields_sound bytes x rest e =
      let a = bind_some (f.at bytes) (λ q. Some (made q.0, q.1)) (x, rest) e in
      let s = is.sound bytes a.0.0 a.0.1 a.1 in
      let pair = some_is (made a.0.0, a.0.1) (x, rest) a.2 in
      let value : made a.0.0 ≡ x = pair.0 in
      let behind : a.0.1 ≡ rest = pair.1 in
      let inner : a.0.0 ≡ out x = sym (back a.0.0) ∙ ap out value in (
        s.0 ∙ ap (λ (y : Y). f.spell y ++ a.0.1) inner ∙ ap (λ (r : List ℕ). f.spell (out x) ++ r) behind,
        subst (λ (y : Y). f.fits y) inner s.1,
      )

  pub fields_is : LawfulBefore behind (fields f out made)
  fields_is = record { again = fields_again; sound = fields_sound }

-- ---- a field: a form that an item may end before

pub record IsField {X : Type 0} (f : Form X) : Type 0 where
  pub lawful : Lawful f
  pub opens : Opens f

infixr 20 ◌with◌
pub ◌with◌ : {X Y : Type 0} {f : Form X} {g : Form Y} → IsField f → IsField g → IsField (f and g)
◌with◌ {f} {g} left right = record { lawful = and_is f left.lawful g right.lawful right.opens; opens = and_opens f g left.opens }

pub record_is : {X Y : Type 0} (f : Form Y) → IsField f → (out : X → Y) (made : Y → X) → ((x : X) → made (out x) ≡ x) → ((y : Y) → out (made y) ≡ y) → IsField (fields f out made)
record_is f is out made same back = record { lawful = fields_is f is.lawful out made same back; opens = λ x rest. is.opens (out x) rest }
