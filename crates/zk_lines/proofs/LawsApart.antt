-- Two endings have two lines: a line is taken apart from the left, a word, a side or a number at a time.
use Rattle.std.proofs.Common.{◌≡◌, ℕ, ◌<◌, ◌^◌, List, [], ◌∷◌, ◌++◌, length, take, drop, Some, Bool, true, false, ◌==◌, refl, ap, sym, ◌∙◌, append_assoc, arith}
use Rattle.std.specs.Prelude.{ℤ, slice_index, codes}
use Rattle.std.specs.{List.prefix_len, List.AllByRecursion, Fmt.signed_decimal, Fmt.decimal, Str.Parse.signed_digits_value}
use Rattle.std.proofs.{lemmas.List.append_cancel_left, lemmas.List.take_at, lemmas.List.drop_at, lemmas.Fmt.decimal_injective, lemmas.Fmt.decimal_is_IsNumeral}
use Rattle.zk_jute.specs.{declared.fault.Reason.Reason, Names.reason_name}
use Rattle.zk_jute.specs.declared.fault.Reason.TheVariants as reasons
use Rattle.zk_items.specs.Leaf.{in_number, int}
use Rattle.zk_items.proofs.{Numbers.all_digits, Numbers.wide, Numbers.written_value, Runs.run_is, Runs.run_ends}
use Rattle.zk_talk.specs.{declared.message.Side.Side, declared.message.Fault.Fault, declared.message.Ending.Ending}
use Rattle.zk_talk.specs.declared.message.Side.TheVariants as sides
use Rattle.zk_talk.specs.declared.message.Ending.TheVariants as ending
use Rattle.zk_lines.specs.Named.{first_named}
use Rattle.zk_lines.specs.Endings.{side_name, sided, count, order_text, place_text, reason_text, ending_text, ReasonFits, EndingFits}

-- ---- numbers and sides

-- two runs of digits that end alike are one
runs_apart : (a b x y : List ℕ) → AllByRecursion (λ c. in_number c ≡ true) a → AllByRecursion (λ c. in_number c ≡ true) b → run_ends in_number x ≡ true → run_ends in_number y ≡ true → a ++ x ≡ b ++ y → (a ≡ b) × (x ≡ y)
runs_apart a b x y p q i j e =
    let long : length a ≡ length b = sym (run_is in_number a x p i) ∙ ap (prefix_len in_number) e ∙ run_is in_number b y q j in (
      sym (take_at a x (length a) refl) ∙ ap (take (length a)) e ∙ take_at b y (length a) (sym long),
      sym (drop_at a x (length a) refl) ∙ ap (drop (length a)) e ∙ drop_at b y (length a) (sym long),
    )

digits : (n : ℕ) → n < 2 ^ 64 → AllByRecursion (λ c. in_number c ≡ true) (decimal n)
digits n small = all_digits (decimal n) (decimal_is_IsNumeral n small).0.1

count_apart : (word : List ℕ) (m n : ℕ) (x y : List ℕ) → m < 2 ^ 64 → n < 2 ^ 64 → run_ends in_number x ≡ true → run_ends in_number y ≡ true → count word m ++ x ≡ count word n ++ y → (m ≡ n) × (x ≡ y)
unfolding count
count_apart word m n x y p q i j e =
    let behind = append_cancel_left word (decimal m ++ x) (decimal n ++ y) (sym (append_assoc word (decimal m) x) ∙ e ∙ append_assoc word (decimal n) y) in
    let parts = runs_apart (decimal m) (decimal n) x y (digits m p) (digits n q) i j behind in
    (decimal_injective m n p q parts.0, parts.1)

last_apart : (word : List ℕ) (m n : ℕ) → m < 2 ^ 64 → n < 2 ^ 64 → count word m ≡ count word n → m ≡ n
unfolding count
last_apart word m n p q e = decimal_injective m n p q (append_cancel_left word (decimal m) (decimal n) e)

side_apart : (s t : Side) (x y : List ℕ) → side_name s ++ x ≡ side_name t ++ y → (s ≡ t) × (x ≡ y)
side_apart sides.Client sides.Client x y e = (refl, ap (drop 1) e)
side_apart sides.Server sides.Server x y e = (refl, ap (drop 1) e)
side_apart sides.Client sides.Server x y e = let k : 67 ≡ 83 = ap (λ (b : List ℕ). slice_index b 0) e in absurd (omega (arith, k))
side_apart sides.Server sides.Client x y e = let k : 83 ≡ 67 = ap (λ (b : List ℕ). slice_index b 0) e in absurd (omega (arith, k))

sided_apart : (word : List ℕ) (s t : Side) (x y : List ℕ) → sided word s ++ x ≡ sided word t ++ y → (s ≡ t) × (x ≡ y)
unfolding sided
sided_apart word s t x y e =
    side_apart s t x y (append_cancel_left word (side_name s ++ x) (side_name t ++ y) (sym (append_assoc word (side_name s) x) ∙ e ∙ append_assoc word (side_name t) y))

-- ---- reasons

abbrev is_order : Reason → Bool
is_order (reasons.XidOrder expected got) = true
is_order _ = false

abbrev named : Reason → List ℕ
named r = reason_name r ++ order_text r

-- a name of an order alone has an `r` as its fifth byte
order_told : (r : Reason) → (slice_index (named r) 4 == 114) ≡ is_order r
order_told reasons.Short = refl
order_told _ = refl

is_order_of : (r : Reason) → is_order r ≡ true → (expected : ℤ) × (got : ℤ) × (r ≡ reasons.XidOrder expected got)
is_order_of (reasons.XidOrder expected got) is = (expected, got, refl)
is_order_of _ is = absurd cc

-- the others are told by their names
abbrev others : List Reason
others =
    reasons.Short ∷ reasons.BadBool ∷ reasons.BadLength ∷ reasons.BadText ∷ reasons.NoMemory ∷ reasons.Trailing ∷ reasons.UnknownOp ∷ reasons.XidOp
    ∷ reasons.BadPart ∷ reasons.EventErr ∷ reasons.LengthRange ∷ reasons.QueueFull ∷ reasons.Unasked ∷ reasons.StreamEnd ∷ []

again : (r : Reason) → is_order r ≡ false → first_named named others (named r) ≡ Some r
again (reasons.XidOrder expected got) is = absurd cc
again _ is = refl

order_apart : (a b c d : ℤ) → int.fits a → int.fits b → int.fits c → int.fits d → named (reasons.XidOrder a b) ≡ named (reasons.XidOrder c d) → (a ≡ c) × (b ≡ d)
order_apart a b c d p q s t e =
    let v = written_value a (wide a p) in
    let w = written_value c (wide c s) in
    let behind = append_cancel_left (codes "XidOrder") (order_text (reasons.XidOrder a b)) (order_text (reasons.XidOrder c d)) e in
    let numbers = append_cancel_left (codes " expected=") (signed_decimal a ++ (codes " got=" ++ signed_decimal b)) (signed_decimal c ++ (codes " got=" ++ signed_decimal d)) behind in
    let parts = runs_apart (signed_decimal a) (signed_decimal c) (codes " got=" ++ signed_decimal b) (codes " got=" ++ signed_decimal d) v.1 w.1 refl refl numbers in
    let last = append_cancel_left (codes " got=") (signed_decimal b) (signed_decimal d) parts.1 in (
      sym v.0 ∙ ap (signed_digits_value 10) parts.0 ∙ w.0,
      sym (written_value b (wide b q)).0 ∙ ap (signed_digits_value 10) last ∙ (written_value d (wide d t)).0,
    )

reason_apart : (r s : Reason) → ReasonFits r → ReasonFits s → named r ≡ named s → r ≡ s
reason_apart r s p q e = go (is_order r) (is_order s) refl refl where
  alike : is_order r ≡ is_order s
  alike = sym (order_told r) ∙ ap (λ (b : List ℕ). slice_index b 4 == 114) e ∙ order_told s

  go : (b c : Bool) → is_order r ≡ b → is_order s ≡ c → r ≡ s
  go false false i j = let k : Some r ≡ Some s = sym (again r i) ∙ ap (first_named named others) e ∙ again s j in cc
  go true false i j = absurd (let k : true ≡ false = sym i ∙ alike ∙ j in cc)
  go false true i j = absurd (let k : false ≡ true = sym i ∙ alike ∙ j in cc)
  go true true i j =
      let x = is_order_of r i in
      let y = is_order_of s j in
      let f = p x.0 x.1 x.2 in
      let g = q y.0 y.1 y.2 in
      let same = order_apart x.0 x.1 y.0 y.1 f.0 f.1 g.0 g.1 (sym (ap named x.2) ∙ e ∙ ap named y.2) in
      x.2 ∙ (λ k. reasons.XidOrder (same.0 k) (same.1 k)) ∙ sym y.2

-- ---- endings

before_got : (n : ℕ) → run_ends in_number (count (codes " got=") n) ≡ true
unfolding count
before_got n = refl

before_offset : (n : ℕ) (x : List ℕ) → run_ends in_number (count (codes " offset=") n ++ x) ≡ true
unfolding count
before_offset n x = refl

before_place : (n : ℕ) (x : List ℕ) → run_ends in_number (count (codes " place=") n ++ x) ≡ true
unfolding count
before_place n x = refl

parted : (f : Fault) (x : List ℕ) → place_text f ++ x ≡ sided (codes ". refused side=") f.side ++ (count (codes " frame=") f.frame ++ (count (codes " offset=") f.offset ++ (count (codes " place=") f.place ++ x)))
parted f x =
    let side = sided (codes ". refused side=") f.side in
    let frame = count (codes " frame=") f.frame in
    let offset = count (codes " offset=") f.offset in
    let place = count (codes " place=") f.place in
    append_assoc side (frame ++ (offset ++ place)) x
    ∙ ap (λ (z : List ℕ). side ++ z) (append_assoc frame (offset ++ place) x ∙ ap (λ (z : List ℕ). frame ++ z) (append_assoc offset place x))

fault_apart : (f g : Fault) → EndingFits (ending.Refused f) → EndingFits (ending.Refused g) → ending_text (ending.Refused f) ≡ ending_text (ending.Refused g) → f ≡ g
fault_apart f g p q e =
    let r = reason_text f.reason in
    let s = reason_text g.reason in
    let side = sided_apart (codes ". refused side=") f.side g.side _ _ (sym (parted f r) ∙ e ∙ parted g s) in
    let frame = count_apart (codes " frame=") f.frame g.frame _ _ p.0 q.0 (before_offset f.offset _) (before_offset g.offset _) side.1 in
    let offset = count_apart (codes " offset=") f.offset g.offset _ _ p.1 q.1 (before_place f.place _) (before_place g.place _) frame.1 in
    let place = count_apart (codes " place=") f.place g.place r s p.2 q.2 refl refl offset.1 in
    let reason = reason_apart f.reason g.reason p.3 q.3 (append_cancel_left (codes " reason=") (named f.reason) (named g.reason) place.1) in
    λ i. record { side = side.0 i; frame = frame.0 i; offset = offset.0 i; place = place.0 i; reason = reason i }

abbrev letter : Ending → ℕ
letter (ending.Whole unanswered) = 119
letter (ending.Cut side frame got) = 99
letter (ending.Refused f) = 114

lettered : (e : Ending) → slice_index (ending_text e) 2 ≡ letter e
unfolding sided count
lettered (ending.Whole unanswered) = refl
lettered (ending.Cut side frame got) = refl
lettered (ending.Refused f) = refl

same_letter : (e f : Ending) → ending_text e ≡ ending_text f → letter e ≡ letter f
same_letter e f is = sym (lettered e) ∙ ap (λ (b : List ℕ). slice_index b 2) is ∙ lettered f

pub ending_apart : (e f : Ending) → EndingFits e → EndingFits f → ending_text e ≡ ending_text f → e ≡ f
ending_apart (ending.Whole m) (ending.Whole n) p q e = ap ending.Whole (last_apart (codes ". whole unanswered=") m n p q e)
ending_apart (ending.Cut s m k) (ending.Cut t n l) p q e =
    let side = sided_apart (codes ". cut side=") s t _ _ e in
    let frame = count_apart (codes " frame=") m n _ _ p.0 q.0 (before_got k) (before_got l) side.1 in
    let got = last_apart (codes " got=") k l p.1 q.1 frame.1 in
    λ i. ending.Cut (side.0 i) (frame.0 i) (got i)
ending_apart (ending.Refused f) (ending.Refused g) p q e = ap ending.Refused (fault_apart f g p q e)
ending_apart (ending.Whole m) (ending.Cut t n l) p q e = let k : 119 ≡ 99 = same_letter (ending.Whole m) (ending.Cut t n l) e in absurd (omega (arith, k))
ending_apart (ending.Whole m) (ending.Refused g) p q e = let k : 119 ≡ 114 = same_letter (ending.Whole m) (ending.Refused g) e in absurd (omega (arith, k))
ending_apart (ending.Cut s m k) (ending.Whole n) p q e = let k : 99 ≡ 119 = same_letter (ending.Cut s m k) (ending.Whole n) e in absurd (omega (arith, k))
ending_apart (ending.Cut s m k) (ending.Refused g) p q e = let k : 99 ≡ 114 = same_letter (ending.Cut s m k) (ending.Refused g) e in absurd (omega (arith, k))
ending_apart (ending.Refused f) (ending.Whole n) p q e = let k : 114 ≡ 119 = same_letter (ending.Refused f) (ending.Whole n) e in absurd (omega (arith, k))
ending_apart (ending.Refused f) (ending.Cut t n l) p q e = let k : 114 ≡ 99 = same_letter (ending.Refused f) (ending.Cut t n l) e in absurd (omega (arith, k))
