-- What fits is spelled by printed bytes: numbers, texts, blobs, lists, access lists and stats.
use Rattle.std.proofs.Common.{◌≡◌, ℕ, List, [], ◌∷◌, ◌++◌, Option, Some, None, Bool, true, false, refl}
use Rattle.std.specs.{List.flat_map, List.AllByRecursion, Fmt.signed_decimal}
use Rattle.zk_jute.specs.Held.{Vector}
use Rattle.zk_jute.specs.declared.value.Nullable.TheVariants as nullable
use Rattle.zk_items.specs.Form.{Form, ◌and◌}
use Rattle.zk_items.specs.Leaf.{bit_spell, ro_spell, int, long, bit, ro, text, blob}
use Rattle.zk_items.specs.Codes.{name_spell, error_name, type_name, error_code, failure_code, event_code}
use Rattle.zk_lines.specs.{declared.word.Word.Word, Words.word_of, Words.field, Series.series, Series.series_spell, Series.list_of, Series.list_spell, Series.list_fits, Records.acl}
use Rattle.zk_lines.specs.declared.word.Word.TheVariants as words
use Rattle.zk_lines.proofs.LawsPrinted.{Printed, joined, number_printed, text_printed, blob_printed, word_printed, error_printed, type_printed, is_printed}

-- ---- forms

-- what fits is spelled by printed bytes
pub record Shown {X : Type 0} (f : Form X) : Type 0 where
  pub shown : (x : X) → f.fits x → Printed (f.spell x)

pub led_shown : {X : Type 0} {f : Form X} (w : Word) → Shown f → Shown (field w f)
led_shown {f} w is = record { shown = λ x fit. joined (word_of w) (f.spell x) (word_printed w) (is.shown x fit) }

infixr 20 ◌with◌
pub ◌with◌ : {X Y : Type 0} {f : Form X} {g : Form Y} → Shown f → Shown g → Shown (f and g)
◌with◌ {f} {g} left right = record { shown = λ p fit. joined (f.spell p.0) (g.spell p.1) (left.shown p.0 fit.0) (right.shown p.1 fit.1) }

pub int_shown : Shown int
int_shown = record { shown = λ n fit. number_printed n }

pub long_shown : Shown long
long_shown = record { shown = λ n fit. number_printed n }

bit_printed : (b : Bool) → Printed (bit_spell b)
bit_printed true = (refl, tt)
bit_printed false = (refl, tt)

pub bit_shown : Shown bit
bit_shown = record { shown = λ b fit. bit_printed b }

ro_printed : (b : Option Bool) → Printed (ro_spell b)
ro_printed None = (refl, tt)
ro_printed (Some b) = bit_printed b

pub ro_shown : Shown ro
ro_shown = record { shown = λ b fit. ro_printed b }

pub text_shown : Shown text
text_shown = record { shown = text_printed }

pub blob_shown : Shown blob
blob_shown = record { shown = blob_printed }

pub error_shown : Shown error_code
error_shown = record { shown = λ n fit. joined (signed_decimal n) (name_spell (error_name n)) (number_printed n) (error_printed n) }

pub failure_shown : Shown failure_code
failure_shown = record { shown = λ n fit. joined (signed_decimal n) (name_spell (error_name n)) (number_printed n) (error_printed n) }

pub event_code_shown : Shown event_code
event_code_shown = record { shown = λ n fit. joined (signed_decimal n) (name_spell (type_name n)) (number_printed n) (type_printed n) }

-- ---- series and lists

module _ {X : Type 0} (sep close : ℕ) (parts : is_printed sep ≡ true) (ends : is_printed close ≡ true) (f : Form X) (is : Shown f) where
  others_printed : (xs : List X) → AllByRecursion f.fits xs → Printed (flat_map (λ y. sep ∷ f.spell y) xs)
  others_printed [] fit = tt
  others_printed (x ∷ xs) fit = joined (sep ∷ f.spell x) (flat_map (λ y. sep ∷ f.spell y) xs) (parts, is.shown x fit.0) (others_printed xs fit.1)

  series_printed : (xs : List X) → AllByRecursion f.fits xs → Printed (series_spell sep close f.spell xs)
  series_printed [] fit = (ends, tt)
  series_printed (x ∷ xs) fit =
      joined (f.spell x) (flat_map (λ y. sep ∷ f.spell y) xs ++ (close ∷ [])) (is.shown x fit.0) (joined (flat_map (λ y. sep ∷ f.spell y) xs) (close ∷ []) (others_printed xs fit.1) (ends, tt))

  pub series_shown : Shown (series sep close f)
  series_shown = record { shown = series_printed }

pub list_shown : {X : Type 0} (f : Form X) → Shown f → Shown (list_of f)
list_shown {X} f is = record { shown = printed } where
  printed : (v : Vector X) → list_fits f.fits v → Printed (list_spell f.spell v)
  printed nullable.Null fit = (refl, tt)
  printed (nullable.Full xs) fit = (refl, series_printed 44 93 refl refl f is xs fit)

-- ---- records

pub acl_shown : Shown acl
acl_shown = record { shown = λ a fit. (int_shown with led_shown words.Colon text_shown with led_shown words.Colon text_shown).shown (a.perms, (a.who.scheme, a.who.ident)) fit }

pub acls_shown : Shown (list_of acl)
acls_shown = list_shown acl acl_shown

pub texts_shown : Shown (list_of text)
texts_shown = list_shown text text_shown
