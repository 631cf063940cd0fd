-- The lists of a line.
use Rattle.std.proofs.Common.{◌≡◌, ℕ, List, [], ◌∷◌, ◌++◌, Some, None, Bool, true, false, ◌==◌, refl, ap, ◌∙◌, append_assoc, cond, arith}
use Rattle.std.specs.{Fmt.signed_decimal, List.AllByRecursion}
use Rattle.zk_jute.specs.Held.{Text}
use Rattle.zk_jute.specs.declared.value.Nullable.TheVariants as nullable
use Rattle.zk_records.specs.Held.{Acl}
use Rattle.zk_items.specs.Form.{word_at, ◌and◌}
use Rattle.zk_items.specs.{Leaf.text, Leaf.text_fits, Leaf.text_spell, Leaf.in_number, Laws.Lawful}
use Rattle.zk_items.proofs.{Numbers.wide, Numbers.written_value, Texts.text_is}
use Rattle.zk_lines.specs.{Words.word_of, Words.field, declared.word.Word.TheVariants.Colon, Series.list_of, Records.acl}
use Rattle.zk_lines.proofs.{Records.acl_is, Series.list_is}

text_begins : (x : Text) (rest : List ℕ) → text_fits x → word_at (93 ∷ []) (text_spell x ++ rest) ≡ None
unfolding word_at
text_begins nullable.Null rest fit = refl
text_begins (nullable.Full t) rest fit = refl

pub texts_is : Lawful (list_of text)
texts_is = list_is text text_is text_begins

-- what begins with a number and a colon doesn't begin with a bracket
number_begins : (ds more : List ℕ) → AllByRecursion (λ b. in_number b ≡ true) ds → word_at (93 ∷ []) (ds ++ (58 ∷ more)) ≡ None
unfolding word_at
number_begins [] more all = refl
number_begins (d ∷ ds) more all =
    let h : in_number d ≡ true = all.0 in
    let other : (93 == d) ≡ false = grind (arith, h) in
    ap (λ (t : Bool). cond t (Some (ds ++ (58 ∷ more))) None) other

acl_begins : (a : Acl) (rest : List ℕ) → acl.fits a → word_at (93 ∷ []) (acl.spell a ++ rest) ≡ None
unfolding word_of
acl_begins a rest fit =
    let names = (field Colon text and field Colon text).spell (a.who.scheme, a.who.ident) in
    ap (word_at (93 ∷ [])) (append_assoc (signed_decimal a.perms) names rest) ∙ number_begins (signed_decimal a.perms) _ (written_value a.perms (wide a.perms fit.0)).1

pub acls_is : Lawful (list_of acl)
acls_is = list_is acl acl_is acl_begins
