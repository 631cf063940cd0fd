-- Access lists are read as they are spelled; numbers are written before others; and what is written in front.
use Rattle.std.proofs.Common.{◌≡◌, ◌∷◌, ◌++◌, ℕ, List, refl, ap, sym, ◌∙◌, append_assoc}
use Rattle.zk_items.specs.Form.{◌and◌}
use Rattle.zk_items.specs.{Leaf.int, Leaf.text, Laws.Lawful}
use Rattle.zk_items.proofs.Forms.{IsField, and_is, fields_is, ◌with◌}
use Rattle.zk_items.proofs.{Numbers.int_is, Texts.text_is}
use Rattle.zk_lines.specs.{Words.field, declared.word.Word.TheVariants.Colon, Records.acl}
use Rattle.zk_lines.proofs.Words.{field_is}

names_is : IsField (field Colon text and field Colon text)
names_is = field_is Colon text text_is with field_is Colon text text_is

pub acl_is : Lawful acl
acl_is = fields_is _ (and_is int int_is _ names_is.lawful names_is.opens) _ _ (λ _. refl) (λ _. refl)

-- a number is written before others and a comma
pub row_written : (sign : ℕ) (w v first others rest : List ℕ) → w ≡ sign ∷ (first ++ v) → v ≡ 44 ∷ (others ++ rest) → w ≡ sign ∷ ((first ++ (44 ∷ others)) ++ rest)
row_written sign w v first others rest is ahead =
    is ∙ ap (λ (l : List ℕ). sign ∷ (first ++ l)) ahead ∙ ap (λ (l : List ℕ). sign ∷ l) (sym (append_assoc first (44 ∷ others) rest))
