-- An item may end before any fixed word.
use Rattle.std.proofs.Common.{◌≡◌, ℕ, List, ◌++◌, true, refl}
use Rattle.zk_items.specs.{Form.Form, Form.stops, Laws.Lawful}
use Rattle.zk_items.proofs.Forms.{IsField, led_is, led_opens}
use Rattle.zk_lines.specs.{declared.word.Word.Word, Words.word_of, Words.field}
use Rattle.zk_lines.specs.declared.word.Word.TheVariants as words

pub word_stops : (w : Word) (rest : List ℕ) → stops (word_of w ++ rest) ≡ true
unfolding word_of
word_stops words.Acl rest = refl
word_stops _ rest = refl

pub field_is : {X : Type 0} (w : Word) (f : Form X) → Lawful f → IsField (field w f)
field_is w f is = record { lawful = led_is (word_of w) f is; opens = led_opens (word_of w) f (word_stops w) }
