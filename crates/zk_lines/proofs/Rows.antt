-- Tables with a row a key: each value has the laws of its row.
use Rattle.std.proofs.Common.{◌≡◌, ℕ, List, [], ◌∷◌, ◌++◌, Option, Some, None, true, refl, ap, sym, subst, ◌∙◌, append_assoc}
use Rattle.std.specs.List.{flat_map}
use Rattle.zk_jute.specs.Item.{Item, HaveBytes}
use Rattle.zk_items.specs.{Form.Form, Form.read_map, Form.stops, Form.fields, Form.word_at, Laws.Lawful}
use Rattle.zk_items.specs.Form as form
use Rattle.zk_items.proofs.Forms.{IsField, and_is, and_opens, fields_is, some_is}
use Rattle.zk_lines.specs.{Words.field, Words.word_of, declared.word.Word.Word, Series.multi_of, Series.series, Named.named}
use Rattle.zk_lines.specs.declared.word.Word.TheVariants as words
use Rattle.zk_lines.specs.Rows.{Row, holds, nothing, Content, remake, form_of, row_at, Written, written, bodies_of}
use Rattle.zk_lines.proofs.{Words.field_is, Named.IsNames, Named.named_is, Named.mapped, Series.NeverBegins, Series.series_is, Held.parted, Held.each_held, Shown.Shown, Shown.led_shown, Shown.series_shown}
use Rattle.zk_lines.proofs.LawsPrinted.{Printed, joined, word_printed, letters_printed}

-- ---- fields

-- the laws of an item: it is read as it is spelled, what has bytes fits, and what fits is printed
pub record IsItem {X : Type 0} (f : Form X) (items : X → List Item) : Type 0 where
  pub lawful : Lawful f
  pub held : (x : X) → HaveBytes (items x) → f.fits x
  pub shown : (x : X) → f.fits x → Printed (f.spell x)

-- the laws of a field, or of some in order
pub record IsFields {X : Type 0} (f : Form X) (items : X → List Item) : Type 0 where
  pub is : IsField f
  pub held : (x : X) → HaveBytes (items x) → f.fits x
  pub shown : (x : X) → f.fits x → Printed (f.spell x)

pub field_of : {X : Type 0} {f : Form X} {items : X → List Item} (word : Word) → IsItem f items → IsFields (field word f) items
field_of {f} word is = record {
  is = field_is word f is.lawful;
  held = is.held;
  shown = λ x fit. joined (word_of word) (f.spell x) (word_printed word) (is.shown x fit);
}

infixr 20 ◌with◌
pub ◌with◌ : {X Y : Type 0} {f : Form X} {g : Form Y} {v : X → List Item} {w : Y → List Item} → IsFields f v → IsFields g w → IsFields (form.◌and◌ f g) (λ p. v p.0 ++ w p.1)
◌with◌ {f} {g} {v} {w} left right = record {
  is = record { lawful = and_is f left.is.lawful g right.is.lawful right.is.opens; opens = and_opens f g left.is.opens };
  held = λ p h. let r = parted (v p.0) (w p.1) h in (left.held p.0 r.0, right.held p.1 r.1);
  shown = λ p fit. joined (f.spell p.0) (g.spell p.1) (left.shown p.0 fit.0) (right.shown p.1 fit.1);
}

-- ---- rows

-- the laws of what stands behind a name
pub record IsRow {X : Type 0} (f : Form X) (items : X → List Item) : Type 0 where
  pub lawful : Lawful f
  pub opens : (x : X) (rest : List ℕ) → stops rest ≡ true → stops (f.spell x ++ rest) ≡ true
  pub held : (x : X) → HaveBytes (items x) → f.fits x
  pub shown : (x : X) → f.fits x → Printed (f.spell x)

pub row_of_fields : {X : Type 0} {f : Form X} {items : X → List Item} → IsFields f items → IsRow f items
row_of_fields is = record { lawful = is.is.lawful; opens = λ x rest stop. is.is.opens x rest; held = is.held; shown = is.shown }

pub row_of_record : {X Y : Type 0} (f : Form Y) (items : Y → List Item) → IsFields f items → (out : X → Y) (made : Y → X) → ((x : X) → made (out x) ≡ x) → ((y : Y) → out (made y) ≡ y) → IsRow (fields f out made) (λ x. items (out x))
row_of_record f items is out made same back = record {
  lawful = fields_is f is.is.lawful out made same back;
  opens = λ x rest stop. is.is.opens (out x) rest;
  held = λ x. is.held (out x);
  shown = λ x. is.shown (out x);
}

-- the elements of a multi, between braces
row_of_series : {X : Type 0} {f : Form X} (items : X → List Item) (last : List Item) → Lawful f → NeverBegins f 125 → ((x : X) → HaveBytes (items x) → f.fits x) → Shown f → IsRow (field words.Parts (series 59 125 f)) (λ xs. flat_map items xs ++ last)
row_of_series {X} {f} items last is begins held printed = record {
  lawful = spelled.lawful;
  opens = λ xs rest stop. spelled.opens xs rest;
  held = λ xs h. each_held items f.fits held xs (parted (flat_map items xs) last h).0;
  shown = (led_shown words.Parts (series_shown 59 125 refl refl f printed)).shown;
} where
  spelled : IsField (field words.Parts (series 59 125 f))
  spelled = field_is words.Parts _ (series_is 59 125 (λ e. absurd cc) (λ _. refl) (λ _. refl) f is begins)

nothing_lawful : Lawful nothing
nothing_lawful = record { again = λ x rest fit stop. refl; sound = λ bytes x rest e. ((some_is (tt, bytes) (x, rest) e).1, tt) }

pub nothing_is : (items : Unit {0} → List Item) → IsRow nothing items
nothing_is items = record { lawful = nothing_lawful; opens = λ x rest stop. stop; held = λ x h. tt; shown = λ x fit. tt }

row_again : {Y : Type 0} (r : Row Y) → Lawful (form_of r) → (x : Content r) (rest : List ℕ) → (form_of r).fits x → stops rest ≡ true → row_at r ((form_of r).spell x ++ rest) ≡ Some (remake r x, rest)
row_again (holds make f) is x rest fit stop = ap (read_map make) (is.again x rest fit stop)

row_sound : {Y : Type 0} (r : Row Y) → Lawful (form_of r) → (bytes rest : List ℕ) (y : Y) → row_at r bytes ≡ Some (y, rest) → (x : Content r) × (remake r x ≡ y) × ((bytes ≡ (form_of r).spell x ++ rest) × (form_of r).fits x)
row_sound (holds make f) is bytes rest y e = mapped f is make bytes rest y e

-- ---- tables

-- what a row makes is written by it, and has its key
abbrev pub IsMade : {K Y : Type 0} (row : K → Row Y) (write : Y → Written) (key : Y → K) (k : K) → Content (row k) → Type 1
IsMade row write key k x = (write (remake (row k) x) ≡ written row k x) × (key (remake (row k) x) ≡ k)

-- a row has the laws, and what it makes is written by it
abbrev pub IsRowOf : {K Y : Type 0} (row : K → Row Y) (write : Y → Written) (key : Y → K) (items : Y → List Item) (k : K) → Type 1
IsRowOf row write key items k = IsRow (form_of (row k)) (λ x. items (remake (row k) x)) × ((x : Content (row k)) → IsMade row write key k x)

-- each value is made by a row
pub record IsTable {K Y : Type 0} (row : K → Row Y) (write : Y → Written) (key : Y → K) (items : Y → List Item) : Type 1 where
  -- what holds of each value that a row makes holds of all
  pub each : (P : Y → Type 0) → ((k : K) (x : Content (row k)) → P (remake (row k) x)) → (y : Y) → P y
  pub rows : (k : K) → IsRowOf row write key items k

module _ {K Y : Type 0} {row : K → Row Y} {write : Y → Written} {key : Y → K} {items : Y → List Item} (table : IsTable row write key items) where
  -- what holds of all that rows write holds of how each value is written
  cases : (P : Y → Written → Type 0) → ((k : K) (x : Content (row k)) → P (remake (row k) x) (written row k x)) → (y : Y) → P y (write y)
  cases P h = table.each (λ y. P y (write y)) (λ k x. subst (P (remake (row k) x)) (sym ((table.rows k).1 x).0) (h k x))

  pub table_opens : (y : Y) (rest : List ℕ) → stops rest ≡ true → stops ((write y).spell ++ rest) ≡ true
  table_opens y rest stop = cases (λ y w. stops (w.spell ++ rest) ≡ true) (λ k x. (table.rows k).0.opens x rest stop) y

  pub table_again : (y : Y) (rest : List ℕ) → (write y).fits → stops rest ≡ true → row_at (row (key y)) ((write y).spell ++ rest) ≡ Some (y, rest)
  table_again y rest = cases (λ y w. w.fits → stops rest ≡ true → row_at (row (key y)) (w.spell ++ rest) ≡ Some (y, rest)) made y where
    made : (k : K) (x : Content (row k)) → (form_of (row k)).fits x → stops rest ≡ true → row_at (row (key (remake (row k) x))) ((form_of (row k)).spell x ++ rest) ≡ Some (remake (row k) x, rest)
    made k x fit stop = ap (λ (j : K). row_at (row j) ((form_of (row k)).spell x ++ rest)) ((table.rows k).1 x).1 ∙ row_again (row k) (table.rows k).0.lawful x rest fit stop

  pub table_sound : (k : K) (bytes : List ℕ) (y : Y) (rest : List ℕ) → row_at (row k) bytes ≡ Some (y, rest) → (key y ≡ k) × ((bytes ≡ (write y).spell ++ rest) × (write y).fits)
  table_sound k bytes y rest e =
      let m = row_sound (row k) (table.rows k).0.lawful bytes rest y e in
      subst (λ (y : Y). (key y ≡ k) × ((bytes ≡ (write y).spell ++ rest) × (write y).fits)) m.1
      (((table.rows k).1 m.0).1, subst (λ (w : Written). (bytes ≡ w.spell ++ rest) × w.fits) (sym ((table.rows k).1 m.0).0) m.2)

  pub table_held : (y : Y) → HaveBytes (items y) → (write y).fits
  table_held = cases (λ y w. HaveBytes (items y) → w.fits) (λ k x. (table.rows k).0.held x)

  pub table_shown : (y : Y) → (write y).fits → Printed (write y).spell
  table_shown = cases (λ y w. w.fits → Printed w.spell) (λ k x. (table.rows k).0.shown x)

  pub table_is : {name : K → List ℕ} {key_at : List ℕ → Option K} → IsNames name key_at → Lawful (named (bodies_of name key_at key row write))
  table_is {name} {key_at} names = named_is (bodies_of name key_at key row write) (record {
    found = names.found;
    tells = names.tells;
    letters = names.letters;
    opens = table_opens;
    again = table_again;
    sound = table_sound;
  })

  pub named_shown : {name : K → List ℕ} {key_at : List ℕ → Option K} → IsNames name key_at → Shown (named (bodies_of name key_at key row write))
  named_shown {name} names = record { shown = λ y fit. joined (name (key y)) (write y).spell (letters_printed (name (key y)) (names.letters (key y))) (table_shown y fit) }

  -- the values of a multi, of whose items those of the row are some
  pub table_series : {name : K → List ℕ} {key_at : List ℕ → Option K} → IsNames name key_at → (all : Y → List Item) (last : List Item) → ((y : Y) → HaveBytes (all y) → HaveBytes (items y))
      → IsRow (multi_of (named (bodies_of name key_at key row write))) (λ ys. flat_map all ys ++ last)
  table_series {name} names all last own = row_of_series all last (table_is names) begins (λ y h. table_held y (own y h)) (named_shown names) where
    begins : (y : Y) (rest : List ℕ) → (write y).fits → word_at (125 ∷ []) ((name (key y) ++ (write y).spell) ++ rest) ≡ None
    begins y rest fit = ap (word_at (125 ∷ [])) (append_assoc (name (key y)) (write y).spell rest) ∙ names.unbraced (key y) ((write y).spell ++ rest)
