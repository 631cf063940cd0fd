-- The laws of the items of a line, and of the fields that many records have.
use Rattle.std.proofs.Common.{List, ◌++◌, refl}
use Rattle.zk_jute.specs.{Flagged.flag_items, Item.Item, Wired.Wired}
use Rattle.zk_jute.specs.Wired as wired
use Rattle.zk_records.specs.Records as records
use Rattle.zk_items.specs.{Form.Form, Codes.event_code, Codes.type_name, Leaf.int, Leaf.long, Leaf.bit, Leaf.ro, Leaf.text, Leaf.blob, Laws.Lawful}
use Rattle.zk_items.proofs.{Numbers.int_is, Numbers.long_is, Codes.code_is, Flags.bit_is, Flags.ro_is, Texts.text_is, Blobs.blob_is, Forms.and_is, Forms.closed_is, Forms.fields_is}
use Rattle.zk_lines.specs.{Words.field, Words.word_of, Series.list_of, Records.acl, Records.row, Records.numbers_of, Records.stat}
use Rattle.zk_lines.specs.declared.word.Word.TheVariants as words
use Rattle.zk_lines.proofs.{Words.word_stops, LawsPrinted.joined, LawsPrinted.word_printed, Rows.IsItem, Rows.IsFields, Rows.field_of}
use Rattle.zk_lines.proofs.Lists as lists
use Rattle.zk_lines.proofs.Held.{Held, int_fits, int_held, long_held, bit_held, text_held, blob_held, names_held, acls_held, parted}
use Rattle.zk_lines.proofs.Shown.{Shown, int_shown, long_shown, bit_shown, ro_shown, text_shown, blob_shown, event_code_shown, texts_shown, acls_shown}

item : {X : Type 0} {w : Wired X} {f : Form X} → Lawful f → Held w f → Shown f → IsItem f w.items
item is held shown = record { lawful = is; held = held.held; shown = shown.shown }

pub int_item : IsItem int wired.int.items
int_item = item int_is int_held int_shown

pub long_item : IsItem long wired.long.items
long_item = item long_is long_held long_shown

pub bit_item : IsItem bit wired.boolean.items
bit_item = item bit_is bit_held bit_shown

pub ro_item : IsItem ro flag_items
ro_item = record { lawful = ro_is; held = λ b h. tt; shown = ro_shown.shown }

pub event_code_item : IsItem event_code wired.int.items
event_code_item = record { lawful = code_is type_name; held = λ n h. int_fits n h.0; shown = event_code_shown.shown }

pub text_item : IsItem text wired.ustring.items
text_item = item text_is text_held text_shown

pub blob_item : IsItem blob wired.buffer.items
blob_item = item blob_is blob_held blob_shown

pub texts_item : IsItem (list_of text) (wired.vector wired.ustring).items
texts_item = item lists.texts_is names_held texts_shown

pub acls_item : IsItem (list_of acl) (wired.vector records.acl).items
acls_item = item lists.acls_is acls_held acls_shown

-- two items with a comma between
infixr 20 ◌beside◌
◌beside◌ : {X Y : Type 0} {f : Form X} {g : Form Y} {v : X → List Item} {w : Y → List Item} → IsItem f v → IsItem g w → IsItem (row f g) (λ p. v p.0 ++ w p.1)
◌beside◌ {f} {g} {v} {w} left right =
    let others = field_of words.Comma right in
    record {
      lawful = and_is f left.lawful (field words.Comma g) others.is.lawful others.is.opens;
      held = λ p h. let r = parted (v p.0) (w p.1) h in (left.held p.0 r.0, right.held p.1 r.1);
      shown = λ p fit. joined (f.spell p.0) ((field words.Comma g).spell p.1) (left.shown p.0 fit.0) (others.shown p.1 fit.1);
    }

pub stat_item : IsItem stat records.stat.items
stat_item =
    let numbers = long_item beside long_item beside long_item beside long_item beside int_item beside int_item beside int_item beside long_item beside int_item beside int_item beside long_item in
    let opened = field_of words.Open numbers in
    record {
      lawful = fields_is _ (closed_is _ opened.is.lawful _ (word_stops words.Close)) _ _ (λ _. refl) (λ _. refl);
      held = λ s h. opened.held (numbers_of s) h;
      shown = λ s fit. joined _ (word_of words.Close) (opened.shown (numbers_of s) fit) (word_printed words.Close);
    }

-- ---- fields

pub path_field : IsFields (field words.Path text) wired.ustring.items
path_field = field_of words.Path text_item

pub version_field : IsFields (field words.Version int) wired.int.items
version_field = field_of words.Version int_item

pub stat_field : IsFields (field words.Stat stat) records.stat.items
stat_field = field_of words.Stat stat_item
