-- The lines of what a client sends have the laws of lines.
use Rattle.std.proofs.Common.{◌++◌, refl}
use Rattle.zk_jute.specs.{Flagged.flag_items, Item.HaveBytes}
use Rattle.zk_records.specs.Records as records
use Rattle.zk_records.specs.{declared.op.Op.Op, declared.op.PartOp.PartOp, Codes.op_name, Codes.all_ops, Codes.part_name, Codes.all_parts}
use Rattle.zk_records.specs.declared.op.Op.TheVariants as ops
use Rattle.zk_records.specs.declared.op.PartOp.TheVariants as parts
use Rattle.zk_asks.specs.{Held.Ask, Rows.op_of_ask, Rows.body_items}
use Rattle.zk_asks.specs.Parts.{op_of_part, record_of, part_items, part_header, end_header, marked, multi_items}
use Rattle.zk_items.specs.{Leaf.int, Laws.Lawful}
use Rattle.zk_lines.specs.Words.{field}
use Rattle.zk_lines.specs.declared.word.Word.TheVariants as words
use Rattle.zk_items.proofs.{Forms.IsField, Forms.and_is, Numbers.int_is}
use Rattle.zk_lines.proofs.{Words.field_is, Named.IsNames, Named.IsFound, Named.names_of, Held.parted, Shown.Shown}
use Rattle.zk_lines.specs.Asks as asks
use Rattle.zk_lines.proofs.Rows.{IsRow, IsRowOf, IsTable, ◌with◌, field_of, row_of_record, nothing_is, table_is, table_held, table_series, named_shown}
use Rattle.zk_lines.proofs.Items.{int_item, long_item, bit_item, ro_item, text_item, blob_item, texts_item, acls_item, path_field, version_field}

-- ---- records

pub connect_is : IsRow asks.connect (λ p. records.connect_request.items p.0 ++ flag_items p.1)
connect_is =
    row_of_record _ _ (version_field with field_of words.Zxid long_item with field_of words.Timeout int_item with field_of words.Session long_item with field_of words.Passwd blob_item with field_of words.ReadOnly ro_item) _ _
    (λ _. refl) (λ _. refl)

create_is : IsRow asks.create records.create_ask.items
create_is = row_of_record _ _ (path_field with field_of words.Blob blob_item with field_of words.Acl acls_item with field_of words.Flags int_item) _ _ (λ _. refl) (λ _. refl)

delete_is : IsRow asks.delete records.delete_ask.items
delete_is = row_of_record _ _ (path_field with version_field) _ _ (λ _. refl) (λ _. refl)

watch_is : IsRow asks.watch records.watch_ask.items
watch_is = row_of_record _ _ (path_field with field_of words.Watch bit_item) _ _ (λ _. refl) (λ _. refl)

set_data_is : IsRow asks.set_data records.set_data_ask.items
set_data_is = row_of_record _ _ (path_field with field_of words.Blob blob_item with version_field) _ _ (λ _. refl) (λ _. refl)

path_is : IsRow asks.path records.path_ask.items
path_is = row_of_record _ _ path_field _ _ (λ _. refl) (λ _. refl)

set_acl_is : IsRow asks.set_acl records.set_acl_ask.items
set_acl_is = row_of_record _ _ (path_field with field_of words.Acl acls_item with version_field) _ _ (λ _. refl) (λ _. refl)

auth_is : IsRow asks.auth records.auth_ask.items
auth_is = row_of_record _ _ (field_of words.Kind int_item with field_of words.Scheme text_item with field_of words.Auth blob_item) _ _ (λ _. refl) (λ _. refl)

set_watches_is : IsRow asks.set_watches records.set_watches_ask.items
set_watches_is =
    row_of_record _ _ (field_of words.Zxid long_item with field_of words.DataWatches texts_item with field_of words.ExistWatches texts_item with field_of words.ChildWatches texts_item) _ _ (λ _. refl) (λ _. refl)

check_is : IsRow asks.check records.check_ask.items
check_is = row_of_record _ _ (path_field with version_field) _ _ (λ _. refl) (λ _. refl)

create_ttl_is : IsRow asks.create_ttl records.create_ttl_ask.items
create_ttl_is =
    row_of_record _ _ (path_field with field_of words.Blob blob_item with field_of words.Acl acls_item with field_of words.Flags int_item with field_of words.Ttl long_item) _ _ (λ _. refl) (λ _. refl)

watches_is : IsRow asks.watches records.watches_ask.items
watches_is = row_of_record _ _ (path_field with field_of words.Kind int_item) _ _ (λ _. refl) (λ _. refl)

add_watch_is : IsRow asks.add_watch records.add_watch_ask.items
add_watch_is = row_of_record _ _ (path_field with field_of words.Mode int_item) _ _ (λ _. refl) (λ _. refl)

reconfig_is : IsRow asks.reconfig records.reconfig_ask.items
reconfig_is =
    row_of_record _ _ (field_of words.Joining text_item with field_of words.Leaving text_item with field_of words.Members text_item with field_of words.Config long_item) _ _ (λ _. refl) (λ _. refl)

-- ---- parts of a multi

part_found : (k : PartOp) → IsFound part_name all_parts k
part_found parts.Create = (refl, refl)
part_found _ = (refl, refl)

part_names : IsNames part_name asks.part_named
unfolding asks.part_named
part_names = names_of part_name all_parts part_found

-- each part's record has the laws
part_rows : (k : PartOp) → IsRowOf asks.part_line_of asks.part_written op_of_part record_of k
part_rows parts.Create = (create_is, λ x. (refl, refl))
part_rows parts.Delete = (delete_is, λ x. (refl, refl))
part_rows parts.SetData = (set_data_is, λ x. (refl, refl))
part_rows parts.Check = (check_is, λ x. (refl, refl))

pub part_table : IsTable asks.part_line_of asks.part_written op_of_part record_of
part_table = record { each = asks.by_part; rows = part_rows }

multi_is : IsRow asks.multi multi_items
multi_is = table_series part_table part_names part_items (marked end_header) (λ p h. (parted (marked (part_header (op_of_part p))) (record_of p) h).1)

-- ---- requests

op_found : (k : Op) → IsFound op_name all_ops k
op_found ops.Create = (refl, refl)
op_found _ = (refl, refl)

pub op_names : IsNames op_name asks.op_named
unfolding asks.op_named
op_names = names_of op_name all_ops op_found

ruleset ask_records = (create_ttl_is, watches_is, add_watch_is, reconfig_is, create_is, delete_is, watch_is, set_data_is, path_is, set_acl_is, auth_is, set_watches_is, multi_is, nothing_is)

-- each request's record has the laws
ask_rows : (k : Op) → IsRowOf asks.line_of asks.ask_written op_of_ask body_items k
ask_rows ops.Create = (create_is, λ x. (refl, refl))
ask_rows _ = (search ask_records, λ x. (refl, refl))

pub ask_table : IsTable asks.line_of asks.ask_written op_of_ask body_items
ask_table = record { each = asks.by_line; rows = ask_rows }

pub ask_held : (a : Ask) → HaveBytes (body_items a) → asks.ask_form.fits a
ask_held = table_held ask_table

pub ask_shown : Shown asks.ask_form
ask_shown = named_shown ask_table op_names

asked_is : IsField (field words.Blank asks.ask_form)
asked_is = field_is words.Blank asks.ask_form (table_is ask_table op_names)

pub request_is : Lawful asks.request
request_is = and_is int int_is (field words.Blank asks.ask_form) asked_is.lawful asked_is.opens
