-- The lines of what a server sends have the laws of lines.
use Rattle.std.proofs.Common.{◌≡◌, ℕ, ℤ, List, [], ◌∷◌, ◌++◌, Option, Some, None, Bool, true, false, refl, ap, sym, subst, ◌∙◌, append_assoc}
use Rattle.zk_jute.specs.{Flagged.flag_items, Item.HaveBytes}
use Rattle.zk_jute.specs.Wired as wired
use Rattle.zk_records.specs.Records as records
use Rattle.zk_records.specs.declared.op.Op.{Op}
use Rattle.zk_records.specs.declared.op.Op.TheVariants as ops
use Rattle.zk_asks.specs.Parts.{end_header, marked}
use Rattle.zk_answers.specs.{Held.PartDone, Held.Body, Held.Outcome, Frames.op_of_outcome, Results.done_items, Results.result_of, Results.multi_items, Rows.op_of_body, Rows.body_items}
use Rattle.zk_answers.specs.declared.frame.PartDoneOf.TheVariants as done
use Rattle.zk_answers.specs.declared.frame.BodyOf.TheVariants as body
use Rattle.zk_answers.specs.declared.frame.OutcomeOf.TheVariants as outcome
use Rattle.zk_items.specs.Form.{Read, ◌>>=◌, read_map, stops, word_at}
use Rattle.zk_items.specs.{Leaf.int, Leaf.long, Leaf.text, Codes.error_code, Codes.failure_code, Codes.error_name, Laws.Lawful, Laws.LawfulBefore}
use Rattle.zk_lines.specs.{Words.field, Words.word_of, declared.multi_result.DoneName.DoneName, Series.if_passed, Series.list_of, Records.stat, Rows.row_at}
use Rattle.zk_lines.specs.declared.word.Word.TheVariants as words
use Rattle.zk_items.proofs.Forms.{IsField, fields_is, and_is, led_is, bind_some, some_is, word_again, word_sound}
use Rattle.zk_items.proofs.{Numbers.int_is, Numbers.long_is, Codes.code_is, Codes.other_code_is}
use Rattle.zk_lines.proofs.{Words.field_is, Words.word_stops, Named.IsNames, Named.IsFound, Named.IsRead, Named.named_is, Named.names_of, Named.mapped, LawsPrinted.Printed, Held.int_fits, Shown.error_shown, Asks.op_names}
use Rattle.zk_lines.specs.declared.multi_result.DoneName.TheVariants as names
use Rattle.zk_lines.specs.Answers as answers
use Rattle.zk_lines.proofs.Rows.{IsItem, IsRow, IsRowOf, IsTable, ◌with◌, field_of, row_of_fields, row_of_record, nothing_is, table_opens, table_again, table_sound, table_held, table_series, table_shown}
use Rattle.zk_lines.proofs.Items.{int_item, long_item, ro_item, blob_item, texts_item, acls_item, event_code_item, path_field, version_field, stat_field}

-- ---- records

error_is : IsItem error_code wired.int.items
error_is = record { lawful = code_is error_name; held = λ e h. int_fits e h.0; shown = error_shown.shown }

failure_is : Lawful failure_code
failure_is = other_code_is error_name

failed_is : IsField (field words.Err failure_code)
failed_is = field_is words.Err failure_code failure_is

pub connected_is : IsRow answers.connected (λ p. records.connect_response.items p.0 ++ flag_items p.1)
connected_is =
    row_of_record _ _ (version_field with field_of words.Timeout int_item with field_of words.Session long_item with field_of words.Passwd blob_item with field_of words.ReadOnly ro_item) _ _ (λ _. refl) (λ _. refl)

pub event_is : IsRow answers.event (λ p. wired.long.items p.0 ++ records.watcher_event.items p.1)
event_is = row_of_record _ _ (field_of words.Zxid long_item with field_of words.Kind event_code_item with field_of words.State int_item with path_field) _ _ (λ _. refl) (λ _. refl)

path_row : IsRow (field words.Path text) wired.ustring.items
path_row = row_of_fields path_field

stat_row : IsRow (field words.Stat stat) records.stat.items
stat_row = row_of_fields stat_field

names_row : IsRow (field words.Names (list_of text)) (wired.vector wired.ustring).items
names_row = row_of_fields (field_of words.Names texts_item)

count_row : IsRow (field words.Count int) wired.int.items
count_row = row_of_fields (field_of words.Count int_item)

code_row : IsRow (field words.Code int) wired.int.items
code_row = row_of_fields (field_of words.Code int_item)

failed_row : IsRow (field words.Err error_code) wired.int.items
failed_row = row_of_fields (field_of words.Err error_is)

content_is : IsRow answers.content records.data_body.items
content_is = row_of_record _ _ (field_of words.Blob blob_item with stat_field) _ _ (λ _. refl) (λ _. refl)

acls_is : IsRow answers.acls records.acl_body.items
acls_is = row_of_record _ _ (field_of words.Acl acls_item with stat_field) _ _ (λ _. refl) (λ _. refl)

created_is : IsRow answers.created records.create_body.items
created_is = row_of_record _ _ (path_field with stat_field) _ _ (λ _. refl) (λ _. refl)

children_is : IsRow answers.children records.children_body.items
children_is = row_of_record _ _ (field_of words.Names texts_item with stat_field) _ _ (λ _. refl) (λ _. refl)

-- ---- results of a multi

done_found : (k : DoneName) → IsFound answers.done_name answers.all_dones k
done_found names.Create = (refl, refl)
done_found _ = (refl, refl)

done_names : IsNames answers.done_name answers.done_named
unfolding answers.done_named
done_names = names_of answers.done_name answers.all_dones done_found

-- what each result holds has the laws
done_rows : (k : DoneName) → IsRowOf answers.done_line_of answers.done_written answers.name_of_done result_of k
done_rows names.Create = (path_row, λ x. (refl, refl))
done_rows names.Delete = (nothing_is _, λ x. (refl, refl))
done_rows names.SetData = (stat_row, λ x. (refl, refl))
done_rows names.Check = (nothing_is _, λ x. (refl, refl))
done_rows names.Fail = (failed_row, λ x. (refl, refl))

done_table : IsTable answers.done_line_of answers.done_written answers.name_of_done result_of
done_table = record { each = answers.by_done; rows = done_rows }

-- behind the header
result_has : (d : PartDone) → HaveBytes (done_items d) → HaveBytes (result_of d)
result_has (done.Created p) h = h.1.1.1
result_has _ h = h.1.1.1

multi_is : IsRow answers.multi multi_items
multi_is = table_series done_table done_names done_items (marked end_header) result_has

-- ---- replies

ruleset body_records = (path_row, stat_row, names_row, count_row, code_row, content_is, acls_is, created_is, children_is, multi_is, nothing_is)

-- what each operation gives has the laws
body_rows : (k : Op) → IsRowOf answers.line_of answers.body_written op_of_body body_items k
body_rows ops.Create = (path_row, λ x. (refl, refl))
body_rows _ = (search body_records, λ x. (refl, refl))

body_table : IsTable answers.line_of answers.body_written op_of_body body_items
body_table = record { each = answers.by_line; rows = body_rows }

pub body_held : (b : Body) → HaveBytes (body_items b) → (answers.body_written b).fits
body_held = table_held body_table

pub body_printed : (b : Body) → (answers.body_written b).fits → Printed (answers.body_written b).spell
body_printed = table_shown body_table

-- what stands behind a reply: nothing
abbrev pub is_end : List ℕ → Bool
is_end [] = true
is_end (b ∷ rest) = false

-- nothing that is done begins as an error does
body_begins : (x : Body) → word_at (word_of words.Err) ((answers.body_written x).spell ++ []) ≡ None
unfolding word_at word_of
body_begins (body.Create p) = refl
body_begins _ = refl

outcome_opens : (x : Outcome) (rest : List ℕ) → stops rest ≡ true → stops (answers.outcome_spell x ++ rest) ≡ true
outcome_opens (outcome.Done b) rest stop = table_opens body_table b rest stop
outcome_opens (outcome.Failed op e) rest stop = failed_is.opens e rest

outcome_again : (x : Outcome) → answers.outcome_fits x → answers.outcome_at (op_of_outcome x) (answers.outcome_spell x ++ []) ≡ Some (x, [])
outcome_again (outcome.Done b) fit =
    ap (λ (o : Option (List ℕ)). if_passed o (λ rest. read_map (outcome.Failed (op_of_body b)) (failure_code.at rest)) (read_map outcome.Done (row_at (answers.line_of (op_of_body b)) ((answers.body_written b).spell ++ [])))) (body_begins b)
    ∙ ap (read_map outcome.Done) (table_again body_table b [] fit refl)
outcome_again (outcome.Failed op e) fit =
    let word = word_of words.Err in
    let number = failure_code.spell e in
    let behind : word_at word ((word ++ number) ++ []) ≡ Some (number ++ []) = ap (word_at word) (append_assoc word number []) ∙ word_again word (number ++ []) in
    ap (λ (o : Option (List ℕ)). if_passed o (λ rest. read_map (outcome.Failed op) (failure_code.at rest)) (read_map outcome.Done (row_at (answers.line_of op) ((word ++ number) ++ [])))) behind
    ∙ ap (read_map (outcome.Failed op)) (failure_is.again e [] fit refl)

abbrev IsOutcome : Op → List ℕ → List ℕ → Outcome → Type 0
IsOutcome op bytes rest x = (op_of_outcome x ≡ op) × ((bytes ≡ answers.outcome_spell x ++ rest) × answers.outcome_fits x)

outcome_sound : (op : Op) (bytes : List ℕ) (x : Outcome) (rest : List ℕ) → answers.outcome_at op bytes ≡ Some (x, rest) → IsOutcome op bytes rest x
outcome_sound op bytes x rest e = pick (word_at (word_of words.Err) bytes) refl e where
  pick : (o : Option (List ℕ)) → word_at (word_of words.Err) bytes ≡ o → if_passed o (λ rest. read_map (outcome.Failed op) (failure_code.at rest)) (read_map outcome.Done (row_at (answers.line_of op) bytes)) ≡ Some (x, rest) → IsOutcome op bytes rest x
  pick None none e =
      let a = bind_some (row_at (answers.line_of op) bytes) (λ q. Some (outcome.Done q.0, q.1)) (x, rest) e in
      let pair = some_is (outcome.Done a.0.0, a.0.1) (x, rest) a.2 in
      let s = table_sound body_table op bytes a.0.0 a.0.1 a.1 in
      subst (IsOutcome op bytes rest) pair.0 (s.0, (s.1.0 ∙ ap (λ (r : List ℕ). (answers.body_written a.0.0).spell ++ r) pair.1, s.1.1))
  pick (Some behind) is e =
      let m = mapped failure_code failure_is (outcome.Failed op) behind rest x e in
      let word = word_of words.Err in
      subst (IsOutcome op bytes rest) m.1 (refl, (word_sound word bytes behind is ∙ ap (λ (r : List ℕ). word ++ r) m.2.0 ∙ sym (append_assoc word (failure_code.spell m.0) rest), m.2.1))

pub outcome_op : (op : Op) (bytes rest : List ℕ) (x : Outcome) → answers.outcome_at op bytes ≡ Some (x, rest) → op_of_outcome x ≡ op
outcome_op op bytes rest x e = (outcome_sound op bytes x rest e).0

-- ---- replies

zxid_is : IsField (field words.Zxid long)
zxid_is = field_is words.Zxid long long_is

named_opens : (x : ℤ × Outcome) (rest : List ℕ) → is_end rest ≡ true → stops (answers.outcome_bodies.spell x ++ rest) ≡ true
named_opens x rest end = ap stops (append_assoc ((field words.Zxid long).spell x.0) (answers.outcome_spell x.1) rest) ∙ zxid_is.opens x.0 (answers.outcome_spell x.1 ++ rest)

named_again : (x : ℤ × Outcome) (rest : List ℕ) → answers.outcome_bodies.fits x → is_end rest ≡ true → answers.outcome_bodies.at (op_of_outcome x.1) (answers.outcome_bodies.spell x ++ rest) ≡ Some (x, rest)
named_again x (b ∷ rest) fit end = absurd cc
named_again x [] fit end =
    let op = op_of_outcome x.1 in
    ap (answers.outcome_bodies.at op) (append_assoc ((field words.Zxid long).spell x.0) (answers.outcome_spell x.1) [])
    ∙ ap (λ (r : Read ℤ). r >>= λ z. answers.outcome_at op z.1 >>= λ o. Some ((z.0, o.0), o.1)) (zxid_is.lawful.again x.0 (answers.outcome_spell x.1 ++ []) fit.0 (outcome_opens x.1 [] refl))
    ∙ ap (λ (r : Read Outcome). r >>= λ o. Some ((x.0, o.0), o.1)) (outcome_again x.1 fit.1)

named_sound : (op : Op) (bytes : List ℕ) (x : ℤ × Outcome) (rest : List ℕ) → answers.outcome_bodies.at op bytes ≡ Some (x, rest) → IsRead answers.outcome_bodies op bytes rest x
named_sound op bytes x rest e =
    let a = bind_some ((field words.Zxid long).at bytes) (λ z. answers.outcome_at op z.1 >>= λ o. Some ((z.0, o.0), o.1)) (x, rest) e in
    let b = bind_some (answers.outcome_at op a.0.1) (λ o. Some ((a.0.0, o.0), o.1)) (x, rest) a.2 in
    let pair = some_is ((a.0.0, b.0.0), b.0.1) (x, rest) b.2 in
    let first = zxid_is.lawful.sound bytes a.0.0 a.0.1 a.1 in
    let second = outcome_sound op a.0.1 b.0.0 b.0.1 b.1 in
    let zxid = (field words.Zxid long).spell a.0.0 in
    let whole : bytes ≡ (zxid ++ answers.outcome_spell b.0.0) ++ rest =
    first.0 ∙ ap (λ (r : List ℕ). zxid ++ r) (second.1.0 ∙ ap (λ (r : List ℕ). answers.outcome_spell b.0.0 ++ r) pair.1) ∙ sym (append_assoc zxid (answers.outcome_spell b.0.0) rest) in
    subst (IsRead answers.outcome_bodies op bytes rest) pair.0 (second.0, (whole, (first.1, second.1.1)))

named_outcome_is : LawfulBefore is_end answers.named_outcome
named_outcome_is = named_is answers.outcome_bodies (record { found = op_names.found; tells = op_names.tells; letters = op_names.letters; opens = named_opens; again = named_again; sound = named_sound })

pub reply_is : LawfulBefore is_end answers.reply
reply_is = fields_is _ (and_is int int_is _ (led_is (word_of words.Blank) answers.named_outcome named_outcome_is) (λ x rest. ap stops (append_assoc (word_of words.Blank) (answers.named_outcome.spell x) rest) ∙ word_stops words.Blank (answers.named_outcome.spell x ++ rest))) _ _ (λ _. refl) (λ _. refl)
