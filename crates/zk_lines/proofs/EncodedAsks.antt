-- The requests of a line are read into bytes.
use Rattle.std.proofs.Common.{◌≡◌, ℕ, ℤ, List, [], ◌++◌, take, drop, Some, ap, sym, ◌∷◌, ◌∙◌}
use Rattle.std.specs.List.{prefix_len}
use Rattle.zk_jute.specs.Item.{AnInt, bytes_of, HaveBytes}
use Rattle.zk_records.specs.{Codes.op_number, declared.op.Op.Op, declared.op.PartOp.PartOp}
use Rattle.zk_asks.specs.{Forms.header_items, Frames.frame_items, Parts.record_of, Parts.part_items, Parts.part_header, Parts.marked, Rows.body_items}
use Rattle.zk_asks.specs.declared.frame.ClientFrameOf.TheVariants as client
use Rattle.zk_items.specs.{Form.word_at, Leaf.in_name, Leaf.num_at, Encoded.Encoded}
use Rattle.zk_lines.specs.Asks as asks
use Rattle.zk_lines.specs.{Rows.row_at, Words.word_of}
use Rattle.zk_lines.specs.declared.word.Word.TheVariants as words
use Rattle.zk_lines.proofs.Appended.{◌then◌, read_alone, field_encoded, retold, headed, named_encoded}
use Rattle.zk_lines.proofs.{Asks.part_table, Asks.ask_table, Rows.table_sound}

-- a part: its name, for which its header is appended, and its record
pub part_encoded : (line name mid rest old first new : List ℕ) (op : PartOp) → name ≡ take (prefix_len in_name line) line → mid ≡ drop (prefix_len in_name line) line → asks.part_named name ≡ Some op
    → HaveBytes (marked (part_header op)) → first ≡ old ++ bytes_of (marked (part_header op)) → Encoded (row_at (asks.part_line_of op)) record_of mid rest first new → Encoded asks.part_form.at part_items line rest old new
part_encoded line name mid rest old first new op n m key have head c =
    retold {line = line} part_items (named_encoded {line = line} asks.part_named (λ k bytes. row_at (asks.part_line_of k) bytes) op n m key (headed (marked (part_header op)) have head c))
    (ap (λ (k : PartOp). marked (part_header k) ++ record_of c.value) (table_sound part_table op mid c.value rest c.read).0)

-- the xid and the name of a request, for which its header is appended, and its record
pub request_encoded : (line behind ahead name mid rest old first second new : List ℕ) (xid kind : ℤ) (op : Op) → num_at 31 line ≡ Some (xid, behind) → word_at (word_of words.Blank) behind ≡ Some ahead
    → name ≡ take (prefix_len in_name ahead) ahead → mid ≡ drop (prefix_len in_name ahead) ahead → asks.op_named name ≡ Some op → kind ≡ op_number op
    → HaveBytes (AnInt xid ∷ []) × (first ≡ old ++ bytes_of (AnInt xid ∷ [])) → HaveBytes (AnInt kind ∷ []) × (second ≡ first ++ bytes_of (AnInt kind ∷ []))
    → Encoded (row_at (asks.line_of op)) body_items mid rest second new → Encoded asks.request.at (λ p. frame_items (client.Ask p.0 p.1)) line rest old new
request_encoded line behind ahead name mid rest old first second new xid kind op number blank n m key is head next c =
    retold {line = line} (λ p. frame_items (client.Ask p.0 p.1))
    (read_alone {at = num_at 31} {line = line} old xid number then field_encoded words.Blank blank (named_encoded {line = ahead} asks.op_named (λ k bytes. row_at (asks.line_of k) bytes) op n m key (headed (AnInt xid ∷ []) head.0 head.1 (headed (AnInt kind ∷ []) next.0 next.1 c))))
    (ap (λ (k : Op). header_items xid (op_number k) ++ body_items c.value) (table_sound ask_table op mid c.value rest c.read).0 ∙ ap (λ (k : ℤ). header_items xid k ++ body_items c.value) (sym is))
