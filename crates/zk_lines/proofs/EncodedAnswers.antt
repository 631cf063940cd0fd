-- The replies and the events of a line are read into bytes.
use Rattle.std.proofs.Common.{◌≡◌, ℕ, ℤ, List, [], ◌∷◌, ◌++◌, take, drop, Option, Some, None, refl, ap, ◌∙◌}
use Rattle.std.specs.Prelude.{pos, negsuc}
use Rattle.std.specs.List.{prefix_len}
use Rattle.zk_jute.specs.Item.{Item, AnInt, ALong, bytes_of, HaveBytes}
use Rattle.zk_jute.specs.Wired as wired
use Rattle.zk_records.specs.declared.op.Op.{Op}
use Rattle.zk_answers.specs.{Held.Outcome, Held.Reply, Frames.err_of, Frames.rest_items, Frames.op_of_reply, Frames.reply_items, Frames.frame_items, Rows.body_items}
use Rattle.zk_answers.specs.declared.frame.OutcomeOf.TheVariants as outcome
use Rattle.zk_answers.specs.declared.frame.ServerFrameOf.TheVariants as server
use Rattle.zk_items.specs.{Form.Read, Form.read_map, Form.word_at, Codes.failure_code, Codes.event_code, Leaf.in_name, Leaf.num_at, Encoded.Encoded}
use Rattle.zk_items.specs.Leaf as leaf
use Rattle.zk_lines.specs.Answers as answers
use Rattle.zk_lines.specs.{Asks.op_named, Rows.row_at, Series.if_passed, Words.word_of, Words.field_at}
use Rattle.zk_lines.specs.declared.word.Word.TheVariants as words
use Rattle.zk_lines.proofs.Answers.{outcome_op}
use Rattle.zk_lines.proofs.Appended.{◌then◌, value_encoded, read_alone, field_encoded, made, retold, headed, named_encoded}

-- ---- an outcome, and the number of its error in front

abbrev pub outcome_items : Outcome → List Item
outcome_items o = AnInt (err_of o) ∷ rest_items o

-- by what comes after the word
abbrev by_error : Op → Option (List ℕ) → List ℕ → Read Outcome
by_error op o line = if_passed o (λ rest. read_map (outcome.Failed op) (failure_code.at rest)) (read_map outcome.Done (row_at (answers.line_of op) line))

pub failure_encoded : (op : Op) (line mid rest old new : List ℕ) (e : ℤ) → word_at (word_of words.Err) line ≡ Some mid → failure_code.at mid ≡ Some (e, rest) → HaveBytes (AnInt e ∷ []) → new ≡ old ++ bytes_of (AnInt e ∷ [])
    → Encoded (answers.outcome_at op) outcome_items line rest old new
failure_encoded op line mid rest old new e word read have appended =
    value_encoded (outcome.Failed op e) (ap (λ (o : Option (List ℕ)). by_error op o line) word ∙ ap (read_map (outcome.Failed op)) read) have appended

pub done_encoded : (op : Op) (line rest old mid new : List ℕ) → word_at (word_of words.Err) line ≡ None → HaveBytes (AnInt (pos 0) ∷ []) → mid ≡ old ++ bytes_of (AnInt (pos 0) ∷ [])
    → Encoded (row_at (answers.line_of op)) body_items line rest mid new → Encoded (answers.outcome_at op) outcome_items line rest old new
done_encoded op line rest old mid new none have zero c =
    let h = headed (AnInt (pos 0) ∷ []) have zero c in
    record {
      value = outcome.Done c.value;
      read = ap (λ (o : Option (List ℕ)). by_error op o line) none ∙ ap (read_map outcome.Done) c.read;
      have = h.have;
      appended = h.appended;
    }

-- ---- a reply

pub reply_encoded : (line behind ahead name mid last rest old first zxid new : List ℕ) (xid : ℤ) (op : Op) → num_at 31 line ≡ Some (xid, behind) → word_at (word_of words.Blank) behind ≡ Some ahead
    → name ≡ take (prefix_len in_name ahead) ahead → mid ≡ drop (prefix_len in_name ahead) ahead → op_named name ≡ Some op → HaveBytes (AnInt xid ∷ []) → first ≡ old ++ bytes_of (AnInt xid ∷ [])
    → Encoded (field_at words.Zxid leaf.long.at) wired.long.items mid last first zxid → Encoded (answers.outcome_at op) outcome_items last rest zxid new
    → (c : Encoded answers.reply.at reply_items line rest old new) × (op_of_reply c.value ≡ op)
reply_encoded line behind ahead name mid last rest old first zxid new xid op number blank n m key have head z o =
    let named = named_encoded {line = ahead} op_named answers.outcome_bodies.at op n m key (headed (AnInt xid ∷ []) have head (z then o)) in
    let whole = read_alone {at = num_at 31} {line = line} old xid number then field_encoded words.Blank blank named in
    let items : Reply → List Item = λ r. AnInt xid ∷ ALong r.zxid ∷ outcome_items r.outcome in
    let reply : Encoded answers.reply.at items line rest old new = made items _ (λ _ _. (_, refl, refl)) whole in
    (retold reply_items reply refl, outcome_op op last rest o.value o.read)

-- ---- an event

pub event_encoded : (line l m n o rest old a b c d e new : List ℕ) (kind : ℤ) → HaveBytes (AnInt (negsuc 0) ∷ []) → a ≡ old ++ bytes_of (AnInt (negsuc 0) ∷ []) → Encoded (field_at words.Zxid leaf.long.at) wired.long.items line l a b
    → HaveBytes (AnInt (pos 0) ∷ []) → c ≡ b ++ bytes_of (AnInt (pos 0) ∷ []) → word_at (word_of words.Kind) l ≡ Some m → event_code.at m ≡ Some (kind, n) → HaveBytes (AnInt kind ∷ []) → d ≡ c ++ bytes_of (AnInt kind ∷ [])
    → Encoded (field_at words.State leaf.int.at) wired.int.items n o d e → Encoded (field_at words.Path leaf.text.at) wired.ustring.items o rest e new → Encoded answers.event.at (λ p. frame_items (server.Event p.0 p.1)) line rest old new
event_encoded line l m n o rest old a b c d e new kind xid_fits xid zxid err_fits err word code kind_fits kinds state path =
    made (λ p. frame_items (server.Event p.0 p.1)) _ (λ _ _. (_, refl, refl))
    (headed (AnInt (negsuc 0) ∷ []) xid_fits xid (zxid then headed (AnInt (pos 0) ∷ []) err_fits err (field_encoded words.Kind word (value_encoded {items = wired.int.items} kind code kind_fits kinds) then state then path)))
