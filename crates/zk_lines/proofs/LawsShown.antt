-- The line of a message is of printed bytes, and begins with the letter of its side.
use Rattle.std.proofs.Common.{◌≡◌, ℕ, ◌≤◌, List, [], ◌∷◌, ◌++◌, refl, ap, arith}
use Rattle.std.specs.Prelude.{codes}
use Rattle.zk_records.specs.Codes.{op_name}
use Rattle.zk_asks.specs.declared.frame.ClientFrameOf.TheVariants as client
use Rattle.zk_answers.specs.{Held.Outcome, Frames.op_of_outcome}
use Rattle.zk_answers.specs.declared.frame.OutcomeOf.TheVariants as outcome
use Rattle.zk_answers.specs.declared.frame.ServerFrameOf.TheVariants as server
use Rattle.zk_items.specs.Leaf.{long}
use Rattle.zk_talk.specs.Held.{Message}
use Rattle.zk_talk.specs.declared.message.MessageOf.TheVariants as message
use Rattle.zk_lines.specs.declared.word.Word.TheVariants as words
use Rattle.zk_lines.specs.{Words.field, Lines.Fits, Lines.line}
use Rattle.zk_lines.specs.Asks as asks
use Rattle.zk_lines.specs.Answers as answers
use Rattle.zk_lines.proofs.LawsPrinted.{Printed, checked, joined, letters_printed}
use Rattle.zk_lines.proofs.Shown.{Shown, ◌with◌, led_shown, int_shown, long_shown, failure_shown}
use Rattle.zk_lines.proofs.{Asks.op_names, Asks.connect_is, Asks.ask_shown, Answers.connected_is, Answers.event_is, Answers.body_printed}

request_shown : Shown asks.request
request_shown = int_shown with led_shown words.Blank ask_shown

zxid_field : Shown (field words.Zxid long)
zxid_field = led_shown words.Zxid long_shown

outcome_printed : (o : Outcome) → answers.outcome_fits o → Printed (answers.outcome_spell o)
outcome_printed (outcome.Done b) fit = body_printed b fit
outcome_printed (outcome.Failed op e) fit = (led_shown words.Err failure_shown).shown e fit

named_shown : Shown answers.named_outcome
named_shown = record {
  shown = λ p fit.
      joined (op_name (op_of_outcome p.1)) ((field words.Zxid long).spell p.0 ++ answers.outcome_spell p.1) (letters_printed (op_name (op_of_outcome p.1)) (op_names.letters (op_of_outcome p.1)))
      (joined ((field words.Zxid long).spell p.0) (answers.outcome_spell p.1) (zxid_field.shown p.0 fit.0) (outcome_printed p.1 fit.1));
}

reply_shown : Shown answers.reply
reply_shown = record { shown = λ r fit. (int_shown with led_shown words.Blank named_shown).shown (r.xid, (r.zxid, r.outcome)) fit }

-- ---- lines

pub line_printed : (m : Message) → Fits m → Printed (line m)
line_printed (message.Client (client.Connect hello flag)) fit = joined (codes "C connect") (asks.connect.spell (hello, flag)) (checked (codes "C connect") refl) (connect_is.shown (hello, flag) fit)
line_printed (message.Client (client.Ask xid a)) fit = joined (codes "C ") (asks.request.spell (xid, a)) (checked (codes "C ") refl) (request_shown.shown (xid, a) fit)
line_printed (message.Server (server.Connected hello flag)) fit = joined (codes "S connect") (answers.connected.spell (hello, flag)) (checked (codes "S connect") refl) (connected_is.shown (hello, flag) fit)
line_printed (message.Server (server.Answered r)) fit = joined (codes "S ") (answers.reply.spell r) (checked (codes "S ") refl) (reply_shown.shown r fit)
line_printed (message.Server (server.Event zxid e)) fit = joined (codes "S event") (answers.event.spell (zxid, e)) (checked (codes "S event") refl) (event_is.shown (zxid, e) fit)

first_byte : List ℕ → ℕ
first_byte [] = 0
first_byte (b ∷ bytes) = b

not_dot : (b : ℕ) (bytes rest : List ℕ) → 65 ≤ b → b ∷ bytes ≡ 46 ∷ rest → ⊥
unfolding first_byte
not_dot b bytes rest letter e = let same : b ≡ 46 = ap first_byte e in omega arith

-- a line begins with the letter of its side
pub line_lettered : (m : Message) (rest : List ℕ) → line m ≡ 46 ∷ rest → ⊥
line_lettered (message.Client (client.Connect hello flag)) rest e = not_dot 67 _ rest (omega arith) e
line_lettered (message.Client (client.Ask xid a)) rest e = not_dot 67 _ rest (omega arith) e
line_lettered (message.Server (server.Connected hello flag)) rest e = not_dot 83 _ rest (omega arith) e
line_lettered (message.Server (server.Answered r)) rest e = not_dot 83 _ rest (omega arith) e
line_lettered (message.Server (server.Event zxid e)) rest is = not_dot 83 _ rest (omega arith) is
