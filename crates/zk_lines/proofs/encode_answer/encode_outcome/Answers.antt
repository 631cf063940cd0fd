use Rattle.std.proofs.Common.{◌≡◌, ◌∷◌, [], ◌++◌, List, ℕ, ℤ, sym, ap, subst, ◌∙◌, w32, to_z, of_z}
use Rattle.zk_jute.specs.Item.{AnInt, bytes_of, HaveBytes}
use Rattle.zk_answers.specs.Rows.{body_items}
use Rattle.zk_items.specs.{Encoded.Encoded, Form.word_at, Codes.error_name}
use Rattle.zk_items.proofs.{Codes.other_code_is}
use Rattle.zk_lines.proofs.{Appended.as_int, EncodedAnswers.failure_encoded, EncodedAnswers.done_encoded}
use Rattle.zk_lines.specs.Answers as answers
use Rattle.zk_lines.specs.Rows.{row_at}
use Rattle.zk_lines.proofs.Appended.{on_good}
use Rattle.zk_lines.proofs.encode_answer.encode_outcome.Goals as goal

pub returns-then-passes-clause-encoded : goal.returns-then-passes-clause-encoded
returns-then-passes-clause-encoded c =
    let line = c.args.line.now in
    let old = c.args.out.now.items in
    let new = c.append.new.out.items in
    let failure = c.in_ok-failure.failure in
    let read = c.in_ok-failure.ensures in
    let word = ap (λ (w : List ℕ). word_at w line) (sym c.word_bytes.ensures) ∙ rw c.if-passes.true at c.passes.ensures in
    let h = c.in_ok-append.ensures.appended in
    let One : ℤ → Type 0 = λ n. HaveBytes (AnInt n ∷ []) × (new ≡ old ++ bytes_of (AnInt n ∷ [])) in
    let fit = (other_code_is error_name).sound c.passes.new.self failure c.read_failure.new.line read in
    let n = as_int One failure fit.1.0 (subst (λ (n : ℤ). One (to_z w32 (of_z w32 n))) c.number.ensures.value h) in
    failure_encoded c.args.op line c.passes.new.self c.read_failure.new.line old new failure word read n.0 n.1

pub returns-clause-encoded : goal.returns-clause-encoded
returns-clause-encoded c =
    let line = c.args.line.now in
    let old = c.args.out.now.items in
    let new = c.encode_body.new.out.items in
    let other = rw c.if-passes.false at c.passes.ensures in
    let none = ap (λ (w : List ℕ). word_at w line) (sym c.word_bytes.ensures) ∙ other.0 in
    let zero = c.in_ok-append-2.ensures.appended in
    on_good c.encode_body.result
    (λ k. done_encoded c.args.op line c.encode_body.new.line old c.append-2.new.out.items new none zero.0 zero.1
    (subst (λ (l : List ℕ). Encoded (row_at (answers.line_of c.args.op)) body_items l c.encode_body.new.line c.append-2.new.out.items new) other.1 k))
    c.encode_body.ensures.encoded
