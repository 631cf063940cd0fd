use Rattle.std.proofs.Common.{refl, ◌≡◌, ◌∷◌, [], ◌++◌}
use Rattle.zk_jute.specs.Wired as wired
use Rattle.zk_jute.specs.Item.{AnInt, bytes_of, HaveBytes}
use Rattle.zk_items.specs.Codes.{error_name}
use Rattle.zk_items.proofs.{Codes.code_is}
use Rattle.zk_asks.specs.Parts.{marked}
use Rattle.zk_answers.specs.Results.{done_items, error_header, result_of}
use Rattle.zk_lines.specs.declared.word.Word.TheVariants as words
use Rattle.zk_lines.proofs.Appended.{as_int, field_encoded, headed, made, retold, value_encoded}
use Rattle.zk_lines.proofs.multi_result.encode_failed.Goals as goal

pub returns-clause-encoded : goal.returns-clause-encoded
returns-clause-encoded c =
    let e = c.in_ok-number.number in
    let word = c.in_ok-read_word.ensures in
    let code = c.in_ok-number.ensures in
    let old = c.args.out.now.items in
    let mid = c.append_header.new.out.items in
    let new = c.append.new.out.items in
    let fit = (code_is error_name).sound c.read_word.new.line e c.read_error_code.new.line code in
    let head = as_int (λ n. HaveBytes (marked (error_header n)) × (mid ≡ old ++ bytes_of (marked (error_header n)))) e fit.1 c.in_ok-append_header.ensures.appended in
    let h = as_int (λ n. HaveBytes (AnInt n ∷ []) × (new ≡ mid ++ bytes_of (AnInt n ∷ []))) e fit.1 c.in_ok-append.ensures.appended in
    retold done_items
    (made (λ d. marked (error_header e) ++ result_of d) _ (λ _ _. (_, refl, refl)) (headed (marked (error_header e)) head.0 head.1 (field_encoded words.Err word (value_encoded {items = wired.int.items} e code h.0 h.1)))) refl
