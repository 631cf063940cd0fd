use Rattle.std.proofs.Common.{◌∷◌, [], ap, sym, ◌∙◌}
use Rattle.zk_items.specs.Form.{word_at}
use Rattle.zk_lines.proofs.Appended.{on_good, refused_by, handed_on}
use Rattle.zk_lines.proofs.Counted.{null_list, full_list, list_unled, list_unread}
use Rattle.zk_lines.proofs.list.ListEncode.encode.Goals as goal

pub returns-then-passes-clause-encoded : goal.returns-then-passes-clause-encoded
returns-then-passes-clause-encoded g c =
    null_list g.T.Put.form.at g.T.Spell.items c.args.line.now c.passes.new.self c.args.out.now.items c.append.new.out.items (rw c.if-passes.true at c.passes.ensures) c.in_ok-append.ensures.appended.1

pub returns-clause-encoded : goal.returns-clause-encoded
returns-clause-encoded g c =
    let other = rw c.if-passes.false at c.passes.ensures in
    let word = ap (word_at (91 ∷ [])) (sym other.1) ∙ c.in_ok-literal.ensures.read in
    on_good c.encode_counted.result (λ k. full_list g.T.Put.form.at g.T.Spell.items c.args.line.now c.literal.new.self c.encode_counted.new.line c.args.out.now.items c.encode_counted.new.out.items other.0 word k) c.encode_counted.ensures.encoded

pub returns-in_err-literal-clause-refused : goal.returns-in_err-literal-clause-refused
returns-in_err-literal-clause-refused g c =
    let other = rw c.if-passes.false at c.passes.ensures in
    handed_on _ c.from_residual-in_err-literal.result c.from_residual-in_err-literal.ensures.1 c.in_err-literal.ensures.read
    (λ none. list_unled g.T.Put.form.at g.T.Spell.items c.args.line.now other.0 (ap (word_at (91 ∷ [])) (sym other.1) ∙ none))

pub returns-clause-refused : goal.returns-clause-refused
returns-clause-refused g c =
    let other = rw c.if-passes.false at c.passes.ensures in
    let word = ap (word_at (91 ∷ [])) (sym other.1) ∙ c.in_ok-literal.ensures.read in
    refused_by c.encode_counted.result (λ none. list_unread g.T.Put.form.at g.T.Spell.items c.args.line.now c.literal.new.self other.0 word none) c.encode_counted.ensures.refused
