use Rattle.std.proofs.Common.{◌∷◌, [], sym, ap, ◌∙◌, arith}
use Rattle.zk_items.specs.Form.{word_at}
use Rattle.zk_lines.specs.Series.{element_at}
use Rattle.zk_lines.proofs.Appended.{handed_on}
use Rattle.zk_lines.proofs.Counted.{none_yet, none_more, one_more, all_read, element_some, element_none, element_unled, element_unread}
use Rattle.zk_lines.proofs.list.encode_others.Goals as goal

pub loop-turn-init : goal.loop-turn-init
loop-turn-init g c = record {
  begun = none_yet (element_at c.args.signs.between c.args.signs.behind g.T.Put.form.at) g.T.Spell.items c.args.line.now c.args.out.now.items c.left-turns.result;
  keeps = λ front is. is;
}

pub loop-turn-preserved : goal.loop-turn-preserved
loop-turn-preserved g c =
    let l = c.loop-turn in
    let at = g.T.Put.form.at in
    let sep = c.args.signs.between in
    let close = c.args.signs.behind in
    let other = rw c.if-passes.false at c.passes.ensures in
    let read = c.in_ok-encode.ensures.encoded in
    let word = ap (word_at (sep ∷ [])) (sym other.1) ∙ c.in_ok-literal.ensures.read in
    let element = element_some sep close at l.line c.literal.new.self c.encode.new.line read.value other.0 word read.read in
    record {
      begun = one_more (element_at sep close at) g.T.Spell.items c.args.line.now l.line c.literal.new.self c.encode.new.line c.args.out.now.items l.out.items c.encode.new.out.items c.left-turns.result l.turn (omega arith) l.invariant.begun read element;
      keeps = λ front is. c.in_ok-encode.ensures.keeps front (l.invariant.keeps front is);
    }

pub returns-then-passes-clause-encoded : goal.returns-then-passes-clause-encoded
returns-then-passes-clause-encoded g c =
    let l = c.loop-turn in
    let at = g.T.Put.form.at in
    let sep = c.args.signs.between in
    let close = c.args.signs.behind in
    let word = rw c.if-passes.true at c.passes.ensures in
    all_read (element_at sep close at) g.T.Spell.items c.args.line.now l.line c.passes.new.self c.args.out.now.items l.out.items c.left-turns.result l.turn (omega arith) (sym c.left-turns.ensures) l.invariant.begun
    (element_none sep close at l.line c.passes.new.self word)

pub returns-in_err-literal-clause-refused : goal.returns-in_err-literal-clause-refused
returns-in_err-literal-clause-refused g c =
    let l = c.loop-turn in
    let at = g.T.Put.form.at in
    let sep = c.args.signs.between in
    let close = c.args.signs.behind in
    let other = rw c.if-passes.false at c.passes.ensures in
    handed_on _ c.from_residual.result c.from_residual.ensures.1 c.in_err-literal.ensures.read (λ none.
    none_more (element_at sep close at) g.T.Spell.items c.args.line.now l.line c.args.out.now.items l.out.items c.left-turns.result l.turn (omega arith) (sym c.left-turns.ensures) l.invariant.begun (element_unled sep close at l.line other.0 (ap (word_at (sep ∷ [])) (sym other.1) ∙ none)))

pub returns-in_err-encode-clause-refused : goal.returns-in_err-encode-clause-refused
returns-in_err-encode-clause-refused g c =
    let l = c.loop-turn in
    let at = g.T.Put.form.at in
    let sep = c.args.signs.between in
    let close = c.args.signs.behind in
    let other = rw c.if-passes.false at c.passes.ensures in
    let word = ap (word_at (sep ∷ [])) (sym other.1) ∙ c.in_ok-literal.ensures.read in
    handed_on _ c.from_residual-in_err-encode.result c.from_residual-in_err-encode.ensures.1 c.in_err-encode.ensures.refused (λ none.
    none_more (element_at sep close at) g.T.Spell.items c.args.line.now l.line c.args.out.now.items l.out.items c.left-turns.result l.turn (omega arith) (sym c.left-turns.ensures) l.invariant.begun
    (element_unread sep close at l.line c.literal.new.self other.0 word none))
