use Rattle.zk_lines.proofs.{Appended.if_good, Appended.refused_by, Appended.handed_on, Counted.series_empty, Counted.series_more, Counted.series_unread, Counted.series_cut}
use Rattle.std.proofs.Common.{subst, ap, sym, ◌∙◌}
use Rattle.zk_items.specs.Encoded.{Encoded}
use Rattle.zk_lines.proofs.list.encode_series.Goals as goal

pub returns-then-passes-clause-encoded : goal.returns-then-passes-clause-encoded
returns-then-passes-clause-encoded g c =
    series_empty c.args.signs.between c.args.signs.behind g.T.Put.form.at g.T.Spell.items c.args.line.now c.passes.new.self c.args.out.now.items (rw c.if-passes.true at c.passes.ensures)

pub returns-clause-encoded : goal.returns-clause-encoded
returns-clause-encoded g c =
    let other = rw c.if-passes.false at c.passes.ensures in
    let first = subst (λ l. Encoded g.T.Put.form.at g.T.Spell.items l c.encode.new.line c.args.out.now.items c.encode.new.out.items) other.1 c.in_ok-encode.ensures.encoded in
    if_good c.encode_others.result
    (λ n others. series_more c.args.signs.between c.args.signs.behind g.T.Put.form.at g.T.Spell.items c.args.line.now c.encode.new.line c.encode_others.new.line c.args.out.now.items c.encode.new.out.items c.encode_others.new.out.items n other.0 first others)
    c.encode_others.ensures.encoded

pub returns-in_err-encode-clause-refused : goal.returns-in_err-encode-clause-refused
returns-in_err-encode-clause-refused g c =
    let other = rw c.if-passes.false at c.passes.ensures in
    handed_on _ c.from_residual.result c.from_residual.ensures.1 c.in_err-encode.ensures.refused
    (λ none. series_unread c.args.signs.between c.args.signs.behind g.T.Put.form.at c.args.line.now other.0 (ap g.T.Put.form.at (sym other.1) ∙ none))

pub returns-clause-refused : goal.returns-clause-refused
returns-clause-refused g c =
    let other = rw c.if-passes.false at c.passes.ensures in
    let first = subst (λ l. Encoded g.T.Put.form.at g.T.Spell.items l c.encode.new.line c.args.out.now.items c.encode.new.out.items) other.1 c.in_ok-encode.ensures.encoded in
    refused_by c.encode_others.result (λ none. series_cut c.args.signs.between c.args.signs.behind g.T.Put.form.at other.0 first none) c.encode_others.ensures.refused
