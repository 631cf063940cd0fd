use Rattle.std.proofs.Common.{rules, ◌≡◌, ℕ, nat_eq, Some, None, Decides, refl, sym, ◌∙◌}
use Rattle.std.proofs.lemmas.Slice.Eq.{strip_prefix_is}
use Rattle.zk_items.proofs.Forms.{word_none, word_some}
use Rattle.zk_items.proofs.reader.Reader.literal.Goals as goal

decides : (a b : ℕ) → Decides (nat_eq a b) (a ≡ b)
decides a b = search rules

pub returns-in-Some-clause-read : goal.returns-in-Some-clause-read
returns-in-Some-clause-read c =
    word_some c.args.word.now c.args.self.now c.in-Some.rest.now
    (sym c.self.view_is ∙ strip_prefix_is decides c.self.inside.ahead.now c.args.word.now (Some c.in-Some.rest) c.in-Some.ensures.cases)

pub returns-in-None-clause-none : goal.returns-in-None-clause-none
returns-in-None-clause-none c = (word_none c.args.word.now c.args.self.now (λ rest e. strip_prefix_is decides c.self.inside.ahead.now c.args.word.now None c.in-None.ensures.cases rest (c.self.view_is ∙ e)), refl)

pub returns-in-None-clause-read : goal.returns-in-None-clause-read
returns-in-None-clause-read c = λ _.
    word_none c.args.word.now c.args.self.now
    (λ rest e. strip_prefix_is decides c.self.inside.ahead.now c.args.word.now None c.in-None.ensures.cases rest (c.self.view_is ∙ e))
