use Rattle.std.proofs.Common.{rules, ◌≡◌, ℕ, ◌+◌, List, ◌++◌, length, drop, sym, ap, ◌∙◌, subst}
use Rattle.zk_talk.specs.{Answer.history_of, History.History, History.on}
use Rattle.zk_c.proofs.Cutting.{IsSoFar, no_side, one_piece, history_more, at_end}
use Rattle.zk_c.proofs.pieces.cut_of.Goals as goal

pub returns-in_default : goal.returns-in_default
returns-in_default c =
    let l = c.loop-piece in
    no_side c.args.pieces.now c.args.bytes.now (history_of l.cut.items) l.piece-index l.rest.now c.loop-piece-test.true l.invariant.so_far (sym c.side_of.ensures ∙ c.in_default.is)

pub loop-piece-preserved : goal.loop-piece-preserved
loop-piece-preserved c =
    let l = c.loop-piece in
    let side = c.in-Some.side in
    let split = c.in-Some-split_at_checked.ensures.cases in
    let mine = c.in-Some-split_at_checked.mine in
    let done : history_of c.push.new.self.items ≡ history_of l.cut.items ++ on side mine.now = ap history_of c.in_ok-push.ensures.items ∙ history_more l.cut.items side mine in
    let next = one_piece c.args.pieces.now c.args.bytes.now (history_of l.cut.items) l.piece-index l.rest.now c.loop-piece-test.true l.invariant.so_far side (sym c.side_of.ensures ∙ c.in-Some.is) split.0 in
    record {
      so_far = subst (λ (x : History × List ℕ). IsSoFar c.args.pieces.now c.args.bytes.now x.0 (drop (l.piece-index + 1) c.args.pieces.now) x.1)
          (λ k. ((ap (λ (xs : List ℕ). history_of l.cut.items ++ on side xs) (sym split.1) ∙ sym done) k, sym split.2 k)) next;
    }

pub returns-then-is_empty : goal.returns-then-is_empty
returns-then-is_empty c =
    let l = c.loop-piece in
    let none : length l.rest.now ≡ 0 = search rules in
    at_end c.args.pieces.now c.args.bytes.now (history_of l.cut.items) l.piece-index l.rest.now c.loop-piece-test.false none l.invariant.so_far
