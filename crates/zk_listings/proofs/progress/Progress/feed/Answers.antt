use Rattle.std.proofs.Common.{arith, ◌≡◌, take, drop, length, length-drop, refl, subst, ap, sym, None, Some}
use Rattle.std.proofs.{lemmas.List.take_all, lemmas.List.take-append-drop, Math.Seq.take-add}
use Rattle.zk_listings.specs.Gathering.{AdvancesBut, StepsBut}
use Rattle.zk_listings.proofs.Runs.{advances-but-none, advances-but-then}
use Rattle.zk_listings.proofs.progress.Progress.feed.Goals as goal

pub loop-at-init : goal.loop-at-init
loop-at-init c = record {
  within = omega arith;
  none = refl;
  place = omega arith;
  listed = c.requires.listed;
  advances = advances-but-none _ c.args.listing _ _;
}

pub returns-in-Some-clause-advances : goal.returns-in-Some-clause-advances
returns-in-Some-clause-advances c =
    let at' = c.loop-at.at in
    let block = c.args.block.now in
    let listing = c.args.listing in
    let summary = c.in-Some.summary in
    let g = c.loop-at.gathered in
    let g' = c.advance_far.new.gathered in
    let steps = subst (λ z. StepsBut g listing c.loop-at.self c.loop-at.lines.items c.rest.result.now c.in_ok-at.field-0 z g' c.advance_far.new.self c.advance_far.new.lines.items) c.in-Some.is c.in_ok-at.ensures.steps in
    let here = subst (λ b. AdvancesBut g listing c.loop-at.self c.loop-at.lines.items b (Some summary) g' c.advance_far.new.self c.advance_far.new.lines.items) c.rest.ensures steps in
    subst (λ b. AdvancesBut c.args.gathered.now listing c.args.self.now c.args.lines.now.items b (Some summary) g' c.advance_far.new.self c.advance_far.new.lines.items) (take-append-drop at' block)
    (advances-but-then c.args.gathered.now g g' listing _ _ c.advance_far.new.self _ _ _ (take at' block) (drop at' block) (Some summary) c.loop-at.invariant.advances here)

pub loop-at-preserved : goal.loop-at-preserved
loop-at-preserved c =
    let at' = c.loop-at.at in
    let block = c.args.block.now in
    let listing = c.args.listing in
    let used = c.in_ok-at.field-0 in
    let g = c.loop-at.gathered in
    let g' = c.advance_far.new.gathered in
    let long : length c.rest.result.now ≡ length (drop at' block) = ap length c.rest.ensures in
    let steps = subst (λ z. StepsBut g listing c.loop-at.self c.loop-at.lines.items c.rest.result.now used z g' c.advance_far.new.self c.advance_far.new.lines.items) c.in_default.is c.in_ok-at.ensures.steps in
    let here = subst (λ b. AdvancesBut g listing c.loop-at.self c.loop-at.lines.items (take used b) None g' c.advance_far.new.self c.advance_far.new.lines.items) c.rest.ensures steps in
    record {
      within = omega (arith, c.in_ok-at.ensures.within, long, length-drop at' block);
      none = c.in_default.is;
      place = omega (arith, c.in_ok-at.ensures.place, c.loop-at.invariant.place);
      listed = c.in_ok-at.ensures.listed;
      advances = subst (λ b. AdvancesBut c.args.gathered.now listing c.args.self.now c.args.lines.now.items b None g' c.advance_far.new.self c.advance_far.new.lines.items) (sym (take-add at' used block))
          (advances-but-then c.args.gathered.now g g' listing _ _ c.advance_far.new.self _ _ _ (take at' block) (take used (drop at' block)) None c.loop-at.invariant.advances here);
    }

pub returns-clause-advances : goal.returns-clause-advances
returns-clause-advances c =
    subst (λ b. AdvancesBut c.args.gathered.now c.args.listing c.args.self.now c.args.lines.now.items b None c.loop-at.gathered c.loop-at.self c.loop-at.lines.items)
    (take_all c.loop-at.at c.args.block.now (omega (arith, c.loop-at-test.false))) c.loop-at.invariant.advances
