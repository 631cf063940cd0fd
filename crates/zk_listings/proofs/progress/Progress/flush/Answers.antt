use Rattle.std.proofs.Common.{◌∙◌, [], Some, ap, subst, sym}
use Rattle.std.proofs.lemmas.Bool.{false≢true}
use Rattle.zk_listings.specs.{Following.ended_by, Gathered.SideBytes, Gathering.AdvancesBut}
use Rattle.zk_listings.proofs.Runs.{advances-but-none, all-advances, last-only, none-begun, none-on}
use Rattle.zk_listings.proofs.progress.Progress.flush.Goals as goal

pub returns-then-is_empty-clause-advances : goal.returns-then-is_empty-clause-advances
returns-then-is_empty-clause-advances c = λ listing lines _. advances-but-none c.args.gathered.now listing c.args.self.now lines

pub returns-in_default-clause-advances : goal.returns-in_default-clause-advances
returns-in_default-clause-advances c = λ listing lines _.
    none-on c.args.gathered.now c.begin.new.self listing c.args.self.now lines (none-begun c.args.gathered.now c.args.self.now c.in_default.is) (ap (λ (g : SideBytes). g.bytes) c.begin.ensures)

pub returns-clause-advances : goal.returns-clause-advances
returns-clause-advances c = λ listing lines bare.
    let old = c.args.self.now in
    let given = all-advances c.args.gathered.now c.settle.new.gathered old c.in-Some.talk c.settle.new.talk c.settle.result
    c.in-Some.is (ap (λ (g : SideBytes). g.bytes) c.settle.ensures.empty) c.settle.ensures.limits c.settle.ensures.taken lines in
    rw c.ended_by.ensures (subst (λ l. AdvancesBut c.args.gathered.now l old lines [] (ended_by c.settle.result) c.settle.new.gathered (record old { talk = Some c.settle.new.talk }) lines)
    (last-only listing (λ all. false≢true (sym c.if-is_empty.false ∙ c.is_empty.ensures.1 (bare all)))) given)
