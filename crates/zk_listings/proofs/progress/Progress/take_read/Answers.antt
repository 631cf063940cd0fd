use Rattle.std.proofs.Common.{◌∙◌, [], ap, subst}
use Rattle.zk_recordings.specs.Reading.{ReadsContent}
use Rattle.zk_listings.specs.{Gathered.SideBytes, Gathering.Gathers}
use Rattle.zk_listings.proofs.Runs.{read-advances}
use Rattle.zk_listings.proofs.progress.Progress.take_read.Goals as goal

pub returns-clause-advances : goal.returns-clause-advances
returns-clause-advances c = λ before bytes lines long is.
    let limits = c.limits-limits.result in
    let side = c.requires.within.1.side_is ∙ ap (λ (g : SideBytes). g.side) is in
    let reads = subst (λ s. ReadsContent c.args.self.now.reader s bytes c.take_content.new.self) side (c.take_content.ensures.reads bytes long) in
    let gathers = subst (λ g. Gathers limits c.in-Some.talk g [] c.hand_over.result c.hand_over.new.talk c.hand_over.new.gathered) is c.hand_over.ensures.gathers in
    rw c.ended_by.ensures (read-advances before c.hand_over.new.gathered c.args.self.now c.take_content.new.self c.in-Some.talk c.hand_over.new.talk bytes limits c.hand_over.result
    c.in-Some.is reads c.take_content.ensures.still c.limits-limits.ensures gathers lines)
