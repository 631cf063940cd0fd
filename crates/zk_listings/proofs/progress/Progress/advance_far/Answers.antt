use Rattle.std.proofs.Common.{◌≡◌, ◌∙◌, ◌≤◌, Some, IfOk, refl, sym, subst, arith}
use Rattle.std.proofs.lemmas.Result.{IfOk-weaker}
use Rattle.zk_talk.specs.Stands.{TalkState}
use Rattle.zk_recordings.specs.Reader.{ReaderState}
use Rattle.zk_listings.specs.{declared.progress.Progress.Progress, Following.Steps, Gathering.StepsBut}
use Rattle.zk_listings.proofs.{Pieces.piece-steps, Runs.none-begun, Runs.steps-but}
use Rattle.zk_listings.proofs.progress.Progress.advance_far.Goals as goal
use Rattle.zk_listings.proofs.progress.Progress.advance_far.Goals.{then-is_empty+in_default-next_piece, else-is_empty}

pub returns-in-Some-next_piece-clause-steps : goal.returns-in-Some-next_piece-clause-steps
returns-in-Some-next_piece-clause-steps c =
    let p = c.in-Some-next_piece.piece in
    let e = c.in-Some-next_piece.ensures in
    let order : p.head ≤ p.used = omega (arith, e.within) in
    let new = c.take_piece.new.talk in
    let now = c.take_piece.new.lines.items in
    let taken = c.in_ok-take_piece.ensures.taken in
    let after = record c.args.self.now { reader = c.next_piece.new.self; talk = Some new } in
    steps-but c.args.gathered.now c.args.listing c.args.self.now after c.args.lines.now.items now c.args.block.now p.used c.take_piece.new.found (λ limits x messages i. c.is_empty.ensures.0 c.if-is_empty.true)
    (piece-steps c.args.listing c.args.self.now c.in-Some.talk new c.args.lines.now.items now c.args.block.now p.head p.used p.side c.next_piece.new.self taken.0
    c.in-Some.is order e.reads c.take_piece.ensures.limits taken.2 c.take_piece.new.found taken.1
    after refl refl refl)

same-reader : (p now : Progress) (r : ReaderState) (t : TalkState) → now ≡ record p { reader = r; talk = Some t } → p.talk ≡ Some t → r ≡ p.reader → now ≡ p
same-reader p now r t e q f = e ∙ (λ i. record p { reader = f i; talk = sym q i })

pub returns-in_default-clause-steps : goal.returns-in_default-clause-steps
returns-in_default-clause-steps c =
    IfOk-weaker c.advance.result _ _ (λ used. steps-but c.args.gathered.now c.args.listing c.args.self.now c.advance.new.self c.args.lines.now.items c.advance.new.lines.items c.args.block.now used c.advance.new.found
    (none-begun c.args.gathered.now c.args.self.now c.in_default.is)) c.advance.ensures.steps

pub returns-in-All-clause-steps : goal.returns-in-All-clause-steps
returns-in-All-clause-steps c =
    let now = c.advance-in-All.new in
    let same : c.if-is_empty.self ≡ c.args.self.now = elim c.if-is_empty.branch [
      | then-is_empty+in_default-next_piece w ↦ same-reader c.args.self.now c.if-is_empty.self w.next_piece.new.self c.in-Some.talk w.self-is c.in-Some.is w.in_default-next_piece.ensures.none
      | else-is_empty w ↦ same-reader c.args.self.now c.if-is_empty.self c.args.self.now.reader c.in-Some.talk w.self-is c.in-Some.is refl
    ] in
    let steps = subst (λ p. IfOk c.advance-in-All.result (λ used. Steps c.args.listing p c.args.lines.now.items c.args.block.now used now.found now.self now.lines.items)) same c.advance-in-All.ensures.steps in
    IfOk-weaker c.advance-in-All.result _ _ (λ used. steps-but c.args.gathered.now c.args.listing c.args.self.now now.self c.args.lines.now.items now.lines.items c.args.block.now used now.found
    (λ limits x messages i. c.requires.listed c.in-All.is)) steps

pub returns-in-Last-clause-steps : goal.returns-in-Last-clause-steps
returns-in-Last-clause-steps c =
    let now = c.advance_gathering.new in
    let same : c.if-is_empty.self ≡ c.args.self.now = elim c.if-is_empty.branch [
      | then-is_empty+in_default-next_piece w ↦ same-reader c.args.self.now c.if-is_empty.self w.next_piece.new.self c.in-Some.talk w.self-is c.in-Some.is w.in_default-next_piece.ensures.none
      | else-is_empty w ↦ same-reader c.args.self.now c.if-is_empty.self c.args.self.now.reader c.in-Some.talk w.self-is c.in-Some.is refl
    ] in
    subst (λ p. IfOk c.advance_gathering.result (λ used. StepsBut c.args.gathered.now c.args.listing p c.args.lines.now.items c.args.block.now used now.found now.gathered now.self c.args.lines.now.items)) same
    (IfOk-weaker c.advance_gathering.result _ _ (λ used steps.
    subst (λ l. StepsBut c.args.gathered.now l c.if-is_empty.self c.args.lines.now.items c.args.block.now used now.found now.gathered now.self c.args.lines.now.items) (sym c.in-Last.is) (steps c.args.lines.now.items))
    c.advance_gathering.ensures.steps)
