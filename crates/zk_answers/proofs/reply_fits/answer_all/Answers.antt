use Rattle.std.proofs.Common.{◌≡◌, ◌∙◌, ◌<◌, ◌+◌, ◌++◌, ◌∷◌, [], List, Some, Bool, true, false, take, length, refl, sym, ap, subst, arith}
use Rattle.std.specs.List.{slice_get}
use Rattle.std.proofs.{lemmas.List.take_more, lemmas.Option.slice_get_read}
use Rattle.zk_records.specs.declared.op.PartOp.{PartOp}
use Rattle.zk_answers.specs.{Held.PartDone, Results.AnswerAll}
use Rattle.zk_answers.proofs.{Outcomes.answers_push, Outcomes.take_some, Forms.answers_length, Forms.answered_at, Forms.some_below}
use Rattle.zk_answers.proofs.reply_fits.answer_all.Goals as goal

pub returns-then-parts-dones : goal.returns-then-parts-dones
returns-then-parts-dones g c = (λ yes. absurd cc, λ all. absurd (c.if-parts-dones.true (c.parts.ensures ∙ answers_length (g.F.Asked.part_ops c.args.form.now) c.args.dones.now all)))

pub unwrap-requires : goal.unwrap-requires
unwrap-requires g c =
    let below : c.loop-j.j < length (g.F.Asked.part_ops c.args.form.now) = omega (arith, c.loop-j-test.true, c.parts-j-end.ensures) in
    rw c.part.ensures (some_below (g.F.Asked.part_ops c.args.form.now) c.loop-j.j below)

pub returns-then-not-answers : goal.returns-then-not-answers
returns-then-not-answers g c =
    let ops = g.F.Asked.part_ops c.args.form.now in
    let n = c.loop-j.j in
    let d = c.index-dones-j.result in
    let some : slice_get ops n ≡ Some c.unwrap.result = sym c.part.ensures ∙ c.unwrap.ensures in
    let below : n < length c.args.dones.now = omega (arith, c.loop-j-test.true, c.parts-j-end.ensures, c.parts.ensures, c.if-parts-dones.false) in
    let one : slice_get c.args.dones.now n ≡ Some d = slice_get_read c.args.dones.now (length c.args.dones.now) n d refl below c.index-dones-j.is in
    (λ yes. absurd cc, λ all. absurd (let yes = c.answers.ensures.1 (answered_at ops c.args.dones.now n c.unwrap.result d all some one) in let e : ◌≡◌ {A = Bool} true false = sym yes ∙ c.if-not-answers.true in absurd cc))

pub loop-j-preserved : goal.loop-j-preserved
loop-j-preserved g c =
    let ops = g.F.Asked.part_ops c.args.form.now in
    let n = c.loop-j.j in
    let d = c.index-dones-j.result in
    let ds = c.args.dones.now in
    let some : slice_get ops n ≡ Some c.unwrap.result = sym c.part.ensures ∙ c.unwrap.ensures in
    let below : n < length ds = omega (arith, c.loop-j-test.true, c.parts-j-end.ensures, c.parts.ensures, c.if-parts-dones.false) in
    let more : take (n + 1) ds ≡ take n ds ++ d ∷ [] = take_more ds n d below ∙ ap (λ (x : PartDone). take n ds ++ x ∷ []) (sym c.index-dones-j.is) in
    let pushed = answers_push (take n ops) c.unwrap.result (take n ds) d c.loop-j.invariant.so_far (c.answers.ensures.0 c.if-not-answers.false) in
    record { so_far = subst (λ (x : List PartDone). AnswerAll (take (n + 1) ops) x) (sym more) (subst (λ (o : List PartOp). AnswerAll o (take n ds ++ d ∷ [])) (sym (take_some ops n c.unwrap.result some)) pushed) }
