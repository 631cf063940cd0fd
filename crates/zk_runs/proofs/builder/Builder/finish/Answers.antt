use Rattle.std.proofs.Common.{Vec, ◌≡◌, ◌≢◌, eqb, ℕ, Bool, false, [], ◌∷◌, ◌++◌, ◌∙◌, sym, ap, subst, length, arith, eq-eqb}
use Rattle.std.specs.Io.KnownBytes.{Appends}
use Rattle.std.proofs.lemmas.Bool.{false≢true}
use Rattle.zk_listings.specs.Outcome.{HasGrownIn}
use Rattle.zk_listings.proofs.Exits.{on-err}
use Rattle.zk_runs.proofs.{Accepted.took-written, Gathered.took-unput, Taken.builds-last, Taken.begins-part, Taken.answers-last, Taken.begins-last, Spared.spared-halt, Spared.open-answer}
use Rattle.zk_runs.proofs.builder.Builder.finish.Goals as goal

not-empty : {Z : Type 0} (begun : Vec ℕ Z) (empty : Bool) → empty ≡ eqb begun.len 0 → empty ≡ false → begun.items ≢ []
not-empty begun empty is filled = λ e. false≢true (sym filled ∙ is ∙ eq-eqb begun.len 0 (omega (arith, ap length e, begun.ok)))

pub returns-clause-built : goal.returns-clause-built
returns-clause-built g c =
    let some = not-empty c.args.self.now.begun _ c.is_empty.ensures c.if-is_empty.false in
    let was = g.W.Sink.contents c.args.writer.now in
    let now = g.W.Sink.contents c.write_whole.new.writer in
    let w = subst (Appends was now) c.deref-2.ensures.value c.in_ok-write_whole.ensures.ok in
    let goes = rw c.deref.ensures.value at c.in_default.ensures.goes_on in
    λ limits x before t.
    let start = took-unput limits t.lines before was _ c.new-piece.ensures.items _ _ _ t.took in
    builds-last limits x before _ _ _ _ _ t some _ _ _ _
    (took-written limits (t.lines ++ c.args.self.now.begun.items ∷ []) before was now _ _ _ _ (goes limits t.lines before was start) w)

pub returns-in_err-write_whole-clause-begun : goal.returns-in_err-write_whole-clause-begun
returns-in_err-write_whole-clause-begun g c =
    let was = g.W.Sink.contents c.args.writer.now in
    let now = g.W.Sink.contents c.write_whole.new.writer in
    let some = not-empty c.args.self.now.begun _ c.is_empty.ensures c.if-is_empty.false in
    let goes = rw c.deref.ensures.value at c.in_default.ensures.goes_on in
    on-err c.from_residual.result (λ limits x before t.
    let start = took-unput limits t.lines before was _ c.new-piece.ensures.items _ _ _ t.took in
    begins-part limits x before _ _ _ _ _ t some _ _ _ _ (subst (HasGrownIn was now) c.deref-2.ensures.value c.in_err-write_whole.ensures.err) _
    (goes limits t.lines before was start))

pub returns-in-Err-clause-built : goal.returns-in-Err-clause-built
returns-in-Err-clause-built g c =
    let some = not-empty c.args.self.now.begun _ c.is_empty.ensures c.if-is_empty.false in
    let halts = rw c.deref.ensures.value at c.in-Err.ensures.halts in
    rw c.answer.ensures (answers-last _ _ _ _ _ some c.in-Err.halt (λ limits lines before t. halts limits lines before _ t))

pub returns-in-Err-clause-begun : goal.returns-in-Err-clause-begun
returns-in-Err-clause-begun g c =
    let some = not-empty c.args.self.now.begun _ c.is_empty.ensures c.if-is_empty.false in
    let halts = rw c.deref.ensures.value at c.in-Err.ensures.halts in
    rw c.answer.ensures (begins-last _ _ _ _ _ some c.in-Err.halt (λ limits lines before t. halts limits lines before _ t))

pub returns-in-Err-clause-open : goal.returns-in-Err-clause-open
returns-in-Err-clause-open g c = rw c.answer.ensures (open-answer c.in-Err.halt _ (spared-halt c.in-Err.halt _ c.requires.live))
