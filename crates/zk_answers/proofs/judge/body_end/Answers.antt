use Rattle.std.proofs.Common.{inl, inr, sym, ap, ◌∙◌}
use Rattle.zk_records.specs.declared.op.Op.{Op}
use Rattle.zk_answers.specs.Faults.{body_shape}
use Rattle.zk_answers.proofs.Ends.{of_nothing, results_there, results_fault}
use Rattle.zk_answers.proofs.judge.body_end.Goals as goal

pub returns-in-Delete-clause-found : goal.returns-in-Delete-clause-found
returns-in-Delete-clause-found g c =
    let parts = g.F.Asked.part_ops c.args.form.now in
    of_nothing c.args.payload.now c.args.place (g.F.Asked.operation c.args.form.now) parts (elim c.in-Delete.is [
      | inl e ↦ ap (λ (o : Op). body_shape o parts) (sym c.op.ensures ∙ e)
      | inr (inl e) ↦ ap (λ (o : Op). body_shape o parts) (sym c.op.ensures ∙ e)
      | inr (inr (inl e)) ↦ ap (λ (o : Op). body_shape o parts) (sym c.op.ensures ∙ e)
      | inr (inr (inr (inl e))) ↦ ap (λ (o : Op). body_shape o parts) (sym c.op.ensures ∙ e)
      | inr (inr (inr (inr (inl e)))) ↦ ap (λ (o : Op). body_shape o parts) (sym c.op.ensures ∙ e)
      | inr (inr (inr (inr (inr (inl e))))) ↦ ap (λ (o : Op). body_shape o parts) (sym c.op.ensures ∙ e)
      | inr (inr (inr (inr (inr (inr e))))) ↦ ap (λ (o : Op). body_shape o parts) (sym c.op.ensures ∙ e)
    ])

pub returns-in-Multi-clause-found : goal.returns-in-Multi-clause-found
returns-in-Multi-clause-found g c = results_there c.args.payload.now c.args.place (g.F.Asked.operation c.args.form.now) (g.F.Asked.part_ops c.args.form.now) (sym c.op.ensures ∙ c.in-Multi.is) c.results_end.result c.results_end.ensures.found

pub returns-in-Multi-clause-fault : goal.returns-in-Multi-clause-fault
returns-in-Multi-clause-fault g c = results_fault c.args.payload.now c.args.place (g.F.Asked.operation c.args.form.now) (g.F.Asked.part_ops c.args.form.now) (sym c.op.ensures ∙ c.in-Multi.is) g.V.Verdict.tells c.results_end.result c.results_end.ensures.fault
