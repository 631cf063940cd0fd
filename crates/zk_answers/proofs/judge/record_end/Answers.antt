use Rattle.zk_answers.proofs.Ends.{of_fields, of_fault}
use Rattle.zk_answers.proofs.judge.record_end.Goals as goal

pub returns-clause-found : goal.returns-clause-found
returns-clause-found g c = of_fields c.args.payload.now c.args.place (g.F.Asked.operation c.args._form.now) (g.F.Asked.part_ops c.args._form.now) _ c.requires.record c.end.result c.end.ensures.found

pub returns-clause-fault : goal.returns-clause-fault
returns-clause-fault g c = of_fault c.args.payload.now c.args.place (g.F.Asked.operation c.args._form.now) (g.F.Asked.part_ops c.args._form.now) g.V.Verdict.tells _ c.requires.record c.end.result c.end.ensures.fault
