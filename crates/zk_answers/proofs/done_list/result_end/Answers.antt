use Rattle.std.proofs.Common.{inl, inr, sym, ap}
use Rattle.zk_answers.specs.Results.{result_layout}
use Rattle.zk_answers.proofs.Ends.{result_ends, no_result}
use Rattle.zk_answers.proofs.done_list.result_end.Goals as goal

pub returns-in-Create-clause-found : goal.returns-in-Create-clause-found
returns-in-Create-clause-found g c = result_ends c.args.payload.now c.args.place c.args.op _ (sym (ap result_layout c.in-Create.is)) c.end.result c.end.ensures.found

pub returns-in-SetData-clause-found : goal.returns-in-SetData-clause-found
returns-in-SetData-clause-found g c = result_ends c.args.payload.now c.args.place c.args.op _ (sym (ap result_layout c.in-SetData.is)) c.end-in-SetData.result c.end-in-SetData.ensures.found

pub returns-in-Delete-clause-found : goal.returns-in-Delete-clause-found
returns-in-Delete-clause-found g c = no_result c.args.payload.now c.args.place c.args.op (elim c.in-Delete.is [ inl e ↦ sym (ap result_layout e) | inr e ↦ sym (ap result_layout e) ])
