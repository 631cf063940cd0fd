use Rattle.std.proofs.Common.{◌++◌, ◌∷◌, [], ap, subst, ◌∙◌}
use Rattle.std.specs.Int.{w32}
use Rattle.std.proofs.lemmas.Int.{to_z-of_z}
use Rattle.zk_jute.specs.Item.{AnInt, bytes_of, HaveBytes}
use Rattle.zk_jute.proofs.{Layouts.have_parts, Puts.on_ok_map, Puts.on_err_map}
use Rattle.zk_records.specs.declared.header.MultiHeader.{MultiHeader}
use Rattle.zk_asks.specs.Parts.{marked}
use Rattle.zk_answers.specs.Results.{error_header}
use Rattle.zk_answers.proofs.write.PartDoneSpell.put.Goals as goal

pub returns-in-PartFailed-clause-ok : goal.returns-in-PartFailed-clause-ok
returns-in-PartFailed-clause-ok g c =
    let err = c.in-PartFailed.err in
    let put = c.put-in-PartFailed in
    rw c.in-PartFailed.is (on_ok_map put.result (λ p.
    let fits = (have_parts (marked c.error_header.result) (AnInt err ∷ []) p.0).1.0 in
    let same = c.error_header.ensures ∙ ap error_header (to_z-of_z w32 err fits) in
    subst (λ (x : MultiHeader). HaveBytes (marked x ++ (AnInt err ∷ [])) × g.O.Output.takes c.args.out.now (bytes_of (marked x ++ (AnInt err ∷ []))) put.new.out) same p) put.ensures.ok)

pub returns-in-PartFailed-clause-err : goal.returns-in-PartFailed-clause-err
returns-in-PartFailed-clause-err g c =
    let err = c.in-PartFailed.err in
    let put = c.put-in-PartFailed in
    rw c.in-PartFailed.is (on_err_map put.result (λ stops have.
    let fits = (have_parts (marked (error_header err)) (AnInt err ∷ []) have).1.0 in
    let same = c.error_header.ensures ∙ ap error_header (to_z-of_z w32 err fits) in
    subst (λ (x : MultiHeader). HaveBytes (marked x ++ (AnInt err ∷ [])) → g.O.Output.stops c.args.out.now (bytes_of (marked x ++ (AnInt err ∷ []))) put.new.out) same stops have) put.ensures.err)
