use Rattle.std.proofs.Common.{rules, FitsSigned, w32, refl, sym, ◌∙◌}
use Rattle.std.proofs.lemmas.Int.{to_z-of_z}
use Rattle.zk_c.proofs.read.ask_of.Goals as goal

pub returns-in-Some : goal.returns-in-Some
returns-in-Some c =
    let number = c.int_there-number.result in
    let fits : FitsSigned w32 number = search rules in
    (c.in-Some.op, refl, c.in-Some.ensures.0, sym c.int_there-number.ensures ∙ sym (to_z-of_z w32 number fits) ∙ c.in-Some.ensures.1)

pub returns-in-None : goal.returns-in-None
returns-in-None c =
    let number = c.int_there-number.result in
    let fits : FitsSigned w32 number = search rules in
    λ op has e. c.in-None.ensures op has (to_z-of_z w32 number fits ∙ c.int_there-number.ensures ∙ e)
