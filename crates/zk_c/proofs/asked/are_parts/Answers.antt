use Rattle.std.proofs.Common.{rules, FitsSigned, w32, get_or, pos, sym, ◌∙◌, ◌++◌, ◌∷◌, []}
use Rattle.std.proofs.lemmas.Int.{to_z-of_z}
use Rattle.zk_records.specs.declared.op.PartOp.TheVariants.{Check}
use Rattle.zk_c.proofs.Parts.{one_more, none_there}
use Rattle.zk_c.proofs.asked.are_parts.Goals as goal

pub returns-in-None : goal.returns-in-None
returns-in-None c =
    let i = c.loop-number.number-index in
    let number = get_or c.args.numbers.now i (pos 0) in
    let fits : FitsSigned w32 number = search rules in
    λ parts are. c.in-None.ensures (get_or parts i Check) (to_z-of_z w32 number fits ∙ none_there c.args.numbers.now i (pos 0) parts c.loop-number-test.true are)

pub loop-number-preserved : goal.loop-number-preserved
loop-number-preserved c =
    let i = c.loop-number.number-index in
    let number = get_or c.args.numbers.now i (pos 0) in
    let fits : FitsSigned w32 number = search rules in
    let so_far = c.loop-number.invariant.so_far in
    record { so_far = (so_far.0 ++ c.in-Some._part ∷ [], one_more c.args.numbers.now i (pos 0) so_far.0 c.in-Some._part c.loop-number-test.true so_far.1 (sym (to_z-of_z w32 number fits) ∙ c.in-Some.ensures)) }
