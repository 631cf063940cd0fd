use Rattle.std.proofs.Common.{refl, sym, subst, arith}
use Rattle.zk_c.specs.Asked.{AreParts, parts_of}
use Rattle.zk_c.proofs.Parts.{parts_are, as_many, no_parts}
use Rattle.zk_c.proofs.asked.Numbered.of.Goals as goal

pub invariant_of-result : goal.invariant_of-result
invariant_of-result c =
    let ns = c.args.numbers.now in
    let are = c.if-not-are_parts.ensures in
    let named : AreParts ns (parts_of ns) = subst (AreParts ns) (sym (parts_are ns are.0 are.1)) are.1 in
    record {
      named = named;
      bounded = omega (arith, as_many ns (parts_of ns) named, c.if-not-are_few.ensures.0 refl);
      lawful = λ not. no_parts (parts_of ns) (omega (arith, as_many ns (parts_of ns) named, c.if-not-may_have.ensures.0 refl not));
    }
