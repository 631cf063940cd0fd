use Rattle.std.proofs.Common.{length, ap, ◌∙◌, arith}
use Rattle.zk_asks.proofs.{Lying.parts_counted, Lying.parts_there, Judged.parts_begin, Judged.parts_alike}
use Rattle.zk_asks.proofs.judge.judged_multi.Goals as goal

pub known-requires : goal.known-requires
known-requires c = let m = c.requires.multi in parts_there c.args.payload.now c.args.count 8 (parts_begin m.0 m.1 c.args.payload.now m.2 c.args.count m.3)

pub returns : goal.returns
returns c = λ xid ds of. let m = c.requires.multi in c.known.ensures ∙ parts_alike m.0 m.1 c.args.payload.now m.2 c.args.count m.3 xid ds of

pub invariant_of-result : goal.invariant_of-result
invariant_of-result c =
    let m = c.requires.multi in
    let src = c.args.payload.now in
    omega (arith, ap length c.known.ensures, parts_counted src c.args.count 8 (parts_begin m.0 m.1 src m.2 c.args.count m.3), c.requires.few)
