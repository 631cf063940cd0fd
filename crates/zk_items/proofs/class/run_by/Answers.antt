use Rattle.std.proofs.Common.{◌-◌, length, arith}
use Rattle.std.proofs.lemmas.List.Sums.{prefix_len-le-length}
use Rattle.zk_items.proofs.Looks.{look_stops, look_passes, look_last}
use Rattle.zk_items.proofs.class.run_by.Goals as goal

pub returns-then-run-clause-value : goal.returns-then-run-clause-value
returns-then-run-clause-value g c =
    let run = c.run_in-run.ensures in
    omega (arith, run, look_stops g.C.Class.has c.args.bytes.now c.loop-at.at g.row.N c.loop-at.invariant (omega arith) (omega (arith, run)))

pub loop-at-preserved : goal.loop-at-preserved
loop-at-preserved g c = look_passes g.C.Class.has c.args.bytes.now c.loop-at.at g.row.N c.loop-at.invariant (omega arith) (omega (arith, c.run_in-run.ensures))

pub overflow_add-result-2 : goal.overflow_add-result-2
overflow_add-result-2 g c =
    let whole = look_last g.C.Class.has c.args.bytes.now (length c.args.bytes.now - g.row.N) g.row.N (omega (arith, c.loop-at.invariant)) (omega arith) in
    record { fits = omega (arith, c.run_in.ensures, whole, prefix_len-le-length g.C.Class.has c.args.bytes.now) }

pub returns-clause-value : goal.returns-clause-value
returns-clause-value g c = omega (arith, c.run_in.ensures, look_last g.C.Class.has c.args.bytes.now (length c.args.bytes.now - g.row.N) g.row.N (omega (arith, c.loop-at.invariant)) (omega arith))

pub returns-clause-within : goal.returns-clause-within
returns-clause-within g c =
    let whole = look_last g.C.Class.has c.args.bytes.now (length c.args.bytes.now - g.row.N) g.row.N (omega (arith, c.loop-at.invariant)) (omega arith) in
    omega (arith, c.run_in.ensures, whole, prefix_len-le-length g.C.Class.has c.args.bytes.now)
