use Rattle.std.proofs.Common.{◌<◌, ◌≤◌, length, arith}
use Rattle.zk_runs.proofs.Moves.{held-piece}
use Rattle.zk_runs.proofs.migrate.Migrator.advance_far.Goals as goal

pub returns-in-Some-clause-goes_on : goal.returns-in-Some-clause-goes_on
returns-in-Some-clause-goes_on c = λ x before now t.
    let self = c.args.self.now in
    let p = c.in-Some.piece in
    let e = c.in-Some.ensures in
    let some : 0 < p.head = omega (arith, e.within) in
    let order : p.head < p.used = omega (arith, e.within) in
    let within : p.used ≤ length c.args.block.now = omega (arith, e.within) in
    held-piece c.args.limits x c.args.block.now p.head p.used some order within self.headed self.due self.held.items c.requires.marked self.reader before now t c.next_piece.new.self p.side e.reads
    c.between-after.result c.between-after.ensures c.put_taken.new.held.items c.in_ok-put_taken.ensures c.len-self.result (omega (arith, c.len-self.ensures, c.put_taken.new.held.ok))
