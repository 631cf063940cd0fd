use Rattle.std.proofs.Common.{◌<◌, take, length, length-take, arith}
use Rattle.zk_runs.proofs.Moves.{held-on, held-all}
use Rattle.zk_runs.proofs.migrate.Migrator.advance.Goals as goal

pub returns-in_default-clause-goes_on : goal.returns-in_default-clause-goes_on
returns-in_default-clause-goes_on c = λ x before now t.
    let self = c.args.self.now in
    let run = c.next-run in
    held-on c.args.limits x c.args.block.now run.result.used self.headed self.due self.held.items c.requires.marked self.reader before now t run.new.self run.result.side run.ensures.reads
    c.between-after.result c.between-after.ensures c.put_taken.new.held.items c.in_ok-put_taken.ensures c.in_default.ensures

pub returns-in_ok-convert-clause-goes_on : goal.returns-in_ok-convert-clause-goes_on
returns-in_ok-convert-clause-goes_on c = λ x before now t.
    let self = c.args.self.now in
    let run = c.next-run in
    let block = c.args.block.now in
    let some : 0 < length (take run.result.used block) = omega (arith, length-take run.result.used block, run.ensures.progress, run.ensures.used) in
    held-all c.args.limits x block run.result.used self.headed self.due self.held.items c.requires.marked self.reader before now t run.new.self run.result.side run.ensures.reads
    c.between-after.result c.between-after.ensures c.put_taken.new.held.items c.in_ok-put_taken.ensures
    c.in-Some.format c.in-Some.ensures some c.convert.new.held.items c.in_ok-convert.ensures c.len-self.result (omega (arith, c.len-self.ensures, c.convert.new.held.ok))
