use Rattle.std.proofs.Common.{◌≡◌, true, false}
use Rattle.zk_through.proofs.Carried.{lacks, native}
use Rattle.zk_through.proofs.frame_header.lacking.Goals as goal

pub returns-then-is_foreign : goal.returns-then-is_foreign
returns-then-is_foreign c =
    let on : c.is_foreign.result ≡ true = cc in
    lacks c.args.profile c.args.payload.now c.is_foreign.result c.is_foreign.ensures c.args.turn c.in-Some.turn c.in-Some.is on

pub returns-else-is_foreign : goal.returns-else-is_foreign
returns-else-is_foreign c =
    let off : c.is_foreign.result ≡ false = cc in
    native c.args.profile c.args.payload.now c.is_foreign.result c.is_foreign.ensures c.args.turn c.in-Some.turn c.in-Some.is off
