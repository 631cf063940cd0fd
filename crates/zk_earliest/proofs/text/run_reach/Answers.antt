use Rattle.std.proofs.Common.{arith}
use Rattle.zk_earliest.proofs.Contents.{length_room, number_stops, number_null, number_content, number_content_stops}
use Rattle.zk_earliest.proofs.text.run_reach.Goals as goal

pub returns-in-Err : goal.returns-in-Err
returns-in-Err g c = number_stops c.args.behind _ _ (λ i. omega (arith, c.type_inv.src i)) c.requires.frame c.requires.room _ c.lengths.ensures.value c.are_runs.ensures _ c.in-Err.ensures

pub returns-then-length : goal.returns-then-length
returns-then-length g c = number_null c.args.behind _ _ (λ i. omega (arith, c.type_inv.src i)) c.requires.frame c.requires.room _ c.lengths.ensures.value c.are_runs.ensures _ c.in-Ok.ensures c.if-length.true

pub slice_bounds-front-end : goal.slice_bounds-front-end
slice_bounds-front-end g c =
    let r = length_room c.args.behind _ _ (λ i. omega (arith, c.type_inv.src i)) c.requires.frame c.requires.room _ c.lengths.ensures.value _ c.in-Ok.ensures c.if-length.false in
    omega arith

pub returns-in-None : goal.returns-in-None
returns-in-None g c = number_content c.args.behind _ _ (λ i. omega (arith, c.type_inv.src i)) c.requires.frame c.requires.room _ c.lengths.ensures.value c.are_runs.ensures _ c.in-Ok.ensures c.if-length.false c.in-None.ensures

pub returns-in-Some : goal.returns-in-Some
returns-in-Some g c = number_content_stops c.args.behind _ _ (λ i. omega (arith, c.type_inv.src i)) c.requires.frame c.requires.room _ c.lengths.ensures.value c.are_runs.ensures _ c.in-Ok.ensures c.if-length.false _ c.in-Some.ensures
