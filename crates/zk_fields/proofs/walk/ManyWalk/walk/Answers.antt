use Rattle.std.proofs.Common.{◌≡◌, ℕ, subst}
use Rattle.std.specs.Prelude.{Option, Ok}
use Rattle.zk_jute.specs.Reading.{size_at}
use Rattle.zk_fields.proofs.Walking.{list_null, list_full, list_fails}
use Rattle.zk_fields.proofs.walk.ManyWalk.walk.Goals as goal

pub returns-in-Ok-None-default-clause-walks : goal.returns-in-Ok-None-default-clause-walks
returns-in-Ok-None-default-clause-walks g c =
    let read = size_at c.args.payload.now c.args.place in
    let is = subst (λ (n : Option ℕ). read ≡ Ok (n, c.in-Ok-None-default.after)) c.in-Ok-None-default.field-0-0-is c.in-Ok-None-default.ensures.exact in
    list_null _ (g.T.Walk.met c.args.payload.now) c.args.at c.show_null.result c.args.room.now c.show_null.new.room read c.in-Ok-None-default.after is c.show_null.ensures

pub returns-in-Ok-Some-default-clause-walks : goal.returns-in-Ok-Some-default-clause-walks
returns-in-Ok-Some-default-clause-walks g c =
    let read = size_at c.args.payload.now c.args.place in
    let is = subst (λ (n : Option ℕ). read ≡ Ok (n, c.in-Ok-Some-default.after)) c.in-Ok-Some-default.field-0-0-is c.in-Ok-Some-default.ensures.exact in
    list_full _ (g.T.Walk.met c.args.payload.now) c.args.at c.show_count-at.result c.args.room.now c.show_count-at.new.room c.walk_times.new.room read c.in-Ok-Some-default.count c.in-Ok-Some-default.after c.walk_times.result is c.show_count-at.ensures c.walk_times.ensures.walks

pub returns-in-Err-clause-walks : goal.returns-in-Err-clause-walks
returns-in-Err-clause-walks g c = list_fails _ (g.T.Walk.met c.args.payload.now) c.args.at c.args.room.now c.in-Err._fault (size_at c.args.payload.now c.args.place) c.in-Err.ensures.exact
