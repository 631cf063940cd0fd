use Rattle.std.proofs.Common.{refl}
use Rattle.std.proofs.lemmas.Result.{err_from_is_err_and}
use Rattle.zk_talk.specs.declared.message.Side.TheVariants.{Client, Server}
use Rattle.zk_through.specs.contracts.through.Through.{the_view}
use Rattle.zk_through.proofs.{Never.never_full, Offering.kept_offered, Offering.offers_room}
use Rattle.zk_through.proofs.through.Through.offer.Goals as goal

pub returns-in-Some-clause-offered : goal.returns-in-Some-clause-offered
returns-in-Some-clause-offered c = rw (← c.self.view_is) (kept_offered c.args.side (the_view c.self.inside) c.args.frame.now c.in-Some.fault c.in-Some.is, refl)

pub returns-in_err-whole-clause-offered : goal.returns-in_err-whole-clause-offered
returns-in_err-whole-clause-offered c =
    let p = err_from_is_err_and c.from_residual.result c.from_residual.ensures.1 in
    rw (p.1, p.2) (c.in_err-whole.ensures.1, refl)

pub returns-in_err-whole-clause-room : goal.returns-in_err-whole-clause-room
returns-in_err-whole-clause-room c =
    let p = err_from_is_err_and c.from_residual.result c.from_residual.ensures.1 in
    let w = c.in_err-whole.ensures.1 in
    rw (p.1, p.2) (never_full c.args.side _ c.args.frame.now _ w.0 w.2)

pub returns-in-Client-clause-room : goal.returns-in-Client-clause-room
returns-in-Client-clause-room c = offers_room Client c.args.self.now c.client_offer.new.self c.args.frame.now c.client_offer.result c.client_offer.ensures.offered

pub returns-in-Server-clause-room : goal.returns-in-Server-clause-room
returns-in-Server-clause-room c = offers_room Server c.args.self.now c.server_offer.new.self c.args.frame.now c.server_offer.result c.server_offer.ensures.offered
