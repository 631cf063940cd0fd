use Rattle.std.proofs.Common.{◌≡◌, sym, ap, subst}
use Rattle.std.specs.Prelude.{Some}
use Rattle.zk_asks.specs.{Held.ClientFrame, Frames.IsSent, Frames.IsLater, Frames.IsOfProfile, Frames.payload}
use Rattle.zk_asks.specs.declared.frame.ClientFrameOf.TheVariants as frame
use Rattle.zk_asks.proofs.borrow.ask_ref.Goals as goal

pub judged_request-requires : goal.judged_request-requires
judged_request-requires c = let o = c.in_ok-outline in let f = o.ensures.found in (frame.Ask o.outline.xid f.0, ap Some f.2, f.3, f.4)

pub returns-clause-found : goal.returns-clause-found
returns-clause-found c =
    let o = c.in_ok-outline in
    let f = o.ensures.found in
    let src = c.args.payload.now in
    let is = c.judged_request.ensures (frame.Ask o.outline.xid f.0) (ap Some f.2) f.3 f.4 in
    subst (λ (r : ClientFrame). IsLater r × IsOfProfile c.args.profile r × IsSent r × (src ≡ payload r)) (sym is) (tt, f.1, f.3, f.4)
