use Rattle.std.proofs.Common.{◌∙◌, sym, ap, subst}
use Rattle.zk_talk.specs.{declared.message.Side.Side, declared.message.Side.TheVariants.Client, declared.message.Side.TheVariants.Server, declared.limits.Limits.Limits}
use Rattle.zk_through.specs.{contracts.through.Through.the_view, Offered.IsWholeFrame, Offered.Cuts}
use Rattle.zk_through.proofs.Offering.{cuts}
use Rattle.zk_through.proofs.through.Through.whole.Goals as goal

pub returns-in-Client : goal.returns-in-Client
returns-in-Client c =
    let T = the_view c.self.inside in
    let same = c.self.invariant.1.same ∙ ap (λ (l : Limits). l.client) (sym c.self.invariant.0) in
    let w = subst (λ (z : Side). IsWholeFrame z T.client c.args.bytes.now c.whole_frame.result) c.in-Client.is c.whole_frame.ensures in
    rw (← c.self.view_is) (subst (λ (z : Side). Cuts z T c.args.bytes.now c.whole_frame.result) (sym c.in-Client.is) (cuts Client T c.args.bytes.now same c.whole_frame.result w))

pub returns-in-Server : goal.returns-in-Server
returns-in-Server c =
    let T = the_view c.self.inside in
    let same = c.self.invariant.2.same ∙ ap (λ (l : Limits). l.server) (sym c.self.invariant.0) in
    let w = subst (λ (z : Side). IsWholeFrame z T.server c.args.bytes.now c.whole_frame-in-Server.result) c.in-Server.is c.whole_frame-in-Server.ensures in
    rw (← c.self.view_is) (subst (λ (z : Side). Cuts z T c.args.bytes.now c.whole_frame-in-Server.result) (sym c.in-Server.is) (cuts Server T c.args.bytes.now same c.whole_frame-in-Server.result w))
