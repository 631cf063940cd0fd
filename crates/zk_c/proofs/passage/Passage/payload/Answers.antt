use Rattle.std.proofs.Common.{◌≡◌, ◌∙◌, true, sym, ap, subst}
use Rattle.zk_c.specs.{Passage.PassageState, Passage.newest_on, PassingOn.IsPayload, contracts.passage.Passage.the_view}
use Rattle.zk_c.proofs.{Keeping.payload_told, Payloads.left_written, Payloads.shown_written}
use Rattle.zk_c.proofs.passage.Passage.payload.Goals as goal

pub returns-in-Some : goal.returns-in-Some
returns-in-Some c =
    subst (λ (p : PassageState). IsPayload p c.args.side c.args.out.now c.of.new.out c.of.result) c.self.view_is
    (left_written (the_view c.self.inside) c.args.side c.args.out.now c.of.new.out c.of.result c.in-Some.left.now c.in-Some.ensures c.of.ensures)

pub returns : goal.returns
returns c =
    let side = c.args.side in
    let newest : newest_on side (the_view c.self.inside) ≡ true = ap (newest_on side) c.self.view_is ∙ sym c.is_newest.ensures ∙ c.if-not-is_newest.false in
    subst (λ (p : PassageState). IsPayload p side c.args.out.now c.of-2.new.out c.of-2.result) c.self.view_is
    (shown_written (the_view c.self.inside) side c.args.out.now c.of-2.new.out c.of-2.result c.in_default.ensures newest
    (payload_told c.self.inside.through.talk side c.args.out.now c.of-2.new.out c.of-2.result c.payload.result c.payload.ensures c.of-2.ensures))
