use Rattle.std.proofs.Common.{◌≡◌, ◌<◌, ◌^◌, true, length, arith, sym, ap, subst, ◌∙◌}
use Rattle.zk_talk.specs.{Held.Message, Stands.kept_on, Viewed.Shows}
use Rattle.zk_c.specs.{Passage.PassageState, Passage.newest_on, Passing.IsFields, contracts.passage.Passage.the_view}
use Rattle.zk_c.proofs.Keeping.{has_fields}
use Rattle.zk_c.proofs.passage.Passage.fields.Goals as goal

pub returns : goal.returns
returns c =
    let side = c.args.side in
    let newest : newest_on side (the_view c.self.inside) ≡ true = ap (newest_on side) c.self.view_is ∙ sym c.is_newest.ensures ∙ c.if-not-is_newest.false in
    let few : length (kept_on side c.self.inside.through.talk) < 2 ^ 32 = omega (arith, c.size-size.ensures, c.size-size.type_inv) in
    let tells = λ (m : Message) (shows : Shows c.self.inside.through.talk side m). c.read_shown.ensures.some m (c.view.ensures.only m shows) (has_fields c.self.inside.through.talk side m shows few) in
    subst (λ (p : PassageState). IsFields p side c.args.room.now c.read_shown.new.room c.read_shown.result) c.self.view_is
    (record { none = λ none. c.read_shown.ensures.none (c.view.ensures.none (none newest)); some = λ m shows. tells m shows.1 })
