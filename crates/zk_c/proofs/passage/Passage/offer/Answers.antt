use Rattle.std.proofs.Common.{◌≡◌, Err, None, Ok, Option, Result, refl, subst}
use Rattle.zk_talk.specs.{declared.message.Fault.Fault, Viewed.other_side}
use Rattle.zk_through.specs.{declared.through.Passed.Passed, Offered.Offers}
use Rattle.zk_c.specs.{Passage.PassageState, PassingOn.IsOffer}
use Rattle.zk_c.proofs.Handles.{same_newest}
use Rattle.zk_c.proofs.passage.Passage.offer.Goals as goal

pub returns-in-Err : goal.returns-in-Err
returns-in-Err c =
    let was = c.self.inside in
    let after : PassageState = record { through = c.offer.new.self; client = was.client; server = was.server } in
    subst (λ (p : PassageState). IsOffer p c.args.side c.args.frame.now (Err c.in-Err.fault) after) c.self.view_is (record {
      limits = c.in-Err.ensures.limits;
      late = c.in-Err.ensures.late;
      offered = c.in-Err.ensures.offered;
      only = c.in-Err.ensures.only;
      room = c.in-Err.ensures.room;
      other = c.in-Err.ensures.other;
      kept = c.in-Err.ensures.kept;
      newest = same_newest c.args.side c.offer.new.self was.through was.client was.server;
      others = same_newest (other_side c.args.side) c.offer.new.self was.through was.client was.server;
    })

pub returns-in_default : goal.returns-in_default
returns-in_default c =
    let was = c.self.inside in
    let none = c.in_default.is in
    let after : PassageState = record { through = c.offer.new.self; client = was.client; server = was.server } in
    subst (λ (p : PassageState). IsOffer p c.args.side c.args.frame.now (Ok None) after) c.self.view_is (record {
      limits = c.in-Ok.ensures.limits;
      late = c.in-Ok.ensures.late;
      offered = subst (λ (o : Option Passed). Offers was.through c.args.side c.args.frame.now (Ok o) c.offer.new.self) none c.in-Ok.ensures.offered;
      only = λ other good. refl;
      room = tt;
      other = c.in-Ok.ensures.other;
      kept = λ f is. subst (λ (o : Option Passed). ◌≡◌ {A = Result (Option Passed) Fault} (Ok o) (Err f)) none (c.in-Ok.ensures.kept f is);
      newest = same_newest c.args.side c.offer.new.self was.through was.client was.server;
      others = same_newest (other_side c.args.side) c.offer.new.self was.through was.client was.server;
    })
