use Rattle.std.proofs.Common.{Err, subst}
use Rattle.zk_talk.specs.Viewed.{other_side}
use Rattle.zk_c.specs.{Passage.PassageState, Passing.IsPassing}
use Rattle.zk_c.proofs.Handles.{same_newest}
use Rattle.zk_c.proofs.passage.Passage.advance.Goals as goal

pub returns-in-Err : goal.returns-in-Err
returns-in-Err g c =
    let was = c.self.inside in
    let after : PassageState = record { through = c.step.new.self; client = was.client; server = was.server } in
    subst (λ (p : PassageState). IsPassing p c.args.side c.args.piece.now (Err c.in-Err.fault) after) c.self.view_is (record {
      limits = c.in-Err.ensures.limits;
      late = c.in-Err.ensures.late;
      ok = tt;
      err = c.in-Err.ensures.err;
      room = c.in-Err.ensures.room;
      waits = c.in-Err.ensures.waits;
      other = c.in-Err.ensures.other;
      none = c.in-Err.ensures.none;
      kept = c.in-Err.ensures.kept;
      newest = same_newest c.args.side c.step.new.self was.through was.client was.server;
      others = same_newest (other_side c.args.side) c.step.new.self was.through was.client was.server;
    })
