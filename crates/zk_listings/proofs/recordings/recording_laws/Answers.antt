use Rattle.zk_recordings.proofs.{Any.any, Once.recorded, Once.spells-once}
use Rattle.zk_listings.proofs.{Lasting.decided-more, Outcomes.outcome-once, Comings.some_outcome}
use Rattle.zk_listings.proofs.recordings.recording_laws.Goals as goal

pub returns : goal.returns
returns c = record {
  any = λ x. (recorded x, any x);
  once = spells-once;
  outcome = outcome-once;
  decided = λ limits x more r s i j decided messages summary o. decided-more limits x more r s messages i j summary decided o;
  comes = some_outcome;
}
