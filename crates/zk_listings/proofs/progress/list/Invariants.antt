use Rattle.std.proofs.Common.{◌≡◌, ◌-◌, length, take, None}
use Rattle.zk_talk.specs.History.{on}
use Rattle.zk_listings.specs.{declared.listing.Listing.TheVariants.All, Following.Takes}
use Rattle.zk_listings.proofs.progress.list.Given as goal

abbrev pub invariant-loop-at : goal.invariant-loop-at
invariant-loop-at l = record {
  limits : l.talk.limits ≡ l.initial.talk.limits;
  taken : Takes All l.initial.talk l.initial.lines.items (on l.side (take l.at l.bytes)) None l.talk l.lines.items;
}

abbrev pub decreases-loop-at : goal.decreases-loop-at
decreases-loop-at l = length l.bytes - l.at
