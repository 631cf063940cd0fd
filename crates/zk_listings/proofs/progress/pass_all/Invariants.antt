use Rattle.std.proofs.Common.{◌≡◌, ◌-◌, ℕ, List, length, take, None}
use Rattle.zk_talk.specs.History.{on}
use Rattle.zk_listings.specs.{declared.listing.Listing.TheVariants.Last, Following.Takes}
use Rattle.zk_listings.proofs.progress.pass_all.Given as goal

abbrev pub invariant-loop-at : goal.invariant-loop-at
invariant-loop-at l = record {
  limits : l.talk.limits ≡ l.initial.talk.limits;
  taken : (lines : List ℕ) → Takes Last l.initial.talk lines (on l.side (take l.at l.bytes)) None l.talk lines;
}

abbrev pub decreases-loop-at : goal.decreases-loop-at
decreases-loop-at l = length l.bytes - l.at
