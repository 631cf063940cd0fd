use Rattle.std.proofs.Common.{◌≡◌, ◌+◌, ◌≤◌, ◌-◌, length, take, None, []}
use Rattle.zk_recordings.specs.Reading.{place_in}
use Rattle.zk_listings.specs.{declared.listing.Listing.TheVariants.All, Gathering.AdvancesBut}
use Rattle.zk_listings.proofs.progress.Progress.feed.Given as goal

abbrev pub invariant-loop-at : goal.invariant-loop-at
invariant-loop-at l = record {
  within : l.at ≤ length l.block;
  none : l.found ≡ None;
  place : place_in l.self.reader ≤ place_in l.initial.self.reader + l.at;
  listed : l.fn.listing ≡ All → l.gathered.bytes ≡ [];
  advances : AdvancesBut l.initial.gathered l.fn.listing l.initial.self l.initial.lines.items (take l.at l.block) None l.gathered l.self l.lines.items;
}

abbrev pub decreases-loop-at : goal.decreases-loop-at
decreases-loop-at l = length l.block - l.at
