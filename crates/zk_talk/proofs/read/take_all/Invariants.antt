use Rattle.std.proofs.Common.{length, ◌-◌, ◌≡◌, ◌≤◌, ◌++◌, take}
use Rattle.zk_talk.specs.{History.History, History.on, Stands.Stands}
use Rattle.zk_talk.proofs.read.take_all.Given as goal

abbrev pub invariant-loop-at : goal.invariant-loop-at
invariant-loop-at l = record {
  within : l.at ≤ length l.bytes;
  limits : l.talk.limits ≡ l.initial.talk.limits;
  stands : (h : History) → Stands l.initial.talk h l.initial.messages.items → Stands l.talk (h ++ on l.side (take l.at l.bytes)) l.messages.items;
}

abbrev pub decreases-loop-at : goal.decreases-loop-at
decreases-loop-at l = length l.bytes - l.at
