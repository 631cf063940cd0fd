use Rattle.std.proofs.Common.{◌+◌, ◌≤◌, ◌-◌, ◌++◌, List, ℕ, Option, length, take}
use Rattle.std.specs.Io.KnownBytes.{append_known}
use Rattle.zk_talk.specs.declared.limits.Limits.{Limits}
use Rattle.zk_runs.specs.Accepting.{HasTaken}
use Rattle.zk_runs.proofs.builder.Builder.gather.Given as goal

abbrev pub invariant-loop-at : goal.invariant-loop-at
invariant-loop-at l = record {
  within : l.at ≤ length l.block;
  count : l.self.scribe.lines ≤ l.initial.self.scribe.lines + l.at;
  taken : (limits : Limits) (x : List ℕ) (before written : Option (List ℕ)) →
      HasTaken limits x before (append_known written l.initial.due.items) l.initial.self.begun.items l.initial.self.scribe.lines l.initial.self.scribe.ended l.initial.self.scribe.speaker →
      HasTaken limits (x ++ take l.at l.block) before (append_known written l.due.items) l.self.begun.items l.self.scribe.lines l.self.scribe.ended l.self.scribe.speaker;
}

abbrev pub decreases-loop-at : goal.decreases-loop-at
decreases-loop-at l = length l.block - l.at
