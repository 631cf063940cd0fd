use Rattle.std.proofs.Common.{refl, arith}
use Rattle.zk_listings.proofs.progress.Progress.new.Goals as goal

pub returns-clause-start : goal.returns-clause-start
returns-clause-start c = record {
  options = refl;
  recording = _;
  at = c.new.ensures.start;
  unbroken = λ b. absurd (omega (arith, b.1.head_read));
  talks = record { headed = tt; has = (refl, refl) };
}
