use Rattle.std.proofs.Common.{ap, ◌∙◌, w32}
use Rattle.std.specs.Int.{from_be_bytes}
use Rattle.zk_recordings.specs.Parts.{number}
use Rattle.zk_recordings.proofs.parts.number.Goals as goal

pub returns : goal.returns
unfolding number
returns c = c.from_be_bytes.ensures ∙ ap (from_be_bytes w32) c.word.ensures
