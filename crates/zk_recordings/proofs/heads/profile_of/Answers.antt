use Rattle.std.proofs.Common.{ap, ◌∙◌, Option}
use Rattle.std.specs.Prelude.{unwrap_or}
use Rattle.zk_records.specs.declared.profile.Profile.{Profile}
use Rattle.zk_records.specs.declared.profile.Profile.TheVariants.{V34}
use Rattle.zk_records.proofs.Numbers.{profile_told}
use Rattle.zk_recordings.proofs.heads.profile_of.Goals as goal

pub returns : goal.returns
returns c = c.unwrap_or.ensures ∙ ap (λ (o : Option Profile). unwrap_or o V34) (profile_told c.args.number c.of_number.result c.of_number.ensures)
