-- The names that commands and profiles have in a command line.
use Rattle.std.specs.Prelude.{ℕ, List, codes}
use Rattle.zk_records.specs.declared.profile.Profile.{Profile}
use Rattle.zk_records.specs.declared.profile.Profile.TheVariants.{V34, V35, V37}
use Rattle.zk_runs.specs.declared.options.Command.{Command}
use Rattle.zk_runs.specs.declared.options.Command.TheVariants.{Show, Check, Build, Migrate}

abbrev pub command_name : Command → List ℕ
command_name Show = codes "show"
command_name Check = codes "check"
command_name Build = codes "build"
command_name Migrate = codes "migrate"

abbrev pub profile_name : Profile → List ℕ
profile_name V34 = codes "3.4"
profile_name V35 = codes "3.5"
profile_name V37 = codes "3.7"
