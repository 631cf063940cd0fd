use Rattle.std.proofs.Common.{ap, ◌∙◌, nat_lt, ◌^◌, arith}
use Rattle.std.specs.Prelude.{is_some}
use Rattle.zk_records.specs.Codes.{profile_of}
use Rattle.zk_records.proofs.Numbers.{profile_told}
use Rattle.std.proofs.lemmas.List.{take_all}
use Rattle.zk_recordings.specs.Parts.{long_number}
use Rattle.zk_recordings.proofs.parts.Part.is_good.Goals as goal

pub returns-in-Time : goal.returns-in-Time
unfolding long_number
returns-in-Time c = rw c.in-Time.is (rw (take_all 8 c.args.bytes (omega (arith, c.requires))) (ap (λ n. nat_lt n (2 ^ 63)) c.from_be_bytes.ensures))

pub returns-in-Profile : goal.returns-in-Profile
returns-in-Profile c = rw c.in-Profile.is (c.is_some.ensures ∙ ap is_some (profile_told c.number-in-Profile.result c.of_number.result c.of_number.ensures ∙ ap profile_of c.number-in-Profile.ensures))
