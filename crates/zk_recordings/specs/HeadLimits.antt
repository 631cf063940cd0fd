-- The limits that a head's numbers make.
use Rattle.std.specs.Prelude.{ℕ, ◌⊎◌, ◌&&◌, unwrap_or}
use Rattle.std.proofs.Common.{arith, inl, inr}
use Rattle.std.proofs.{lemmas.Bool.cases_Bool, lemmas.Bool.Decides.nat_tests}
use Rattle.zk_records.specs.declared.profile.Profile.{Profile}
use Rattle.zk_records.specs.declared.profile.Profile.TheVariants.{V34}
use Rattle.zk_records.specs.Codes.{profile_of}
use Rattle.zk_talk.specs.{declared.limits.Limits.Limits, Ranges.AreLimits}
use Rattle.zk_recordings.specs.Parts.{is_within}

pub are_or_not : (client server waiting : ℕ) → AreLimits client server waiting ⊎ (AreLimits client server waiting → ⊥)
are_or_not client server waiting = elim (cases_Bool (is_within 64 16777216 client && is_within 64 16777216 server && is_within 1 1048576 waiting)) [
  | inl is ↦ inl (grind (arith, nat_tests))
  | inr not ↦ inr (λ are. grind (arith, nat_tests))
]

-- the profile of the number, and that of 3.4 where it is none's
abbrev pub profile_by : ℕ → Profile
profile_by n = unwrap_or (profile_of n) V34

abbrev pub limits_by : (options : Limits) (client server waiting : ℕ) (profile : Profile) →
    AreLimits client server waiting ⊎ (AreLimits client server waiting → ⊥) → Limits
limits_by options client server waiting profile (inl are) = record { client = client; server = server; waiting = waiting; profile = profile; in_range = are }
limits_by options client server waiting profile (inr out) = options

-- the limits of these numbers; the options, if a number is out of range
unfoldable pub limits_or : Limits → ℕ → ℕ → ℕ → Profile → Limits
limits_or options client server waiting profile = limits_by options client server waiting profile (are_or_not client server waiting)
