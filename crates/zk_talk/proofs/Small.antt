-- Limits are small, and numbers of 32 bits.
use Rattle.std.proofs.Common.{◌≡◌, ◌<◌, ◌^◌, ◌∙◌, ℤ, FitsSigned, w32, of_z, to_z, sym, ap, arith}
use Rattle.std.proofs.lemmas.Int.{to_z-of_z}
use Rattle.zk_talk.specs.declared.limits.Limits.{Limits}

-- the limits of a frame are below 2^31
abbrev pub AreSmall : Limits → Type 0
AreSmall limits = (limits.client < 2 ^ 31) × (limits.server < 2 ^ 31)

pub small_limits : (limits : Limits) → AreSmall limits
small_limits limits = (omega (arith, limits.in_range), omega (arith, limits.in_range))

-- a number of 32 bits is the one that has its bits
pub same_signed : (a is b : ℤ) → a ≡ is → FitsSigned w32 a → FitsSigned w32 b → of_z w32 a ≡ of_z w32 b → is ≡ b
same_signed a is b e fits fits' bits = sym e ∙ sym (to_z-of_z w32 a fits) ∙ ap (to_z w32) bits ∙ to_z-of_z w32 b fits'
