-- What holds at the exits of a run.
use Rattle.std.proofs.Common.{◌≡◌, ℕ, ◌+◌, ◌≤◌, Bool, Result, Ok, Err, IfErr, OnErr, sym, subst}
use Rattle.std.specs.Result.{IsErrAnd}
use Rattle.zk_listings.specs.{declared.listing.RunFault.TheVariants.Read, Running.IsSpent, Running.LeavesDevices}

pub on-err : {T E P : Type 0} (r : Result T E) → P → OnErr r P
on-err (Ok x) p = tt
on-err (Err e) p = p

-- by a `?` with this error
pub if-err : {T E : Type 0} (r : Result T E) (e : E) (P : E → Type 0) → IsErrAnd r (λ y. y ≡ e) → P e → IfErr r P
if-err (Ok x) e P is p = tt
if-err (Err y) e P is p = subst P (sym is) p

-- a read failed, or would be one too many
pub left-by-read : {X : Type 0} (reads reads_now : ℕ) (reader_failed writer_failed : Bool) → IsSpent reader_failed reads reads_now → reads_now ≤ reads + 4294967296 →
    LeavesDevices {X = X} (Err Read) reads reads_now reader_failed writer_failed
left-by-read reads reads_now reader_failed writer_failed spent bound =
    record { spent = λ _. spent; write = λ e. cc; intact = tt; spared = λ e. cc; alive = tt; memory = λ e. cc; bound = bound }
