-- A turn's fault isn't a lack of memory.
use Rattle.std.proofs.Common.{◌≡◌, ℤ, inl, inr}
use Rattle.zk_jute.specs.declared.fault.Reason.{Reason}
use Rattle.zk_jute.specs.declared.fault.Reason.TheVariants.{NoMemory}
use Rattle.zk_through.specs.Turns.{TurnsState, IsBadTurn}

-- a turn's fault isn't that memory was refused
pub bad_known : (t : TurnsState) (xid : ℤ) (reason : Reason) → IsBadTurn t xid reason → reason ≡ NoMemory → ⊥
bad_known t xid reason (inl b) e = cc (b.1)
bad_known t xid reason (inr b) e = cc (b.4)
