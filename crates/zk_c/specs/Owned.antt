-- What the pointer of a handle owns.
use Rattle.std.specs.Prelude.{Option, Some, None}
use base.Fml.{Fml, ftrue, fex}
use denote.RattleType.{RattleType}
use denote.RawPtr.{Ptr}
use Rattle.std_heap.specs.{declared.Global.Global, contracts.GlobalAllocator.TheImpl.ghosts}
use Rattle.std.specs.Box.Ownership.{box_owns}

-- what a handle owns: nothing, or the value that the pointer points to, with the right to free its block, of some allocator
abbrev pub owned : (R : RattleType) → Ptr → Option R.Denot → Fml
owned R p None = ftrue
owned R p (Some x) = fex Global (λ alloc. box_owns (ghosts.dealloc_token alloc) R p x)
