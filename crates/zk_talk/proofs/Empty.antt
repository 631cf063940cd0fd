-- An empty piece makes no frame whole, and refuses no side.
use Rattle.std.proofs.Common.{◌≡◌, ℕ, ◌<◌, ◌≤◌, List, length, arith}
use Rattle.zk_jute.specs.declared.fault.Reason.{Reason}
use Rattle.zk_talk.specs.Advance.{IsStop, too_many, out_of_range}

pub no_bytes_whole : {used n : ℕ} → 0 < used → used ≤ n → n ≡ 0 → ⊥
no_bytes_whole some within none = omega arith

pub no_bytes_refused : {limit size used : ℕ} {held piece after : List ℕ} {reason : Reason} → IsStop limit size held piece used reason after → used ≤ length piece → length piece ≡ 0 → ⊥
no_bytes_refused (too_many k one before at begins because kept) within none = omega arith
no_bytes_refused (out_of_range some part size short bad because kept) within none = omega arith
