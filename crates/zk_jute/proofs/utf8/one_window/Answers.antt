use Rattle.std.proofs.Common.{◌≡◌, ℕ, ◌+◌, ◌-◌, length, drop, replicate, refl, ap, ◌∙◌, arith}
use Rattle.std.proofs.lemmas.List.{drop-replicate}
use Rattle.zk_jute.proofs.utf8.one_window.Goals as goal

pub returns : goal.returns
returns c =
    let n : ℕ = length c.args.bytes.now in
    let rest : drop (3 + n - 3) (replicate {A = ℕ} 16 0) ≡ replicate (16 - n) 0 =
    drop-replicate (3 + n - 3) 16 0 ∙ ap (λ k. replicate {A = ℕ} k 0) (omega arith) in
    rw (c.copy_from_slice.ensures.after, rest) refl
