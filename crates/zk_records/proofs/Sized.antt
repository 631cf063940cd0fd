-- Where a record ends whose fields all have their sizes.
use Rattle.std.proofs.Common.{◌≡◌, ℕ, ◌+◌, ◌≤◌, List, length, Ok, ◌∙◌, arith}
use Rattle.zk_jute.specs.Reading.{end_of, items_at}
use Rattle.zk_jute.proofs.Judged.{int_then, long_then, long_last}
use Rattle.zk_records.specs.Records.{stat}

pub stat_ends : (src : List ℕ) (place : ℕ) → place + 68 ≤ length src → end_of (items_at stat.layout src place) ≡ Ok (place + 68)
stat_ends src place room =
    long_then _ src place (place + 8) (omega (arith, room)) (omega arith)
    ∙ long_then _ src (place + 8) (place + 16) (omega (arith, room)) (omega arith)
    ∙ long_then _ src (place + 16) (place + 24) (omega (arith, room)) (omega arith)
    ∙ long_then _ src (place + 24) (place + 32) (omega (arith, room)) (omega arith)
    ∙ int_then _ src (place + 32) (place + 36) (omega (arith, room)) (omega arith)
    ∙ int_then _ src (place + 36) (place + 40) (omega (arith, room)) (omega arith)
    ∙ int_then _ src (place + 40) (place + 44) (omega (arith, room)) (omega arith)
    ∙ long_then _ src (place + 44) (place + 52) (omega (arith, room)) (omega arith)
    ∙ int_then _ src (place + 52) (place + 56) (omega (arith, room)) (omega arith)
    ∙ int_then _ src (place + 56) (place + 60) (omega (arith, room)) (omega arith)
    ∙ long_last src (place + 60) (place + 68) room (omega arith)
