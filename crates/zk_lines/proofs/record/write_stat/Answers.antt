use Rattle.std.proofs.Common.{rules, arith, ℤ, SFits, w32, w64, to_z, of_z, to_z-of_z, ◌≡◌, ◌∷◌, [], ◌++◌, ◌+◌, ◌∙◌, ap, ap₂, List, ℕ, suc, length, drop, set}
use Rattle.std.proofs.{Math.ListN.drop_of_length-le, Math.Seq.drop-cons, lemmas.List.get_or-set_same, lemmas.List.length-set}
use Rattle.zk_lines.specs.{Words.word_of, Records.numbers, Records.numbers_of}
use Rattle.zk_lines.proofs.record.write_stat.Goals as goal

last : (n : ℕ) (l : List ℕ) (b : ℕ) → length l ≡ n + 1 → drop n (set l n b) ≡ b ∷ []
last n l b long =
    let w = set l n b in
    let same : length w ≡ n + 1 = length-set l n b ∙ long in
    drop-cons w n 0 (omega (arith, same))
    ∙ ap₂ (λ (x : ℕ) (r : List ℕ). x ∷ r) (get_or-set_same l n b 0 (omega (arith, long))) (drop_of_length-le w {i = suc n} (omega (arith, same)))

pub returns-clause-written : goal.returns-clause-written
unfolding word_of
returns-clause-written c =
    let s = c.args.stat.now in
    let n : List ℕ = numbers.spell (numbers_of s) in
    let long : (z : ℤ) → SFits w64 z → to_z w64 (of_z w64 z) ≡ z = λ z fit. to_z-of_z fit in
    let int : (z : ℤ) → SFits w32 z → to_z w32 (of_z w32 z) ≡ z = λ z fit. to_z-of_z fit in
    let written : drop c.write_before.result c.write_before.new.room ≡ 40 ∷ (n ++ drop 231 (set c.args.room.now 231 41)) =
    simp (
      long s.czxid (search rules),
      long s.mzxid (search rules),
      long s.ctime (search rules),
      long s.mtime (search rules),
      int s.version (search rules),
      int s.cversion (search rules),
      int s.aversion (search rules),
      long s.ephemeral_owner (search rules),
      int s.data_length (search rules),
      int s.num_children (search rules),
      long s.pzxid (search rules),
    ) at c.write_before.ensures.written in
    written ∙ ap (λ (l : List ℕ). 40 ∷ (n ++ l)) (last 231 c.args.room.now 41 (search rules))
