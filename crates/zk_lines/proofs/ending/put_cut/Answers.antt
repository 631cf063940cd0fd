use Rattle.std.proofs.Common.{◌≡◌, ◌++◌, ℕ, List, Result, Ok, Err, ap, ◌∙◌, append_assoc}
use Rattle.std.specs.Prelude.{OnOk, codes}
use Rattle.zk_lines.specs.Endings.{count, sided}
use Rattle.zk_lines.proofs.ending.put_cut.Goals as goal

three : {E : Type 0} (r : Result (Unit {0}) E) (old a b c first second third : List ℕ) → first ≡ old ++ a → second ≡ first ++ b → OnOk r (third ≡ second ++ c) → OnOk r (third ≡ old ++ (a ++ (b ++ c)))
three (Ok x) old a b c first second third one two h =
    h ∙ ap (λ (r : List ℕ). r ++ c) (two ∙ ap (λ (r : List ℕ). r ++ b) one ∙ append_assoc old a b) ∙ append_assoc old (a ++ b) c ∙ ap (λ (r : List ℕ). old ++ r) (append_assoc a b c)
three (Err e) old a b c first second third one two h = h

pub returns : goal.returns
returns c =
    three c.put_count-2.result c.args.out.now.items (sided (codes ". cut side=") c.args.side) (count (codes " frame=") c.args.frame) (count (codes " got=") c.args.got)
    c.put_side.new.out.items c.put_count.new.out.items c.put_count-2.new.out.items c.in_ok-put_side.ensures c.in_ok-put_count.ensures c.put_count-2.ensures
