use Rattle.std.proofs.Common.{◌≡◌, ◌∷◌, ◌++◌, [], ℕ, List, OnOk, length, subst, sym}
use Rattle.std.specs.List.{prefix_len}
use Rattle.zk_items.specs.Leaf.{is_plain}
use Rattle.zk_items.proofs.{Kept.on_ok, Looks.all_plain, Small.text_small}
use Rattle.zk_items.proofs.write.put_chars.Goals as goal

pub returns-then-are_plain-clause-fits : goal.returns-then-are_plain-clause-fits
returns-then-are_plain-clause-fits c = on_ok c.put_plain.result (c.utf8.text, text_small _ c.utf8.text)

pub returns-else-are_plain-clause-fits : goal.returns-else-are_plain-clause-fits
returns-else-are_plain-clause-fits c = on_ok c.put_escaped.result (c.utf8.text, text_small _ c.utf8.text)

pub returns-then-are_plain-clause-spelled : goal.returns-then-are_plain-clause-spelled
returns-then-are_plain-clause-spelled c =
    let text = c.args.text.now in
    let spelled : OnOk c.put_plain.result (c.put_plain.new.out.items ≡ c.args.out.now.items ++ (34 ∷ (text ++ (34 ∷ [])))) =
    subst (λ (b : List ℕ). OnOk c.put_plain.result (c.put_plain.new.out.items ≡ c.args.out.now.items ++ (34 ∷ (b ++ (34 ∷ []))))) c.as_bytes-bytes.ensures.value c.put_plain.ensures.spelled in
    let plain : prefix_len is_plain text ≡ length text =
    subst (λ (b : List ℕ). prefix_len is_plain b ≡ length b) c.as_bytes-bytes.ensures.value (c.are_plain.ensures c.if-are_plain.true) in
    subst (λ (b : List ℕ). OnOk c.put_plain.result (c.put_plain.new.out.items ≡ c.args.out.now.items ++ (34 ∷ (b ++ (34 ∷ []))))) (sym (all_plain text plain)) spelled
