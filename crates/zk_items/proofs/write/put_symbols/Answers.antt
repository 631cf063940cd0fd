use Rattle.std.proofs.Common.{rules, ◌≡◌, ◌++◌, ℕ, List, take, drop, ap, ap₂, ◌∙◌, append_assoc}
use Rattle.std.specs.List.{flat_map}
use Rattle.zk_items.specs.Leaf.{symbol_spell}
use Rattle.zk_items.proofs.{Escapes.spelled_further, Kept.keeps_more, Looks.plain_front}
use Rattle.zk_items.proofs.write.put_symbols.Goals as goal

pub loop-first-preserved-then-is_plain : goal.loop-first-preserved-then-is_plain
loop-first-preserved-then-is_plain c =
    let ahead = c.loop-first.ahead.now in
    let parts : c.split_at.result.0.now ++ flat_map symbol_spell c.split_at.result.1.now ≡ flat_map symbol_spell ahead =
    ap₂ (λ (run rest : List ℕ). run ++ flat_map symbol_spell rest) c.split_at.ensures.front c.split_at.ensures.back
    ∙ ap (λ (n : ℕ). take n ahead ++ flat_map symbol_spell (drop n ahead)) c.plain_len.ensures.value ∙ plain_front ahead in
    let spelled : c.extend_from_slice.new.self.items ++ flat_map symbol_spell c.split_at.result.1.now ≡ c.args.out.now.items ++ flat_map symbol_spell c.args.bytes.now =
    ap (λ (o : List ℕ). o ++ flat_map symbol_spell c.split_at.result.1.now) c.in_ok-extend_from_slice.ensures.items
    ∙ append_assoc c.loop-first.out.items c.split_at.result.0.now (flat_map symbol_spell c.split_at.result.1.now)
    ∙ ap (λ (r : List ℕ). c.loop-first.out.items ++ r) parts ∙ c.loop-first.invariant.spelled in
    record { spelled = spelled; keeps = λ front is. keeps_more _ _ _ c.in_ok-extend_from_slice.ensures.items front (c.loop-first.invariant.keeps front is) }

pub returns-in_err-extend_from_slice-clause-keeps : goal.returns-in_err-extend_from_slice-clause-keeps
returns-in_err-extend_from_slice-clause-keeps c = search (rules, c.loop-first.invariant.keeps)

pub loop-first-preserved : goal.loop-first-preserved
loop-first-preserved c =
    let l = c.loop-first in
    record {
      spelled = spelled_further l.out.items c.put_odd.new.out.items l.ahead.now c.in_ok-count.count _ c.in_ok-count.ensures.spelled l.invariant.spelled;
      keeps = λ front is. keeps_more _ _ _ c.in_ok-count.ensures.spelled front (l.invariant.keeps front is);
    }

pub returns-in_err-count-clause-keeps : goal.returns-in_err-count-clause-keeps
returns-in_err-count-clause-keeps c = search (rules, c.loop-first.invariant.keeps, c.put_odd.ensures.keeps)
