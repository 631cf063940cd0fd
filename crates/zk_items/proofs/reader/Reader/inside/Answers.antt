use Rattle.std.proofs.Common.{ℕ, ◌*◌, List, ◌++◌, length, take, ◌∙◌, ap, length-drop, arith}
use Rattle.zk_items.specs.{Leaf.symbol_at, Many.many_at, Many.with_front}
use Rattle.zk_items.proofs.{Kept.keeps_more, Texts.past_plain, Texts.past_run, Texts.past_symbol, Texts.symbol_shorter}
use Rattle.zk_items.proofs.reader.Reader.inside.Goals as goal

pub loop-first-preserved-then-is_plain : goal.loop-first-preserved-then-is_plain
loop-first-preserved-then-is_plain c =
    let l = c.loop-first in
    let new = c.extend_from_slice.new.self.items in
    let appended = c.in_ok-extend_from_slice.ensures.items in
    record {
      read = past_plain l.bytes.items new c.plain.result.now l.self c.plain.new.self appended c.plain.ensures.run c.plain.ensures.rest ∙ l.invariant.read;
      keeps = λ front is. keeps_more l.bytes.items c.plain.result.now new appended front (l.invariant.keeps front is);
    }

pub loop-first-smaller : goal.loop-first-smaller
loop-first-smaller c = symbol_shorter c.loop-first.self c.symbol.new.self c.in-Ok-Some.byte (rw c.in-Ok-Some.field-0-is at c.in-Ok-Some.ensures.exact)

pub loop-first-preserved : goal.loop-first-preserved
loop-first-preserved c =
    let l = c.loop-first in
    let appended = c.in_ok-push-in-Ok-Some.ensures.items in
    record {
      read = ap (λ xs. with_front xs (many_at symbol_at (length c.symbol.new.self) c.symbol.new.self)) appended
          ∙ past_symbol l.bytes.items l.self c.symbol.new.self c.in-Ok-Some.byte (rw c.in-Ok-Some.field-0-is at c.in-Ok-Some.ensures.exact) ∙ l.invariant.read;
      keeps = λ front is. keeps_more l.bytes.items _ _ appended front (l.invariant.keeps front is);
    }

pub loop-first-preserved-then-count-gt0 : goal.loop-first-preserved-then-count-gt0
loop-first-preserved-then-count-gt0 c =
    let l = c.loop-first in
    let e = c.escapes-count in
    let new = c.append_first.new.out.items in
    let appended = c.in_ok-append_first.ensures.appended ∙ ap (λ (xs : List ℕ). l.bytes.items ++ take e.result.1 xs) c.as_array.ensures in
    record {
      read = past_run l.bytes.items new l.self c.pass.new.self e.result.0 e.result.1 e.ensures.bytes.1 appended e.ensures.read c.pass.ensures ∙ l.invariant.read;
      keeps = λ front is. keeps_more l.bytes.items _ new appended front (l.invariant.keeps front is);
    }

pub loop-first-smaller-then-count-gt0 : goal.loop-first-smaller-then-count-gt0
loop-first-smaller-then-count-gt0 c = omega (arith, c.escapes-count.ensures.few, ap length c.pass.ensures, length-drop (3 * c.escapes-count.result.1) c.loop-first.self)
