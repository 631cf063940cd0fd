use Rattle.std.proofs.Common.{◌≡◌, ◌+◌, ◌*◌, ◌%◌, ◌++◌, List, ℕ, length, take, drop, sym, ap, ◌∙◌, take_all, take-add, arith}
use Rattle.std.proofs.lemmas.List.{length-take-le, take-take}
use Rattle.hex.specs.Hex.{encode_lower}
use Rattle.zk_items.proofs.Lanes.{encoded-append, encoded-take}
use Rattle.zk_items.proofs.write_hex.write_blocks.Goals as goal

pub loop-at-init : goal.loop-at-init
loop-at-init c =
    let bytes = c.args.bytes.now in
    let few = length bytes % 16 in
    let block = take 16 bytes in
    record {
      within = omega arith;
      whole = omega arith;
      room = c.write_block.ensures.room ∙ c.requires.room;
      written = sym (take-take (2 * few) 32 c.write_block.new.room (omega arith)) ∙ ap (take (2 * few)) c.write_block.ensures.written
          ∙ encoded-take few block (omega (arith, length-take-le 16 bytes (omega arith))) ∙ ap encode_lower (take-take few 16 bytes (omega arith));
    }

pub loop-at-preserved : goal.loop-at-preserved
loop-at-preserved c =
    let l = c.loop-at in
    let bytes = c.args.bytes.now in
    let block = take 16 (drop l.at bytes) in
    let new = c.write_block-in-loop-at.new.room in
    let end : 2 * (l.at + 16) ≡ 2 * l.at + 32 = omega arith in
    let now = l.invariant.whole in
    record {
      within = omega arith;
      whole = omega arith;
      room = c.write_block-in-loop-at.ensures.room ∙ l.invariant.room;
      written = ap (λ (n : ℕ). take n new) end ∙ c.write_block-in-loop-at.ensures.written ∙ ap (λ (d : List ℕ). d ++ encode_lower block) l.invariant.written
          ∙ sym (encoded-append (take l.at bytes) block) ∙ ap encode_lower (sym (take-add l.at 16 bytes));
    }

pub returns : goal.returns
returns c =
    let l = c.loop-at in
    let bytes = c.args.bytes.now in
    sym (take_all (2 * l.at) l.room (omega (arith, l.invariant.room))) ∙ l.invariant.written ∙ ap encode_lower (take_all l.at bytes (omega arith))
