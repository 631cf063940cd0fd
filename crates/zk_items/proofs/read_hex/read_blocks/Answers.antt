use Rattle.std.proofs.Common.{◌≡◌, ◌+◌, ◌*◌, ◌%◌, ◌++◌, List, ℕ, length, take, drop, sym, ap, ◌∙◌, take_all, take-add, arith}
use Rattle.std.proofs.lemmas.List.{length-take-le, take-take}
use Rattle.hex.specs.Hex.{encode_lower, encode_with}
use Rattle.zk_items.proofs.Lanes.{encoded-take}
use Rattle.zk_items.proofs.read_hex.read_blocks.Goals as goal

pub loop-at-init : goal.loop-at-init
unfolding encode_with
loop-at-init c =
    let room = c.read_block.new.room in
    let digits = c.args.digits.now in
    let few = length room % 16 in
    let long : length room ≡ length c.args.room.now = c.read_block.ensures.room in
    record {
      within = omega arith;
      whole = omega arith;
      room = ap (λ (n : ℕ). 2 * n) long ∙ c.requires.room;
      read = ap encode_lower (sym (take-take few 16 room (omega arith))) ∙ sym (encoded-take few (take 16 room) (omega (arith, length-take-le 16 room (omega (arith, long)))))
          ∙ ap (take (2 * few)) c.read_block.ensures.read ∙ take-take (2 * few) 32 digits (omega arith);
    }

pub loop-at-preserved : goal.loop-at-preserved
loop-at-preserved c =
    let l = c.loop-at in
    let digits = c.args.digits.now in
    let step = c.read_block-in-loop-at in
    let new = step.new.room in
    let end : 2 * (l.at + 16) ≡ 2 * l.at + 32 = omega arith in
    let now = l.invariant.whole in
    let long : length new ≡ length l.room = step.ensures.room in
    record {
      within = omega (arith, long);
      whole = omega (arith, long);
      room = ap (λ (n : ℕ). 2 * n) long ∙ l.invariant.room;
      read = step.ensures.read ∙ ap (λ (d : List ℕ). d ++ take 32 (drop (2 * l.at) digits)) l.invariant.read ∙ sym (take-add (2 * l.at) 32 digits) ∙ ap (λ (n : ℕ). take n digits) (sym end);
    }

pub returns : goal.returns
returns c =
    let l = c.loop-at in
    let digits = c.args.digits.now in
    ap encode_lower (sym (take_all l.at l.room (omega arith))) ∙ l.invariant.read ∙ take_all (2 * l.at) digits (omega (arith, l.invariant.room))
