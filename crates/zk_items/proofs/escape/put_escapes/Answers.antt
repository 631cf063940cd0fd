use Rattle.std.proofs.Common.{◌≤◌, ◌*◌, ◌∙◌, take, ap, arith}
use Rattle.std.proofs.lemmas.List.{take-take}
use Rattle.std.specs.List.{flat_map}
use Rattle.zk_items.specs.Odd.{escape}
use Rattle.zk_items.proofs.Escapes.{spelled_front, on_piece}
use Rattle.zk_items.proofs.escape.put_escapes.Goals as goal

pub returns-then-count-le5-clause-spelled : goal.returns-then-count-le5-clause-spelled
returns-then-count-le5-clause-spelled c =
    let most : 3 * c.args.count ≤ 16 = omega arith in
    on_piece _ _ _ _ _ (ap (take (3 * c.args.count)) (c.as_array.ensures ∙ c.five_escapes.ensures.escapes) ∙ take-take (3 * c.args.count) 16 (flat_map escape c.args.bytes) most
    ∙ spelled_front c.args.count c.args.bytes (omega (arith, c.fits-bytes.0)) c.requires.odd) c.append_first.ensures.appended

pub returns-else-count-le5-clause-spelled : goal.returns-else-count-le5-clause-spelled
returns-else-count-le5-clause-spelled c =
    on_piece _ _ _ _ _ (ap (take (3 * c.args.count)) c.escapes.ensures ∙ spelled_front c.args.count c.args.bytes (omega (arith, c.fits-bytes.0)) c.requires.odd) c.append_first-else-count-le5.ensures.appended
