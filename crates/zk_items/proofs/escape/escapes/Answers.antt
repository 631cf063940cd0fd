use Rattle.std.proofs.Common.{◌∙◌}
use Rattle.zk_items.proofs.{Lanes.all_bytes, Escapes.escaped_rest}
use Rattle.zk_items.proofs.escape.escapes.Goals as goal

pub returns : goal.returns
returns c =
    c.in_row.ensures
    ∙ escaped_rest c.five_escapes.result c.args.bytes c.pairs-digits.result c.five_escapes.ensures.escapes c.fits-bytes.0 (all_bytes c.args.bytes c.fits-bytes.1) c.pairs-digits.ensures
