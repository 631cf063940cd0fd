use Rattle.std.proofs.Common.{ℕ, replicate, ◌∙◌}
use Rattle.zk_items.proofs.Escapes.{laid}
use Rattle.zk_items.proofs.escape.in_row.Goals as goal

pub returns : goal.returns
returns c =
    laid (replicate {A = ℕ} 48 0) c.lay.new.room c.lay-2.new.room c.lay-3.new.room c.args.first c.args.middle c.args.last (c.lay-3.ensures.room ∙ c.lay-2.ensures.room ∙ c.lay.ensures.room)
    c.lay.ensures.written c.lay-2.ensures.written c.lay-3.ensures.written
