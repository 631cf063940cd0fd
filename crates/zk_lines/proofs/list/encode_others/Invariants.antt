use Rattle.zk_items.specs.Form.{Keeps}
use Rattle.zk_lines.specs.Series.{element_at}
use Rattle.zk_lines.proofs.Counted.{Begun}
use Rattle.zk_lines.proofs.list.encode_others.Given as goal

abbrev pub invariant-loop-turn : goal.invariant-loop-turn
invariant-loop-turn g l = record {
  begun : Begun (element_at l.signs.between l.signs.behind g.T.Put.form.at) g.T.Spell.items l.fn.line l.line l.fn.out.items l.out.items l.turns l.turn;
  keeps : Keeps l.fn.out.items l.out.items;
}
