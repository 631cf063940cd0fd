use Rattle.std.proofs.Common.{◌≡◌, ◌++◌, ◌∷◌, length}
use Rattle.std.specs.List.{flat_map, AllByRecursion}
use Rattle.zk_items.specs.Form.{Keeps}
use Rattle.zk_lines.proofs.list.put_elements.Given as goal

abbrev pub invariant-loop-item : goal.invariant-loop-item
invariant-loop-item g l = record {
  spelled : l.out.items ++ flat_map (λ y. l.sign ∷ g.I.One.Put.form.spell y) (g.I.Left.left l.items) ≡ l.fn.out.items ++ flat_map (λ y. l.sign ∷ g.I.One.Put.form.spell y) (g.I.Left.left l.fn.items);
  fits : AllByRecursion g.I.One.Put.form.fits (g.I.Left.left l.items) → AllByRecursion g.I.One.Put.form.fits (g.I.Left.left l.fn.items);
  keeps : Keeps l.fn.out.items l.out.items;
}

abbrev pub decreases-loop-item : goal.decreases-loop-item
decreases-loop-item g l = length (g.I.Left.left l.items)
