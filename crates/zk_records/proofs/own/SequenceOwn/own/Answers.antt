use Rattle.std.proofs.Common.{◌∙◌, ap, map}
use Rattle.zk_records.proofs.Owned.{all_given}
use Rattle.zk_records.proofs.own.SequenceOwn.own.Goals as goal

pub returns : goal.returns
returns g c =
    let x = c.in_ok-own_all.ensures in
    c.new.ensures ∙ x.2 ∙ ap (map g.M.Own.same) (all_given (λ s. s) c.items.result x.0 x.1 ∙ c.items.ensures)
