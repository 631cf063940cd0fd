use Rattle.std.proofs.Common.{◌≡◌, ◌-◌, ◌/◌, false, true, sym, subst, ◌∙◌}
use Rattle.std.specs.Prelude.{◌↔◌}
use Rattle.zk_earliest.specs.{Numbers.IsOne, Runs.MayCount}
use Rattle.zk_earliest.proofs.Counts.{counts_are, list_room, list_some}
use Rattle.zk_earliest.proofs.length_prefixed.counts.Goals as goal

pub returns-clause-value : goal.returns-clause-value
returns-clause-value c =
    let least = c.args.least in
    let behind = c.args.behind in
    let room = c.args.room in
    let free = c.has-free.result in
    λ n. subst (λ f. IsOne (record { null = free; from = f; to = (room - behind.least) / least; also = (room - behind.least) / least }) n ↔ MayCount least behind room n) (sym c.least_count.ensures)
    (counts_are least behind.least behind.gap room c.requires.some (list_room least behind room c.requires.among) c.requires.frame free c.has-free.ensures
    (λ e. list_some least behind room c.requires.some c.requires.among (λ a. let t = c.has-free.ensures.1 a in let f : true ≡ false = sym t ∙ e in absurd cc)) n)
