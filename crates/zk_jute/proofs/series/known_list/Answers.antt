use Rattle.std.proofs.Common.{sym, subst, arith}
use Rattle.zk_jute.specs.{Wired.vector, Shown.ListIsThere}
use Rattle.zk_jute.proofs.{Lists.list_there, Lists.list_is, Known.count_known, Known.stands_read}
use Rattle.zk_jute.proofs.series.known_list.Goals as goal

pub known_size-count-requires-clause-known : goal.known_size-count-requires-clause-known
known_size-count-requires-clause-known g c =
    let w = g.R.Ends.wired in
    count_known w.layout c.args.payload.now c.args.place (stands_read (vector w) c.args.payload.now c.args.place c.requires.place c.requires.stands)

pub lying-requires : goal.lying-requires
lying-requires g c =
    let w = g.R.Ends.wired in
    let src = c.args.payload.now in
    let at = g.R.Member.value src in
    let count = c.known_size-count in
    let is = g.met.R.Element in
    subst (λ items. ListIsThere items at src count.result.0 count.result.1) (sym is.is_wired)
    (list_there w src at (is.is_value src) c.args.place c.requires.place (λ i. omega (arith, c.type_inv.payload i)) count.result.0 count.result.1 count.ensures.within.1 count.ensures.exact c.requires.stands)

pub returns : goal.returns
returns g c = λ v end have stands.
    let src = c.args.payload.now in
    let count = c.known_size-count in
    rw c.lying.ensures (list_is g.R.Ends.wired src (g.R.Member.value src) (g.met.R.Element.is_value src) c.args.place c.requires.place count.result.0 count.result.1 count.ensures.exact v end have stands)
