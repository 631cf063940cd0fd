use Rattle.std.proofs.Common.{ℕ, Option, Ok, ap, refl, sym, subst, ◌∙◌, Some, arith}
use Rattle.zk_jute.specs.Shown.{ListIsThere}
use Rattle.zk_jute.proofs.{Lists.all_there, Lists.list_shows, Known.count_known, Known.elements_known}
use Rattle.zk_jute.proofs.series.SeriesView.view.Goals as goal

pub known_size-count-requires-clause-known : goal.known_size-count-requires-clause-known
known_size-count-requires-clause-known g c = count_known g.R.Ends.wired.layout c.args.src.now c.args.place c.requires.known

pub elements_end-end-requires : goal.elements_end-end-requires
elements_end-end-requires g c κs =
    let size = c.known_size-count in
    let start = size.result.1 in
    let counted = size.ensures.exact ∙ ap (λ (n : Option ℕ). Ok (n, start)) c.in-Some.is in
    ((refl, tt), (size.ensures.within.1, elements_known g.R.Ends.wired.layout c.args.src.now c.args.place c.requires.known c.in-Some.count start counted))

pub lying-requires-in-Some : goal.lying-requires-in-Some
lying-requires-in-Some g c =
    let w = g.R.Ends.wired in
    let src = c.args.src.now in
    let at = g.R.Member.value src in
    let n = c.in-Some.count in
    let size = c.known_size-count in
    let end = c.elements_end-end in
    let is = g.met.R.Element in
    subst (λ items. ListIsThere items at src (Some n) size.result.1) (sym is.is_wired)
    (all_there w.layout w.items src at (is.is_value src) (λ i. omega (arith, c.type_inv.src i)) n size.result.1 end.result size.ensures.within.1 end.ensures.exact)

pub returns-in-Some-clause-exact : goal.returns-in-Some-clause-exact
returns-in-Some-clause-exact g c =
    let w = g.R.Ends.wired in
    let src = c.args.src.now in
    let size = c.known_size-count in
    let start = size.result.1 in
    let end = c.elements_end-end in
    let counted = size.ensures.exact ∙ ap (λ (n : Option ℕ). Ok (n, start)) c.in-Some.is in
    rw c.lying-in-Some.ensures (list_shows w.layout w.items src (g.R.Member.value src) (g.met.R.Element.is_value src) c.in-Some.count start end.result end.ensures.exact c.args.place counted)
