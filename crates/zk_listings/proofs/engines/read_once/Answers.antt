use Rattle.std.proofs.Common.{◌≡◌, ◌++◌, List, ℕ, take, subst}
use Rattle.std.proofs.lemmas.List.{length-take-le, take-append-le}
use Rattle.zk_listings.specs.{Gathered.SideBytes, Gathering.AdvancesBut, Gathering.IsNextRead}
use Rattle.zk_listings.proofs.Runs.{last-only}
use Rattle.zk_listings.proofs.engines.read_once.Goals as goal

extended : (g now : SideBytes) (more : List ℕ) → now.side ≡ g.side → now.bytes ≡ g.bytes ++ more → now ≡ record g { bytes = g.bytes ++ more }
extended g now more s b = λ i. record { side = s i; bytes = b i }

pub returns-in_ok-found-in-Block-clause-has : goal.returns-in_ok-found-in-Block-clause-has
returns-in_ok-found-in-Block-clause-has g c =
    let count = c.in-Ok.count in
    let buf = c.read.new.buf in (
      take count buf,
      length-take-le count buf c.in-Ok.ensures.bound,
      c.in-Ok.ensures.bytes.0,
      subst (λ b. AdvancesBut c.args.gathered.now c.args.listing c.args.progress.now c.args.lines.now.items b c.in_ok-found-in-Block.found c.feed.new.gathered c.feed.new.self c.feed.new.lines.items)
          (take-append-le count buf _ c.in-Ok.ensures.bound) c.in_ok-found-in-Block.ensures.advances,
    )

pub returns-in_ok-count-in-Content-clause-has : goal.returns-in_ok-count-in-Content-clause-has
returns-in_ok-count-in-Content-clause-has g c =
    let before = c.args.gathered.now in
    let read = c.in_ok-count-in-Content.ensures in
    let more = read.bytes.0 in
    let next = subst (IsNextRead c.args.progress.now before) c.in-Content.is c.next_read.ensures in
    let listing = last-only c.args.listing (λ all. next.4 (c.requires.listed all)) in
    let is = extended before c.read-in-Content.new.self more read.side read.bytes.3 in (
      more,
      read.bytes.1,
      read.bytes.2,
      subst (λ l. AdvancesBut before l c.args.progress.now c.args.lines.now.items more c.take_read.result c.take_read.new.gathered c.take_read.new.self c.args.lines.now.items) listing
          (c.take_read.ensures.advances before more c.args.lines.now.items read.bytes.1 is),
    )
