use Rattle.std.proofs.Common.{refl, ◌∙◌, arith, Some}
use Rattle.zk_listings.specs.declared.listing.Listing.TheVariants.{All}
use Rattle.zk_listings.proofs.Feeding.{takes-none, takes-more, takes-rest, takes-all, rejected, shown}
use Rattle.zk_listings.proofs.progress.list.Goals as goal

pub loop-at-init : goal.loop-at-init
loop-at-init c = record { limits = refl; taken = takes-none All c.args.talk.now _ c.args.side }

pub returns-in-Err-clause-taken : goal.returns-in-Err-clause-taken
returns-in-Err-clause-taken c =
    let l = c.loop-at in
    takes-rest All c.args.talk.now l.talk c.step.new.self c.args.lines.now.items l.lines.items l.lines.items c.args.side c.args.bytes.now c.rest-piece.result.now l.at c.rest-piece.ensures l.invariant.taken (Some c.in-Err.fault)
    (rejected All l.talk c.step.new.self l.lines.items c.args.side c.rest-piece.result.now c.in-Err.fault c.in-Err.ensures.err.1)

pub loop-at-preserved : goal.loop-at-preserved
loop-at-preserved c =
    let l = c.loop-at in
    let s = c.in-Ok.stepped in
    let next = shown l.talk c.step.new.self l.lines.items _ c.args.side _ s.whole c.view.result c.in-Ok.ensures.ok.2 c.view.ensures.none c.view.ensures.only c.in_ok-tell.ensures in
    record {
      limits = c.in-Ok.ensures.limits ∙ l.invariant.limits;
      taken = takes-more All c.args.talk.now l.talk c.step.new.self c.args.lines.now.items l.lines.items _ c.args.side c.args.bytes.now c.rest-piece.result.now l.at c.rest-piece.ensures l.invariant.taken s.used next;
    }

pub returns-clause-taken : goal.returns-clause-taken
returns-clause-taken c =
    takes-all All c.args.talk.now c.loop-at.talk c.args.lines.now.items c.loop-at.lines.items c.args.side c.args.bytes.now c.loop-at.at (omega (arith, c.loop-at-test.false)) c.loop-at.invariant.taken
