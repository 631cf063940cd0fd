use Rattle.std.proofs.Common.{refl, ◌∙◌, arith, Some}
use Rattle.zk_listings.specs.declared.listing.Listing.TheVariants.{Last}
use Rattle.zk_listings.proofs.Feeding.{takes-none, takes-more, takes-rest, takes-all, rejected, passed}
use Rattle.zk_listings.proofs.progress.pass_all.Goals as goal

pub loop-at-init : goal.loop-at-init
loop-at-init c = record { limits = refl; taken = λ lines. takes-none Last c.args.talk.now lines c.args.side }

pub returns-in-Err-clause-taken : goal.returns-in-Err-clause-taken
returns-in-Err-clause-taken c = λ lines.
    let l = c.loop-at in
    takes-rest Last c.args.talk.now l.talk c.pass.new.self lines lines lines c.args.side c.args.bytes.now c.rest-piece.result.now l.at c.rest-piece.ensures (l.invariant.taken lines) (Some c.in-Err.fault)
    (rejected Last l.talk c.pass.new.self lines c.args.side c.rest-piece.result.now c.in-Err.fault c.in-Err.ensures.err.1)

pub loop-at-preserved : goal.loop-at-preserved
loop-at-preserved c =
    let l = c.loop-at in
    let s = c.in-Ok.stepped in
    record {
      limits = c.in-Ok.ensures.limits ∙ l.invariant.limits;
      taken = λ lines.
          takes-more Last c.args.talk.now l.talk c.pass.new.self lines lines lines c.args.side c.args.bytes.now c.rest-piece.result.now l.at c.rest-piece.ensures (l.invariant.taken lines) s.used
          (passed l.talk c.pass.new.self lines c.args.side _ s.whole c.in-Ok.ensures.ok.2);
    }

pub returns-clause-taken : goal.returns-clause-taken
returns-clause-taken c = λ lines.
    takes-all Last c.args.talk.now c.loop-at.talk lines lines c.args.side c.args.bytes.now c.loop-at.at (omega (arith, c.loop-at-test.false)) (c.loop-at.invariant.taken lines)
