use Rattle.std.proofs.Common.{None, Some, refl, arith, take}
use Rattle.zk_listings.specs.declared.listing.Listing.TheVariants.{Last}
use Rattle.zk_listings.proofs.Feeding.{takes-all, takes-rest, rejected, passed}
use Rattle.zk_listings.proofs.progress.take_piece.Goals as goal

pub returns-in_default-clause-taken : goal.returns-in_default-clause-taken
returns-in_default-clause-taken c = rw c.in-All.is (None, c.requires, rw c.in_default.is at c.in_ok-fault-in-All.ensures.taken)

pub returns-in-Some-clause-taken : goal.returns-in-Some-clause-taken
returns-in-Some-clause-taken c = rw c.in-All.is (Some c.in-Some.fault, c.ended_by.ensures, rw c.in-Some.is at c.in_ok-fault-in-All.ensures.taken)

pub returns-then-stepped-bytes-clause-taken : goal.returns-then-stepped-bytes-clause-taken
returns-then-stepped-bytes-clause-taken c =
    let lines = c.args.lines.now.items in
    let s = c.in-Ok.stepped in
    let first = passed c.args.talk.now c.pass.new.self lines c.args.side (take s.used c.args.bytes.now) s.whole c.in-Ok.ensures.ok.2 in
    rw c.in-Last.is (None, c.requires, takes-all Last c.args.talk.now c.pass.new.self lines lines c.args.side c.args.bytes.now s.used (omega (arith, c.if-stepped-bytes.true)) first)

pub returns-else-stepped-bytes-clause-taken : goal.returns-else-stepped-bytes-clause-taken
returns-else-stepped-bytes-clause-taken c =
    let lines = c.args.lines.now.items in
    let s = c.in-Ok.stepped in
    let mid = c.pass.new.self in
    let refused = c.judge.result in
    let first = passed c.args.talk.now mid lines c.args.side (take s.used c.args.bytes.now) s.whole c.in-Ok.ensures.ok.2 in
    let all = takes-rest Last c.args.talk.now mid c.judge.new.talk lines lines lines c.args.side c.args.bytes.now c.rest-behind.result.now s.used c.rest-behind.ensures first refused (c.judge.ensures.taken lines) in
    rw c.in-Last.is (refused, c.ended_by-in-Ok.ensures, all)

pub returns-in-Err-clause-taken : goal.returns-in-Err-clause-taken
returns-in-Err-clause-taken c =
    let fault = c.in-Err.fault in
    rw c.in-Last.is (Some fault, refl, rejected Last c.args.talk.now c.pass.new.self c.args.lines.now.items c.args.side c.args.bytes.now fault c.in-Err.ensures.err.1)
