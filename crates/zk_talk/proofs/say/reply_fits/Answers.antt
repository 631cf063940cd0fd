use Rattle.std.proofs.Common.{◌≡◌, ◌≢◌, ◌∙◌, ap, sym, rules, w32, FitsSigned, of_z, false}
use Rattle.std.specs.Prelude.{negsuc}
use Rattle.std.proofs.lemmas.Int.{to_z-of_z}
use Rattle.zk_talk.proofs.{Small.same_signed, Saying.unfit_other, Saying.unfit_unlike}
use Rattle.zk_talk.proofs.say.reply_fits.Goals as goal

pub returns-then-expected-got-clause-err : goal.returns-then-expected-got-clause-err
returns-then-expected-got-clause-err c =
    let w = c.args.waiting.now in
    let r = c.args.reply.now in
    let fits : FitsSigned w32 c.xid-expected.result = search rules in
    let fits' : FitsSigned w32 r.xid = search rules in
    let lane = simp to_z-of_z at c.lane_of.ensures in
    let other : c.in-Some.slot.xid ≢ r.xid = λ e. c.if-expected-got.true (ap (of_z w32) (c.xid-expected.ensures ∙ e)) in
    let event : r.xid ≢ negsuc 0 = λ e. c.if-got.false (ap (of_z w32) e) in
    unfit_other w r c.lane_of.result c.in-Some.slot _ _ lane event (sym c.oldest.ensures.value ∙ c.in-Some.is) (to_z-of_z w32 c.xid-expected.result fits ∙ c.xid-expected.ensures) (to_z-of_z w32 r.xid fits') other

pub returns-then-not-fits-clause-err : goal.returns-then-not-fits-clause-err
returns-then-not-fits-clause-err c =
    let r = c.args.reply.now in
    let fits : FitsSigned w32 r.xid = search rules in
    let lane = simp to_z-of_z at c.lane_of.ensures in
    let same = same_signed c.xid-expected.result c.in-Some.slot.xid r.xid c.xid-expected.ensures (search rules) fits c.if-expected-got.false in
    let event : r.xid ≢ negsuc 0 = λ e. c.if-got.false (ap (of_z w32) e) in
    let off : c.fits.result ≡ false = cc in
    unfit_unlike c.args.waiting.now r c.lane_of.result c.in-Some.slot c.fits.result lane event (sym c.oldest.ensures.value ∙ c.in-Some.is) same c.in-Some.ensures.fit.parts c.fits.ensures.1 off
