use Rattle.std.proofs.Common.{◌≡◌, [], MatchOption, Some, refl, sym, subst}
use Rattle.std.proofs.lemmas.Result.{IfOk-weaker}
use Rattle.zk_talk.specs.Stands.{Stands}
use Rattle.zk_recordings.specs.Reading.{content_of}
use Rattle.zk_listings.specs.Following.{TakesContent}
use Rattle.zk_listings.proofs.Talking.{gives-by}
use Rattle.zk_listings.proofs.progress.take_content.Goals as goal

pub returns-in-Some-talk-clause-gives : goal.returns-in-Some-talk-clause-gives
returns-in-Some-talk-clause-gives c =
    let lines = c.args.lines.now.items in
    let t = c.in-Some-talk.now in
    let now = c.take.new.lines.items in
    let begun = subst (λ talk. MatchOption talk ((t.limits ≡ c.args.limits) × Stands t [] []) (λ old. t ≡ old)) (sym c.in-Some-talk.is) refl in
    IfOk-weaker c.take.result _ _ (λ refused taken.
    subst (λ s. TakesContent c.args.limits c.args.listing c.args.talk.now lines (content_of s c.args.bytes.now) refused (Some c.take.new.talk) now) (sym c.in-Some.is)
    (gives-by c.args.limits c.args.listing c.args.talk.now t c.take.new.talk lines now _ refused begun c.take.ensures.limits taken)) c.take.ensures.taken

pub returns-in_ok-refused-in-None-clause-gives : goal.returns-in_ok-refused-in-None-clause-gives
returns-in_ok-refused-in-None-clause-gives c =
    let lines = c.args.lines.now.items in
    let t = c.in_ok-now-in-None.now in
    let e = c.in_ok-now-in-None.ensures in
    let f = c.in_ok-refused-in-None in
    let begun = subst (λ talk. MatchOption talk ((t.limits ≡ c.args.limits) × Stands t [] []) (λ old. t ≡ old)) (sym c.in-None.is) (e.limits, e.stands) in
    subst (λ s. TakesContent c.args.limits c.args.listing c.args.talk.now lines (content_of s c.args.bytes.now) f.refused (Some c.take-in-None.new.talk) c.take-in-None.new.lines.items) (sym c.in-Some.is)
    (gives-by c.args.limits c.args.listing c.args.talk.now t c.take-in-None.new.talk lines c.take-in-None.new.lines.items _ f.refused begun f.ensures.limits f.ensures.taken)
