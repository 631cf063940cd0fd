-- What the first bytes of a block come to.
use Rattle.std.proofs.Common.{◌≡◌, ℕ, List, ◌++◌, take, Option, Some, None, sym, ap, ◌∙◌, subst}
use Rattle.zk_talk.specs.{declared.limits.Limits.Limits, Held.Message, declared.message.Fault.Fault, declared.message.Side.Side}
use Rattle.zk_listings.specs.{declared.listing.Listing.Listing, declared.progress.Progress.Progress, declared.summary.Summary.Summary, Following.Follows, Following.IsLastingSummary, Following.Steps, Following.TakesContent}
use Rattle.zk_listings.specs.declared.summary.Summary.TheVariants.{Ended, Broken}
use Rattle.zk_recordings.specs.{Recording.Recording, Recording.place_of, Recording.history_of, Recording.limits_of, Reading.IsAt, Reading.IsHeaded, Reading.ReadsOn, Reading.content_of}
use Rattle.zk_listings.proofs.{Stops.decides-by_fault, Stops.decides-by_damage, Talking.Given, Talking.given, Talking.has-good}

module _ (listing : Listing) (p now : Progress) (lines lines_now block : List ℕ) (used : ℕ) (side : Option Side) (now_limits : Limits) (refused : Option Fault)
    (options : now.limits ≡ p.limits)
    (reads : (x : List ℕ) (r : Recording) → IsAt p.reader x r → ReadsOn now.reader x r (take used block) side)
    (limits_are : (x : List ℕ) (r : Recording) → IsAt now.reader x r → IsHeaded (place_of r) → now_limits ≡ limits_of p.limits r)
    (gives : TakesContent now_limits listing p.talk lines (content_of side (take used block)) refused now.talk lines_now)
    (same : side ≡ None → now.talk ≡ p.talk) where
  comes : (limits : Limits) (x : List ℕ) (messages : List Message) (i : Follows limits x messages p) → (other : Option Fault) → refused ≡ other →
      Given limits now_limits i.recording (reads x i.recording i.at).new (take used block) listing lines lines_now messages other now.talk
  comes limits x messages i other e =
      let r = reads x i.recording i.at in
      given limits now_limits i.recording r.new (take used block) listing lines lines_now messages other side p.talk now.talk r.goes_on
      (λ is. limits_are _ r.new r.is is ∙ ap (λ l. limits_of l r.new) i.options) i.talks
      (subst (λ z. TakesContent now_limits listing p.talk lines (content_of side (take used block)) z now.talk lines_now) e gives) same

  -- the block was taken as its lasting summary says
  pub steps-lasting : (other : Option Fault) (found : Option Summary) → refused ≡ other → IsLastingSummary now.reader other found → Steps listing p lines block used found now lines_now
  steps-lasting (Some fault) found e lasting = subst (λ z. Steps listing p lines block used z now lines_now) (sym lasting) (λ limits x messages i.
      let r = reads x i.recording i.at in
      let g = comes limits x messages i (Some fault) e in
      (g.0, decides-by_fault limits x block used r.new (messages ++ g.0) now.talk fault r.is.spells g.1.0 g.1.1, g.2))
  steps-lasting None (Some (Broken d)) e damaged = λ limits x messages i.
      let r = reads x i.recording i.at in
      let g = comes limits x messages i None e in
      (g.0, decides-by_damage limits x block used r.new (messages ++ g.0) now.talk d r.is.spells (damaged _ r.new r.is) (has-good (limits_of limits r.new) now.talk (history_of r.new) (messages ++ g.0) g.1.has), g.2)
  steps-lasting None (Some (Ended ending)) e lasting = absurd lasting
  steps-lasting None None e undamaged = λ limits x messages i.
      let r = reads x i.recording i.at in
      let g = comes limits x messages i None e in (
        g.0,
        record { options = options ∙ i.options; recording = r.new; at = r.is; unbroken = λ b. undamaged _ r.new b.0 r.is b.1; talks = g.1 },
        g.2,
      )
