-- What a piece that is whole at the front of a block comes to, once a talk has begun.
use Rattle.std.proofs.Common.{◌≡◌, ℕ, ◌+◌, ◌-◌, ◌≤◌, List, ◌++◌, take, drop, Option, Some, None, refl, sym, ap, ◌∙◌, subst, append_assoc, append-nil, arith}
use Rattle.std.proofs.{Math.Seq.take-add, lemmas.Option.none-some}
use Rattle.zk_talk.specs.{declared.limits.Limits.Limits, Held.Message, declared.message.Fault.Fault, declared.message.Side.Side, declared.message.Ending.TheVariants.Refused, History.on, Stands.TalkState, Stands.Stands}
use Rattle.zk_listings.specs.{declared.listing.Listing.Listing, declared.progress.Progress.Progress, declared.summary.Summary.Summary, declared.summary.Summary.TheVariants.Ended}
use Rattle.zk_recordings.specs.{Reader.ReaderState, Pieces.ReadsPiece, Recording.Spells, Recording.history_of, Recording.limits_of, Reading.IsAt, Reading.ReadsOn}
use Rattle.zk_listings.specs.Following.{Follows, Talks, Takes, Decides, Advances, Steps, ended_by}
use Rattle.zk_listings.proofs.{Stops.decides-by_fault, Talking.Given, Talking.given, Talking.gives-by, Talking.goes-headed, Talking.goes-history}

module _ (listing : Listing) (p : Progress) (t u : TalkState) (lines lines_now block : List ℕ) (head used : ℕ) (side : Side) (state : ReaderState) (refused : Option Fault)
    (begun : p.talk ≡ Some t)
    (order : head ≤ used)
    (reads : ReadsPiece p.reader (take head block) (take (used - head) (drop head block)) side state)
    (same : u.limits ≡ t.limits)
    (takes : Takes listing t lines (on side (take (used - head) (drop head block))) refused u lines_now) where
  abbrev content : List ℕ
  content = take (used - head) (drop head block)

  -- head and content are the front of the block
  joined : (x : List ℕ) → (x ++ take head block) ++ content ≡ x ++ take used block
  joined x = append_assoc x (take head block) content ∙ ap (λ l. x ++ l) (sym (take-add head (used - head) block) ∙ ap (λ n. take n block) (let e : head + (used - head) ≡ used = omega (arith, order) in e))

  module _ (limits : Limits) (x : List ℕ) (messages : List Message) (i : Follows limits x messages p) where
    first : ReadsOn reads.within x i.recording (take head block) None
    first = reads.begins x i.recording i.at

    second : ReadsOn state (x ++ take head block) first.new content (Some side)
    second = reads.ends (x ++ take head block) first.new first.is

    talks : Talks limits first.new messages (Some t)
    talks =
        let was = subst (Talks limits i.recording messages) begun i.talks in
        let stays = goes-headed i.recording first.new (take head block) None first.goes_on was.headed in
        let h : history_of i.recording ≡ history_of first.new = sym (goes-history i.recording first.new (take head block) None first.goes_on ∙ append-nil (history_of i.recording)) in
        record { headed = stays.headed; has = (subst (λ z. Stands t z messages) h was.has.0, was.has.1 ∙ sym (stays.limits_are limits)) }

    comes : (other : Option Fault) → refused ≡ other → Given limits (limits_of limits second.new) first.new second.new content listing lines lines_now messages other (Some u)
    comes other e =
        let now = limits_of limits second.new in
        given limits now first.new second.new content listing lines lines_now messages other (Some side) (Some t) (Some u) second.goes_on (λ _. refl) talks
        (gives-by now listing (Some t) t u lines lines_now (on side content) other refl same (subst (λ z. Takes listing t lines (on side content) z u lines_now) e takes)) (λ none. absurd (none-some side (sym none)))

    spells : Spells (x ++ take used block) second.new
    spells = subst (λ l. Spells l second.new) (joined x) second.is.spells

  piece-refused : (fault : Fault) → refused ≡ Some fault → (now : Progress) → now.talk ≡ Some u → Advances listing p lines block (Some (Ended (Refused fault))) now lines_now
  piece-refused fault e now talk_is = λ limits x messages i.
      let g = comes limits x messages i (Some fault) e in (
        g.0,
        subst (λ z. Decides limits (x ++ block) (messages ++ g.0) z (Ended (Refused fault))) (sym talk_is)
            (decides-by_fault limits x block used (second limits x messages i).new (messages ++ g.0) (Some u) fault (spells limits x messages i) g.1.0 g.1.1),
        g.2,
      )

  piece-on : refused ≡ None → (now : Progress) → now.limits ≡ p.limits → now.reader ≡ state → now.talk ≡ Some u → Advances listing p lines (take used block) None now lines_now
  piece-on e now options reader talk_is = λ limits x messages i.
      let r = second limits x messages i in
      let g = comes limits x messages i None e in
      let at' = subst (λ l. IsAt state l r.new) (joined x) r.is in (
        g.0,
        record {
          options = options ∙ i.options;
          recording = r.new;
          at = subst (λ s. IsAt s (x ++ take used block) r.new) (sym reader) at';
          unbroken = λ b. reads.still _ r.new b.0 at' b.1;
          talks = subst (Talks limits r.new (messages ++ g.0)) (sym talk_is) g.1;
        },
        g.2,
      )

  piece-by : (now : Progress) → now.limits ≡ p.limits → now.reader ≡ state → now.talk ≡ Some u → (other : Option Fault) → refused ≡ other → Steps listing p lines block used (ended_by other) now lines_now
  piece-by now options reader talk_is None e = piece-on e now options reader talk_is
  piece-by now options reader talk_is (Some fault) e = piece-refused fault e now talk_is

  pub piece-steps : (found : Option Summary) → found ≡ ended_by refused → (now : Progress) → now.limits ≡ p.limits → now.reader ≡ state → now.talk ≡ Some u → Steps listing p lines block used found now lines_now
  piece-steps found e now options reader talk_is = subst (λ z. Steps listing p lines block used z now lines_now) (sym e) (piece-by now options reader talk_is refused refl)
