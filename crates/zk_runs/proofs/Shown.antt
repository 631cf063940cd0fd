-- What is shown of the recording that was built.
use Rattle.std.proofs.Common.{ℕ, ◌⊎◌, inl, inr, List, [], ◌++◌, Option, refl, sym, ap, ◌∙◌, append-nil, subst}
use Rattle.std.specs.Io.KnownBytes.{IsAtEnd, Appends}
use Rattle.zk_talk.specs.{declared.message.Ending.TheVariants.Whole as whole, Good.IsGood}
use Rattle.zk_listings.specs.{declared.listing.Listing.Listing, declared.summary.Summary.TheVariants.Ended, Lines.text_of, Lines.last_line, Lines.status_of, Outcome.IsOutcome, Outcome.IsDecided}
use Rattle.zk_recordings.specs.Recording.{Recording, Spells, history_of, limits_of}
use Rattle.zk_runs.specs.Building.{recording_of}
use Rattle.zk_runs.specs.Rebuilding.{WholeConversation, one_a_piece, listed_by, ListsJust}
use Rattle.zk_recordings.proofs.Once.{spells-once}
use Rattle.zk_listings.proofs.{Outcomes.outcome-once, Decided.not_ended}
use Rattle.zk_runs.proofs.{Builds.Leaves, Builds.leaves, Rebuilds.built_spelled, Rebuilds.comes_again}

-- ---- a run over what was built

module _ (w : WholeConversation) where
  abbrev spelled : Spells (recording_of w.messages) (one_a_piece w.messages)
  spelled = built_spelled w

  abbrev again : IsOutcome w.limits (one_a_piece w.messages) w.messages (Ended (whole w.unanswered))
  again = comes_again w

  is_good : IsGood (limits_of w.limits (one_a_piece w.messages)) (history_of (one_a_piece w.messages))
  is_good = let e = again.comes_to.1 in (e.0, [], [], e.1)

  -- the run has read all of it
  all_read : (bytes : List ℕ) (unread : Option (List ℕ)) (l : Leaves (recording_of w.messages) bytes unread) (r : Recording) → Spells bytes r → (IsAtEnd unread ⊎ IsDecided w.limits bytes r) → Spells (recording_of w.messages) r
  all_read bytes unread l r i (inl end) = subst (λ z. Spells z r) (sym (l.is ∙ ap (λ z. bytes ++ z) (l.ends end) ∙ append-nil bytes)) i
  all_read bytes unread l r i (inr decided) =
      absurd (not_ended w.limits bytes l.rest r (one_a_piece w.messages) i (subst (λ z. Spells z (one_a_piece w.messages)) l.is spelled) is_good refl decided)

  pub listed_again : (listing : Listing) → ListsJust w.limits listing (recording_of w.messages) (listed_by listing w)
  listed_again listing unread contents contents_now status has =
      let f = has.found in
      let l = leaves (recording_of w.messages) f.bytes unread f.reads.consumed in
      let i = all_read f.bytes unread l f.recording f.reads.just.spells f.enough in
      let same = spells-once (recording_of w.messages) (one_a_piece w.messages) f.recording spelled i in
      let once = outcome-once w.limits (one_a_piece w.messages) w.messages has.messages (Ended (whole w.unanswered)) has.summary again
      (subst (λ q. IsOutcome w.limits q has.messages has.summary) same f.is) in (
        subst (λ z. Appends contents contents_now (text_of listing z ++ last_line (Ended (whole w.unanswered)))) once.0
            (subst (λ z. Appends contents contents_now (text_of listing has.messages ++ last_line z)) once.1 has.written),
        has.status_is ∙ ap status_of once.1,
      )
