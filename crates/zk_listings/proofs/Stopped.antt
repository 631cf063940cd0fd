-- What was written by the time that a run stops.
use Rattle.std.proofs.Common.{◌≡◌, ℕ, ◌<◌, ◌≤◌, ◌⊎◌, inl, inr, List, ◌++◌, length, Option, sym, ◌∙◌, ap, subst, append_assoc, arith}
use Rattle.std.specs.Io.KnownBytes.{Appends}
use Rattle.std.proofs.{lemmas.Bool.cases_lt, lemmas.List.take_all, lemmas.List.take-append-le, Math.Seq.take-append_seam}
use Rattle.zk_talk.specs.{declared.limits.Limits.Limits, Held.Message, Stands.TalkState}
use Rattle.zk_listings.specs.{declared.listing.Listing.Listing, declared.summary.Summary.Summary, Lines.text_of, Lines.last_line, Outcome.IsOutcome, Outcome.IsFound, Outcome.HasGrownIn}
use Rattle.zk_listings.specs.Running.{HasBegunLines, HasFoundBy, HasStopped, in_messages, in_last_line}
use Rattle.zk_listings.proofs.{Feeding.text_of-append, Found.grown-front, Outcomes.outcome-first}

-- a front of a text is a front of whatever begins with it
pub grown-in : (old new : Option (List ℕ)) (text more : List ℕ) → HasGrownIn old new text → HasGrownIn old new (text ++ more)
grown-in old new text more p = go (cases_lt p.0 (length text))
  where
    go : ((p.0 < length text) ⊎ (length text ≤ p.0)) → HasGrownIn old new (text ++ more)
    go (inl less) = (p.0, subst (Appends old new) (sym (take-append-le p.0 text more (omega (arith, less)))) p.1)
    go (inr all) = (length text, subst (Appends old new) (take_all p.0 text all ∙ sym (take-append_seam text more)) p.1)

module _ (limits : Limits) (listing : Listing) (unread unread_now contents contents_now : Option (List ℕ)) where
  pub stopped-in_messages : HasBegunLines limits listing unread unread_now contents contents_now → HasStopped limits listing unread unread_now contents contents_now
  stopped-in_messages b = record {
    bytes = b.bytes;
    recording = b.opens.recording;
    reads = b.reads;
    fronts = fronts;
    written = in_messages b.messages b.opens.front b.opens.rest b.opens.splits b.opens.good b.written;
  }
    where
      fronts : (all : List Message) (summary : Summary) → IsOutcome limits b.opens.recording all summary → HasGrownIn contents contents_now (text_of listing all ++ last_line summary)
      fronts all summary o =
          let f = outcome-first limits b.opens.recording b.opens.front b.opens.rest b.messages all summary b.opens.splits b.opens.good o in
          let text : text_of listing b.messages ++ (text_of listing f.0 ++ last_line summary) ≡ text_of listing all ++ last_line summary =
          sym (append_assoc (text_of listing b.messages) (text_of listing f.0) (last_line summary)) ∙ ap (λ l. l ++ last_line summary) (sym (text_of-append listing b.messages f.0) ∙ ap (text_of listing) (sym f.1)) in
          subst (HasGrownIn contents contents_now) text (grown-in contents contents_now (text_of listing b.messages) (text_of listing f.0 ++ last_line summary) b.written)

  pub stopped-in_last_line : (messages : List Message) (summary : Summary) → IsFound limits unread unread_now messages summary → HasGrownIn contents contents_now (text_of listing messages ++ last_line summary) →
      HasStopped limits listing unread unread_now contents contents_now
  stopped-in_last_line messages summary f p = record {
    bytes = f.bytes;
    recording = f.recording;
    reads = f.reads;
    fronts = λ others other o.
        let e = f.only others other o in
        subst (HasGrownIn contents contents_now) (ap (λ l. text_of listing l ++ last_line summary) (sym e.0) ∙ ap (λ s. text_of listing others ++ last_line s) (sym e.1)) p;
    written = in_last_line messages summary f.is f.enough p;
  }

  -- nothing of the last line was written
  pub stopped-before_last_line : (talk : Option TalkState) (summary : Summary) → HasFoundBy limits listing unread unread_now contents contents_now talk summary →
      HasStopped limits listing unread unread_now contents contents_now
  stopped-before_last_line talk summary f = stopped-in_last_line f.messages summary f.found (grown-front contents contents_now _ _ f.written)
