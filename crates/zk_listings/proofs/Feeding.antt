-- Bytes of one side that are given in several calls.
use Rattle.std.proofs.Common.{◌≡◌, ℕ, ◌+◌, ◌≤◌, Bool, true, false, List, [], ◌∷◌, ◌++◌, length, take, drop, Option, None, Some, refl, sym, ◌∙◌, ap, subst, append_assoc}
use Rattle.std.specs.{Io.KnownBytes.Appends, Option.option_to_list}
use Rattle.std.proofs.{lemmas.List.take-append-drop, lemmas.List.take_all, lemmas.List.append-nil, lemmas.List.Concat.flat_map-append, Math.Seq.take-add, Math.Seq.take-length}
use Rattle.zk_talk.specs.{declared.message.Side.Side, declared.message.Fault.Fault, Held.Message, declared.limits.Limits.Limits, History.History, History.on, Stands.TalkState, Stands.Stands, Stands.Refuses, Stands.kept_on, Viewed.Shows}
use Rattle.zk_talk.specs.{Good.Good, Good.IsOrder, Taking.GoesOn, Taking.Steps, Taking.Passes, Taking.IsRefused}
use Rattle.zk_listings.specs.{declared.listing.Listing.Listing, Lines.message_line, Lines.text_of, Outcome.IsGoodWith, Outcome.HasGrownIn, Following.Judges, Following.Takes}
use Rattle.zk_listings.specs.declared.listing.Listing.TheVariants.{All, Last}
use Rattle.zk_listings.proofs.{Bytes.Appends-then, Found.grown-further}
use Rattle.zk_recordings.proofs.Lists.{on-append}

pub text_of-append : (listing : Listing) (a b : List Message) → text_of listing (a ++ b) ≡ text_of listing a ++ text_of listing b
text_of-append All a b = flat_map-append message_line a b
text_of-append Last a b = refl

-- a talk that stands is good with its messages
pub good-here : (t : TalkState) (l : Limits) (h : History) (messages : List Message) → t.limits ≡ l → Stands t h messages → IsGoodWith l h messages
good-here t l h messages e i = record {
  conversation = i.conversation;
  client_rest = t.client_held;
  server_rest = t.server_held;
  good = subst (λ k. Good k h i.conversation t.client_held t.server_held) e i.good;
  order = subst (λ k. IsOrder k h i.conversation messages) e i.order;
}

pub grown-whole : (before after : Option (List ℕ)) (text : List ℕ) → Appends before after text → HasGrownIn before after text
grown-whole before after text p = (length text, subst (Appends before after) (sym (take-length text)) p)

-- the buffer, which was empty, has the lines of more messages
module _ (listing : Listing) (before during after : Option (List ℕ)) (now more : List Message) (bytes buffer was : List ℕ) (is : bytes ≡ buffer) (added : buffer ≡ was ++ text_of listing more) (empty : was ≡ [])
    (told : Appends before during (text_of listing now)) where
  text : bytes ≡ text_of listing more
  text = is ∙ added ∙ ap (λ l. l ++ text_of listing more) empty

  pub told-more : Appends during after bytes → Appends before after (text_of listing (now ++ more))
  told-more p = subst (Appends before after) (sym (text_of-append listing now more)) (Appends-then before during after _ _ told (subst (Appends during after) text p))

  pub grown-more : HasGrownIn during after bytes → HasGrownIn before after (text_of listing (now ++ more))
  grown-more p = subst (HasGrownIn before after) (sym (text_of-append listing now more)) (grown-further before during after (text_of listing now) (text_of listing more) told (subst (HasGrownIn during after) text p))

-- ---- lines that are appended to a buffer

pub listed-none : (listing : Listing) (lines : List ℕ) → lines ≡ lines ++ text_of listing []
listed-none All lines = sym (append-nil lines)
listed-none Last lines = sym (append-nil lines)

pub listed-then : (listing : Listing) (before during after : List ℕ) (now more : List Message) → during ≡ before ++ text_of listing now →
    after ≡ during ++ text_of listing more → after ≡ before ++ text_of listing (now ++ more)
listed-then listing before during after now more p q =
    q ∙ ap (λ l. l ++ text_of listing more) p ∙ append_assoc before (text_of listing now) (text_of listing more) ∙ ap (λ l. before ++ l) (sym (text_of-append listing now more))

-- ---- bytes of one side, in parts

pub takes-none : (listing : Listing) (t : TalkState) (lines : List ℕ) (side : Side) → Takes listing t lines (on side []) None t lines
takes-none listing t lines side h messages i =
    ([], subst (λ k. Stands t k (messages ++ [])) (sym (append-nil h)) (subst (Stands t h) (sym (append-nil messages)) i), listed-none listing lines)

module _ (listing : Listing) (old mid new : TalkState) (before during after : List ℕ) (side : Side) where
  -- some bytes, and others behind them
  takes-both : (a b : List ℕ) (refused : Option Fault) → Takes listing old before (on side a) None mid during → Takes listing mid during (on side b) refused new after →
      Takes listing old before (on side (a ++ b)) refused new after
  takes-both a b refused first second h messages i =
      let one = first h messages i in
      let two = second (h ++ on side a) (messages ++ one.0) one.1 in (
        one.0 ++ two.0,
        subst (λ k. Judges new k (messages ++ (one.0 ++ two.0)) refused) (on-append side a b h)
            (subst (λ m. Judges new ((h ++ on side a) ++ on side b) m refused) (append_assoc messages one.0 two.0) two.1),
        listed-then listing before during after one.0 two.0 one.2 two.2,
      )

  module _ (bytes piece : List ℕ) (at' : ℕ) (is : piece ≡ drop at' bytes) (taken : Takes listing old before (on side (take at' bytes)) None mid during) where
    -- the first bytes of the rest
    pub takes-more : (used : ℕ) → Takes listing mid during (on side (take used piece)) None new after → Takes listing old before (on side (take (at' + used) bytes)) None new after
    takes-more used next =
        subst (λ b. Takes listing old before (on side b) None new after) (ap (λ p. take at' bytes ++ take used p) is ∙ sym (take-add at' used bytes))
        (takes-both (take at' bytes) (take used piece) None taken next)

    -- the rest
    pub takes-rest : (refused : Option Fault) → Takes listing mid during (on side piece) refused new after → Takes listing old before (on side bytes) refused new after
    takes-rest refused next =
        subst (λ b. Takes listing old before (on side b) refused new after) (ap (λ p. take at' bytes ++ p) is ∙ take-append-drop at' bytes)
        (takes-both (take at' bytes) piece refused taken next)

-- the first bytes are all there are
pub takes-all : (listing : Listing) (old new : TalkState) (before after : List ℕ) (side : Side) (bytes : List ℕ) (at' : ℕ) → length bytes ≤ at' → Takes listing old before (on side (take at' bytes)) None new after →
    Takes listing old before (on side bytes) None new after
takes-all listing old new before after side bytes at' enough taken = subst (λ b. Takes listing old before (on side b) None new after) (take_all at' bytes enough) taken

-- ---- one call

pub rejected : (listing : Listing) (old new : TalkState) (lines : List ℕ) (side : Side) (bytes : List ℕ) (fault : Fault) → IsRefused old side bytes fault new →
    Takes listing old lines (on side bytes) (Some fault) new lines
rejected listing old new lines side bytes fault r h messages i =
    ([], subst (λ m. Refuses new (h ++ on side bytes) m fault) (sym (append-nil messages)) (r h messages i), listed-none listing lines)

-- a pass goes on by a message, or by none
pub passed : (old new : TalkState) (lines : List ℕ) (side : Side) (used : List ℕ) (whole : Bool) → Passes old side used whole new → Takes Last old lines (on side used) None new lines
passed old new lines side used true p h messages i = (p.0 ∷ [], p.1 h messages i, sym (append-nil lines))
passed old new lines side used false p h messages i = ([], p h messages i, sym (append-nil lines))

-- a step goes on by the message that is seen, or by none
stepped : (old new : TalkState) (side : Side) (used : List ℕ) (whole : Bool) (seen : Option Message) → Steps old side used whole new → (kept_on side new ≡ [] → seen ≡ None) →
    ((m : Message) → Shows new side m → seen ≡ Some m) → GoesOn old side used (option_to_list seen) new
stepped old new side used true seen s none only = subst (λ (o : Option Message). GoesOn old side used (option_to_list o) new) (sym (only s.0 s.2)) s.1
stepped old new side used false seen s none only = subst (λ (o : Option Message). GoesOn old side used (option_to_list o) new) (sym (none s.1)) s.0

pub shown : (old new : TalkState) (before after : List ℕ) (side : Side) (used : List ℕ) (whole : Bool) (seen : Option Message) → Steps old side used whole new → (kept_on side new ≡ [] → seen ≡ None) →
    ((m : Message) → Shows new side m → seen ≡ Some m) → after ≡ before ++ text_of All (option_to_list seen) → Takes All old before (on side used) None new after
shown old new before after side used whole seen steps none only told h messages i = (option_to_list seen, stepped old new side used whole seen steps none only h messages i, told)
