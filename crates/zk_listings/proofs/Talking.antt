-- A recording that grows, and the talk that its content is given to.
use Rattle.std.proofs.Common.{◌≡◌, ℕ, List, [], ◌∷◌, ◌++◌, Option, None, Some, MatchOption, refl, sym, ap, ◌∙◌, subst, append_assoc, append-nil}
use Rattle.std.specs.List.{flat_map}
use Rattle.std.proofs.lemmas.Option.{none-some}
use Rattle.zk_talk.specs.{declared.limits.Limits.Limits, Held.Message, declared.message.Fault.Fault, declared.message.Side.Side, History.History, Stands.TalkState, Stands.Stands}
use Rattle.zk_talk.proofs.Start.{start_state, start}
use Rattle.zk_listings.specs.{declared.listing.Listing.Listing, Lines.text_of, Outcome.IsGoodWith}
use Rattle.zk_recordings.specs.Recording.{piece_history, Place, AtLetters, InHead, InPieces, Recording, Breaks, place_of, begun_history, history_at, history_of, limits_at, limits_of}
use Rattle.zk_recordings.specs.Reading.{content_of, IsHeaded, IsBare, GoesOn, in_head, within, ends}
use Rattle.zk_listings.specs.Following.{Has, IsHeadedBy, Talks, HasOr, Judges, Takes, TakesContent}
use Rattle.zk_recordings.proofs.Lists.{flat_map-snoc}
use Rattle.zk_listings.proofs.Feeding.{good-here}

-- ---- a recording that grows

bare-none : (place : Place) → IsBare place → history_at place ≡ []
bare-none (InPieces head pieces) is = ap (λ ps. flat_map piece_history ps) is
bare-none _ is = refl

unheaded-none : (r : Recording) → (IsHeaded (place_of r) → ⊥) → history_of r ≡ []
unheaded-none (Breaks AtLetters b) none = refl
unheaded-none (Breaks (InHead format) b) none = refl
unheaded-none _ none = absurd (none tt)

pub goes-history : (r new : Recording) (used : List ℕ) (side : Option Side) → GoesOn r used side new → history_of new ≡ history_of r ++ content_of side used
goes-history r new used side (in_head none bare b h s) =
    ap (λ l. history_at (place_of new) ++ l) h ∙ append-nil (history_at (place_of new)) ∙ bare-none (place_of new) bare
    ∙ sym (ap (λ z. history_of r ++ content_of z used) s ∙ append-nil (history_of r) ∙ unheaded-none r none)
goes-history r new used side (within p b h m) =
    ap (λ z. history_at z ++ begun_history new) p ∙ ap (λ l. history_at (place_of r) ++ l) h ∙ sym (append_assoc (history_at (place_of r)) (begun_history r) (content_of side used))
goes-history r new used side (ends head pieces piece p n b h) =
    ap history_of n ∙ append-nil (flat_map piece_history (pieces ++ piece ∷ [])) ∙ flat_map-snoc piece_history pieces piece
    ∙ ap (λ l. flat_map piece_history pieces ++ l) h
    ∙ ap (λ z. history_at z ++ (begun_history r ++ content_of side used)) (sym p)
    ∙ sym (append_assoc (history_at (place_of r)) (begun_history r) (content_of side used))

pub record StaysHeaded (r new : Recording) : Type 0 where
  pub headed : IsHeaded (place_of new)
  pub limits_are : (options : Limits) → limits_of options new ≡ limits_of options r

pub goes-headed : (r new : Recording) (used : List ℕ) (side : Option Side) → GoesOn r used side new → IsHeaded (place_of r) → StaysHeaded r new
goes-headed r new used side (in_head none bare b h s) is = absurd (none is)
goes-headed r new used side (within p b h m) is = record { headed = subst IsHeaded (sym p) is; limits_are = λ options. ap (limits_at options) p }
goes-headed r new used side (ends head pieces piece p n b h) is = record {
  headed = subst (λ z. IsHeaded (place_of z)) (sym n) tt;
  limits_are = λ options. ap (limits_of options) n ∙ ap (limits_at options) (sym p);
}

pub goes-content : (r new : Recording) (used : List ℕ) (side : Side) → GoesOn r used (Some side) new → IsHeaded (place_of new)
goes-content r new used side (in_head none bare b h s) = absurd (none-some side (sym s))
goes-content r new used side (within p b h m) = subst IsHeaded (sym p) m
goes-content r new used side (ends head pieces piece p n b h) = subst (λ z. IsHeaded (place_of z)) (sym n) tt

-- ---- the talk

pub headed-by : (talk : Option TalkState) (place : Place) → IsHeaded place → IsHeadedBy talk place
headed-by None place is = tt
headed-by (Some talk) place is = is

-- the talk as it stands, or as it begins
pub talk_now : Limits → Option TalkState → TalkState
talk_now limits None = start_state limits
talk_now limits (Some talk) = talk

pub has-stands : (limits : Limits) (talk : Option TalkState) (h : History) (messages : List Message) → Has limits talk h messages → Stands (talk_now limits talk) h messages × ((talk_now limits talk).limits ≡ limits)
unfolding talk_now
has-stands limits None h messages i = (subst (λ z. Stands (start_state limits) z messages) (sym i.0) (subst (λ z. Stands (start_state limits) [] z) (sym i.1) (start limits)), refl)
has-stands limits (Some talk) h messages i = i

pub has-good : (limits : Limits) (talk : Option TalkState) (h : History) (messages : List Message) → Has limits talk h messages → IsGoodWith limits h messages
has-good limits talk h messages i = let s = has-stands limits talk h messages i in good-here (talk_now limits talk) limits h messages s.1 s.0

-- ---- what is given to it

judged : (limits : Limits) (t : TalkState) (refused : Option Fault) (h : History) (messages : List Message) → t.limits ≡ limits → Judges t h messages refused → HasOr limits (Some t) refused h messages
judged limits t None h messages e i = (i, e)
judged limits t (Some fault) h messages e i = (i, e)

-- the talk that begins, or goes on
begun-stands : (limits : Limits) (old : Option TalkState) (t : TalkState) (h : History) (messages : List Message) → MatchOption old ((t.limits ≡ limits) × Stands t [] []) (λ o. t ≡ o) →
    Has limits old h messages → Stands t h messages × (t.limits ≡ limits)
begun-stands limits None t h messages begun has = (subst (λ z. Stands t z messages) (sym has.0) (subst (λ z. Stands t [] z) (sym has.1) begun.1), begun.0)
begun-stands limits (Some o) t h messages begun has = subst (λ z. Stands z h messages × (z.limits ≡ limits)) (sym begun) has

pub gives-by : (limits : Limits) (listing : Listing) (old : Option TalkState) (t u : TalkState) (lines lines_now : List ℕ) (bytes : History) (refused : Option Fault) →
    MatchOption old ((t.limits ≡ limits) × Stands t [] []) (λ o. t ≡ o) → u.limits ≡ t.limits → Takes listing t lines bytes refused u lines_now → TakesContent limits listing old lines bytes refused (Some u) lines_now
gives-by limits listing old t u lines lines_now bytes refused begun same takes h messages has =
    let s = begun-stands limits old t h messages begun has in
    let r = takes h messages s.0 in
    (r.0, judged limits u refused (h ++ bytes) (messages ++ r.0) (same ∙ s.1) r.1, r.2)

-- the talk goes on, or refuses
abbrev pub TalksOr : Limits → Recording → List Message → Option TalkState → Option Fault → Type 0
TalksOr options r messages talk None = Talks options r messages talk
TalksOr options r messages talk (Some fault) = IsHeaded (place_of r) × HasOr (limits_of options r) talk (Some fault) (history_of r) messages

talks-or : (options : Limits) (r : Recording) (messages : List Message) (talk : Option TalkState) (refused : Option Fault) → IsHeaded (place_of r) →
    HasOr (limits_of options r) talk refused (history_of r) messages → TalksOr options r messages talk refused
talks-or options r messages talk None is has = record { headed = headed-by talk (place_of r) is; has = has }
talks-or options r messages talk (Some fault) is has = (is, has)

talks-none : (options now : Limits) (r new : Recording) (used : List ℕ) (messages : List Message) (talk : Option TalkState) (refused : Option Fault) → talk ≡ None → GoesOn r used None new →
    HasOr now talk refused (history_of r ++ []) messages → TalksOr options new messages talk refused
talks-none options now r new used messages None None e goes has = record { headed = tt; has = (goes-history r new used None goes ∙ has.0, has.1) }
talks-none options now r new used messages None (Some fault) e goes has = absurd has
talks-none options now r new used messages (Some talk) _ e goes has = absurd (none-some talk (sym e))

module _ (options now : Limits) (r new : Recording) (used : List ℕ) (listing : Listing) (lines lines_now : List ℕ) (messages : List Message) (refused : Option Fault) where
  -- the lines of more messages, and what stands then
  abbrev pub Given : Option TalkState → Type 0
  Given talk = (more : List Message) × TalksOr options new (messages ++ more) talk refused × (lines_now ≡ lines ++ text_of listing more)

  given-headed : (side : Option Side) (old talk : Option TalkState) → GoesOn r used side new → IsHeaded (place_of new) → now ≡ limits_of options new → Has now old (history_of r) messages →
      TakesContent now listing old lines (content_of side used) refused talk lines_now → Given talk
  given-headed side old talk goes is e has gives =
      let g = gives (history_of r) messages has in
      let here = subst (λ h. HasOr now talk refused h (messages ++ g.0)) (sym (goes-history r new used side goes)) g.1 in
      (g.0, talks-or options new (messages ++ g.0) talk refused is (subst (λ l. HasOr l talk refused (history_of new) (messages ++ g.0)) e here), g.2)

  pub given : (side : Option Side) (old talk : Option TalkState) → GoesOn r used side new → (IsHeaded (place_of new) → now ≡ limits_of options new) → Talks options r messages old →
      TakesContent now listing old lines (content_of side used) refused talk lines_now → (side ≡ None → talk ≡ old) → Given talk
  given side (Some t) talk goes limits_are talks gives same =
      let stays = goes-headed r new used side goes talks.headed in
      let e = limits_are stays.headed in
      given-headed side (Some t) talk goes stays.headed e (subst (λ l. Has l (Some t) (history_of r) messages) (sym (e ∙ stays.limits_are options)) talks.has) gives
  given (Some s) None talk goes limits_are talks gives same =
      let is = goes-content r new used s goes in
      given-headed (Some s) None talk goes is (limits_are is) talks.has gives
  given None None talk goes limits_are talks gives same =
      let g = gives (history_of r) messages talks.has in
      (g.0, talks-none options now r new used (messages ++ g.0) talk refused (same refl) goes g.1, g.2)
