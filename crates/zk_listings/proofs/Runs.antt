-- What a block does to a recording whose last bytes may be gathered.
use Rattle.std.proofs.Common.{◌≡◌, ℕ, ◌≤◌, ◌<◌, ◌^◌, List, [], ◌++◌, length, take, Option, None, Some, refl, sym, ap, ◌∙◌, subst, append_assoc, append-nil, arith, length-append}
use Rattle.std.proofs.{Math.Seq.take-length, lemmas.List.length-take-le, lemmas.Option.none-some}
use Rattle.zk_talk.specs.{declared.limits.Limits.Limits, declared.message.Fault.Fault, declared.message.Side.Side, Held.Message, History.on, Stands.TalkState}
use Rattle.zk_recordings.specs.Reader.{ReaderState}
use Rattle.zk_recordings.specs.Reading.{IsAt, IsHeaded, IsUndamaged, ReadsContent, ReadsOn, content_of}
use Rattle.zk_recordings.specs.Recording.{Place, Recording, Spells, history_of, limits_of, place_of}
use Rattle.zk_listings.specs.{declared.listing.Listing.Listing, declared.progress.Progress.Progress, declared.summary.Summary.Summary, Gathered.SideBytes, Outcome.IsBroken}
use Rattle.zk_listings.specs.declared.listing.Listing.TheVariants.{All, Last}
use Rattle.zk_listings.specs.declared.summary.Summary.TheVariants.{Ended, Broken}
use Rattle.zk_listings.specs.Following.{IsHeadedBy, IsLastingSummary, Steps, Takes, ended_by}
use Rattle.zk_listings.specs.Gathering.{AdvancesBut, FollowsBut, Gathers, GathersIn, HasAllBut, HasAllButOr, IsGathered, ReachesBut, StepsBut}
use Rattle.zk_listings.proofs.{Feeding.listed-none, Feeding.listed-then, Stops.decides-by_damage, Stops.decides-by_fault, Talking.goes-headed, Talking.goes-history, Talking.headed-by}
use Rattle.zk_listings.proofs.Gathering.{append-gathers, but-follows, follows-but, given-all, good-but, history-within}

-- ---- one block after another

-- nothing is gathered then, wherever the talk stands
abbrev pub IsNoneBut : SideBytes → Progress → Type 0
IsNoneBut g p = (limits : Limits) (x : List ℕ) (messages : List Message) → FollowsBut g limits x messages p → g.bytes ≡ []

pub none-begun : (g : SideBytes) (p : Progress) → p.talk ≡ None → IsNoneBut g p
none-begun g p e limits x messages i = subst (λ z. IsGathered (limits_of limits i.recording) z g) e i.gathered

pub steps-but : (g : SideBytes) (listing : Listing) (p now : Progress) (lines lines_now block : List ℕ) (used : ℕ) (found : Option Summary) → IsNoneBut g p →
    Steps listing p lines block used found now lines_now → StepsBut g listing p lines block used found g now lines_now
steps-but g listing p now lines lines_now block used None none steps = λ limits x messages i size.
    let e = none limits x messages i in
    let r = steps limits x messages (but-follows g limits x messages p e i) in
    (r.0, follows-but g limits (x ++ take used block) (messages ++ r.0) now e r.1, r.2)
steps-but g listing p now lines lines_now block used (Some summary) none steps = λ limits x messages i size.
    steps limits x messages (but-follows g limits x messages p (none limits x messages i) i)

pub advances-but-none : (g : SideBytes) (listing : Listing) (p : Progress) (lines : List ℕ) → AdvancesBut g listing p lines [] None g p lines
advances-but-none g listing p lines limits x messages i size =
    ([], subst (λ m. FollowsBut g limits (x ++ []) m p) (sym (append-nil messages)) (subst (λ y. FollowsBut g limits y messages p) (sym (append-nil x)) i), listed-none listing lines)

pub advances-but-then : (g between after : SideBytes) (listing : Listing) (p mid new : Progress) (lines during now a b : List ℕ) (found : Option Summary) →
    AdvancesBut g listing p lines a None between mid during → AdvancesBut between listing mid during b found after new now → AdvancesBut g listing p lines (a ++ b) found after new now
advances-but-then g between after listing p mid new lines during now a b found first second limits x messages i size =
    let one = first limits x messages i (omega (arith, size, length-append a b)) in
    let two = second limits (x ++ a) (messages ++ one.0) one.1 (omega (arith, size, length-append a b, length-append x a)) in
    let joined = subst (λ m. ReachesBut after limits ((x ++ a) ++ b) m new found) (append_assoc messages one.0 two.0) two.1 in (
      one.0 ++ two.0,
      subst (λ y. ReachesBut after limits y (messages ++ (one.0 ++ two.0)) new found) (append_assoc x a b) joined,
      listed-then listing lines during now one.0 two.0 one.2 two.2,
    )

-- ---- a run of bytes

headed-some : (talk : Option TalkState) (place : Place) → (talk ≡ None → ⊥) → IsHeadedBy talk place → IsHeaded place
headed-some None place some i = absurd (some refl)
headed-some (Some t) place some i = i

module _ (g now : SideBytes) (p p' : Progress) (lines block : List ℕ) (used : ℕ) (side : Option Side) (now_limits : Limits) (refused : Option Fault)
    (begun : p.talk ≡ None → ⊥)
    (part : used ≤ length block)
    (options : p'.limits ≡ p.limits)
    (reads : (x : List ℕ) (r : Recording) → IsAt p.reader x r → ReadsOn p'.reader x r (take used block) side)
    (limits_are : (x : List ℕ) (r : Recording) → IsAt p'.reader x r → IsHeaded (place_of r) → now_limits ≡ limits_of p.limits r)
    (gathers : GathersIn now_limits p.talk g (content_of side (take used block)) refused p'.talk now) where
  module _ (limits : Limits) (x : List ℕ) (messages : List Message) (i : FollowsBut g limits x messages p) where
    abbrev next : ReadsOn p'.reader x i.recording (take used block) side
    next = reads x i.recording i.at

    comes : (other : Option Fault) → refused ≡ other →
        (more : List Message) × IsHeaded (place_of next.new) × HasAllButOr now (limits_of limits next.new) p'.talk other (history_of next.new) (messages ++ more)
    comes other same_fault =
        let r = next in
        let stays = goes-headed i.recording r.new (take used block) side r.goes_on (headed-some p.talk (place_of i.recording) begun i.headed) in
        let e : now_limits ≡ limits_of limits r.new = limits_are _ r.new r.is stays.headed ∙ ap (λ l. limits_of l r.new) i.options in
        let same = sym (e ∙ stays.limits_are limits) in
        let m = gathers (history_of i.recording) messages (subst (λ l. HasAllBut g l p.talk (history_of i.recording) messages) same i.has) (subst (λ l. IsGathered l p.talk g) same i.gathered) in
        let here = subst (λ z. HasAllButOr now now_limits p'.talk z (history_of i.recording ++ content_of side (take used block)) (messages ++ m.0)) same_fault m.1 in
        let there = subst (λ h. HasAllButOr now now_limits p'.talk other h (messages ++ m.0)) (sym (goes-history i.recording r.new (take used block) side r.goes_on)) here in
        (m.0, stays.headed, subst (λ l. HasAllButOr now l p'.talk other (history_of r.new) (messages ++ m.0)) e there)

  -- the block was taken as its lasting summary says
  pub run-lasting : (other : Option Fault) (found : Option Summary) → refused ≡ other → IsLastingSummary p'.reader other found → StepsBut g Last p lines block used found now p' lines
  run-lasting (Some fault) found e lasting = subst (λ z. StepsBut g Last p lines block used z now p' lines) (sym lasting) (λ limits x messages i size.
      let r = next limits x messages i in
      let c = comes limits x messages i (Some fault) e in
      (c.0, decides-by_fault limits x block used r.new (messages ++ c.0) p'.talk fault r.is.spells c.1 c.2, sym (append-nil lines)))
  run-lasting None (Some (Broken d)) e damaged = λ limits x messages i size.
      let r = next limits x messages i in
      let c = comes limits x messages i None e in
      let read : length (x ++ take used block) < 2 ^ 62 = omega (arith, size, part, length-append x (take used block), length-take-le used block part) in
      let good = good-but now (limits_of limits r.new) p'.talk (history_of r.new) (messages ++ c.0) c.2.0 c.2.1 (omega (arith, read, history-within now.side r.new _ r.is.spells)) in
      (c.0, decides-by_damage limits x block used r.new (messages ++ c.0) p'.talk d r.is.spells (damaged _ r.new r.is) good, sym (append-nil lines))
  run-lasting None (Some (Ended ending)) e lasting = absurd lasting
  run-lasting None None e undamaged = λ limits x messages i size.
      let r = next limits x messages i in
      let c = comes limits x messages i None e in (
        c.0,
        record {
          options = options ∙ i.options;
          recording = r.new;
          at = r.is;
          unbroken = λ b. undamaged _ r.new b.0 r.is b.1;
          headed = headed-by p'.talk (place_of r.new) c.1;
          has = c.2.0;
          gathered = c.2.1;
        },
        sym (append-nil lines),
      )

-- ---- content that was read after what is gathered

-- while what was read has no damage, a fault of the talk alone decides
lasting-by : (reader : ReaderState) (refused : Option Fault) → IsUndamaged reader → IsLastingSummary reader refused (ended_by refused)
lasting-by reader None undamaged = undamaged
lasting-by reader (Some fault) undamaged = refl

module _ (before now : SideBytes) (p : Progress) (state : ReaderState) (t u : TalkState) (bytes : List ℕ) (now_limits : Limits) (refused : Option Fault)
    (talk : p.talk ≡ Some t)
    (reads : ReadsContent p.reader before.side bytes state) (still : IsUndamaged state)
    (limits_are : (x : List ℕ) (r : Recording) → IsAt state x r → IsHeaded (place_of r) → now_limits ≡ limits_of p.limits r)
    (gathers : Gathers now_limits t (record before { bytes = before.bytes ++ bytes }) [] refused u now) where
  abbrev after-read : Progress
  after-read = record p { reader = state; talk = Some u }

  within : GathersIn now_limits p.talk before (content_of (Some before.side) (take (length bytes) bytes)) refused (Some u) now
  within =
      let all = append-gathers now_limits t u before now bytes refused gathers in
      subst (λ b. GathersIn now_limits p.talk before (on before.side b) refused (Some u) now) (sym (take-length bytes))
      (subst (λ z. GathersIn now_limits z before (on before.side bytes) refused (Some u) now) (sym talk) (λ h messages i _. all h messages i))

  reads-all : (x : List ℕ) (r : Recording) → IsAt p.reader x r → ReadsOn state x r (take (length bytes) bytes) (Some before.side)
  reads-all x r i = subst (λ b. ReadsOn state x r b (Some before.side)) (sym (take-length bytes)) (reads x r i)

  pub read-advances : (lines : List ℕ) → AdvancesBut before Last p lines bytes (ended_by refused) now after-read lines
  read-advances lines = advances (ended_by refused) (run-lasting before now p after-read lines bytes (length bytes) (Some before.side) now_limits refused (λ e. none-some t (sym e ∙ talk)) (omega arith) refl reads-all limits_are within refused
      (ended_by refused) refl (lasting-by state refused still)) where
        advances : (found : Option Summary) → StepsBut before Last p lines bytes (length bytes) found now after-read lines → AdvancesBut before Last p lines bytes found now after-read lines
        advances None steps = subst (λ b. AdvancesBut before Last p lines b None now after-read lines) (take-length bytes) steps
        advances (Some summary) steps = steps

-- ---- all is given to the talk

module _ (g now : SideBytes) (p : Progress) (t u : TalkState) (refused : Option Fault) (talk : p.talk ≡ Some t)
    (empty : now.bytes ≡ []) (same : u.limits ≡ t.limits) (taken : (lines : List ℕ) → Takes Last t lines (on g.side g.bytes) refused u lines) where
  abbrev after-given : Progress
  after-given = record p { talk = Some u }

  reaches : (limits : Limits) (x : List ℕ) (earlier messages : List Message) (i : FollowsBut g limits x earlier p) (other : Option Fault) →
      HasAllButOr now (limits_of limits i.recording) (Some u) other (history_of i.recording) messages → ReachesBut now limits (x ++ []) messages after-given (ended_by other)
  reaches limits x earlier messages i None has = record {
    options = i.options;
    recording = i.recording;
    at = subst (λ y. IsAt p.reader y i.recording) (sym (append-nil x)) i.at;
    unbroken = λ b. i.unbroken (subst (λ y. IsBroken y i.recording) (append-nil x) b);
    headed = subst (λ z. IsHeadedBy z (place_of i.recording)) talk i.headed;
    has = has.0;
    gathered = has.1;
  }
  reaches limits x earlier messages i (Some fault) has =
      decides-by_fault limits x [] 0 i.recording messages (Some u) fault (subst (λ y. Spells y i.recording) (sym (append-nil x)) i.at.spells)
      (subst (λ z. IsHeadedBy z (place_of i.recording)) talk i.headed) has

  pub all-advances : (lines : List ℕ) → AdvancesBut g Last p lines [] (ended_by refused) now after-given lines
  all-advances lines limits x messages i size =
      let l = limits_of limits i.recording in
      let c = given-all l t u g now refused empty same taken (history_of i.recording) messages (subst (λ z. HasAllBut g l z (history_of i.recording) messages) talk i.has) in
      (c.0, reaches limits x messages (messages ++ c.0) i refused c.1, sym (append-nil lines))

-- where nothing is gathered
pub none-on : (g now : SideBytes) (listing : Listing) (p : Progress) (lines : List ℕ) → IsNoneBut g p → now.bytes ≡ [] → AdvancesBut g listing p lines [] None now p lines
none-on g now listing p lines none empty limits x messages i =
    advances-but-none now listing p lines limits x messages (follows-but now limits x messages p empty (but-follows g limits x messages p (none limits x messages i) i))

-- where lines are listed nothing is gathered
pub last-only : (listing : Listing) → (listing ≡ All → ⊥) → Last ≡ listing
last-only All none = absurd (none refl)
last-only Last none = refl

-- a block, and then what is gathered
pub given-last : (g between now : SideBytes) (listing : Listing) (p mid new : Progress) (lines during block : List ℕ) (found last : Option Summary) → found ≡ None →
    AdvancesBut g listing p lines block found between mid during → AdvancesBut between listing mid during [] last now new during → AdvancesBut g listing p lines block last now new during
given-last g between now listing p mid new lines during block found last goes_on taken given =
    let first = subst (λ z. AdvancesBut g listing p lines block z between mid during) goes_on taken in
    subst (λ b. AdvancesBut g listing p lines b last now new during) (append-nil block) (advances-but-then g between now listing p mid new lines during during block [] last first given)
