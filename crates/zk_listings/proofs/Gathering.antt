-- The beginning of a frame, which isn't given to the talk yet: with it no message has come.
use Rattle.std.proofs.Common.{◌≡◌, ℕ, ◌+◌, ◌≤◌, ◌<◌, ◌^◌, inl, inr, List, [], ◌∷◌, ◌++◌, length, Option, None, Some, sym, ap, ◌∙◌, subst, append_assoc, append-nil, arith, length-append}
use Rattle.std.specs.List.{flat_map}
use Rattle.zk_frames.specs.Framing.{IsBeginning}
use Rattle.zk_talk.specs.{declared.limits.Limits.Limits, declared.message.Fault.Fault, declared.message.Side.Side, Fault.side_limit, Held.Message, History.History, History.on, History.side_bytes}
use Rattle.zk_talk.specs.declared.message.Side.TheVariants.{Client, Server}
use Rattle.zk_talk.specs.Stands.{TalkState, Stands, held_on}
use Rattle.zk_talk.proofs.{Headline.refuses_more, Histories.no_bytes, Small.small_limits, Standing.bytes-on, Standing.other-on, Standing.runs_client, Standing.runs_server}
use Rattle.zk_recordings.specs.{declared.parts.Format.Format, declared.parts.Format.TheVariants.Zkr1, declared.parts.Format.TheVariants.Zkr2}
use Rattle.zk_recordings.specs.Recording.{Breaks, Ends, InPieces, Piece, Place, Recording, Spells, begun_history, begun_of, format_of, front, head_bytes, history_at, history_of, limits_of, piece_bytes, piece_history, place_of}
use Rattle.zk_recordings.proofs.Lists.{on-append}
use Rattle.zk_listings.specs.{declared.listing.Listing.TheVariants.Last, declared.progress.Progress.Progress, Following.Follows, Following.Has, Following.Judges, Following.Takes, Gathered.SideBytes, Outcome.IsGoodWith}
use Rattle.zk_listings.specs.Gathering.{Begins, FollowsBut, Gathers, HasAllBut, HasAllButOr, HasAllButUnless, IsGathered, Turns}
use Rattle.zk_listings.proofs.Talking.{has-good}

-- ---- a side has no more bytes than the recording

more-on : (side other : Side) (bs : List ℕ) (h : History) → length (side_bytes side (h ++ on other bs)) ≤ length (side_bytes side h) + length bs
more-on Client Client bs h = omega (arith, bytes-on Client bs h)
more-on Server Server bs h = omega (arith, bytes-on Server bs h)
more-on side other bs h = omega (arith, ap length (other-on other bs h))

content-within : (format : Format) (p : Piece) → length p.content ≤ length (piece_bytes format p)
content-within Zkr1 p = omega (arith, length-append p.size p.content)
content-within Zkr2 p = omega (arith, length-append p.time (p.size ++ p.content), length-append p.size p.content)

pieces-within : (side : Side) (format : Format) (ps : List Piece) (h : History) →
    length (side_bytes side (h ++ flat_map piece_history ps)) ≤ length (side_bytes side h) + length (flat_map (piece_bytes format) ps)
pieces-within side format [] h = omega (arith, ap (λ z. length (side_bytes side z)) (append-nil h))
pieces-within side format (p ∷ ps) h =
    omega (
      arith,
      ap (λ z. length (side_bytes side z)) (append_assoc h (piece_history p) (flat_map piece_history ps)),
      pieces-within side format ps (h ++ piece_history p),
      more-on side p.side p.content h,
      content-within format p,
      length-append (piece_bytes format p) (flat_map (piece_bytes format) ps),
    )

place-within : (side : Side) (place : Place) → length (side_bytes side (history_at place)) ≤ length (front place)
place-within side (InPieces head pieces) =
    omega (arith, length-append (head_bytes head) (flat_map (piece_bytes (format_of head)) pieces), pieces-within side (format_of head) pieces [], ap length (no_bytes side))
place-within side _ = omega (arith, ap length (no_bytes side))

begun-within : (side : Side) (r : Recording) (h : History) → length (side_bytes side (h ++ begun_history r)) ≤ length (side_bytes side h) + length (begun_of r)
begun-within side (Breaks place b) h = omega (arith, ap (λ z. length (side_bytes side z)) (append-nil h))
begun-within side (Ends head pieces last) h = omega (arith, more-on side last.side last.content h, content-within (format_of head) last)

pub history-within : (side : Side) (r : Recording) (x : List ℕ) → Spells x r → length (side_bytes side (history_of r)) ≤ length x
history-within side r x i =
    omega (arith, ap length i.is, length-append (front (place_of r)) (begun_of r), begun-within side r (history_at (place_of r)), place-within side (place_of r))

-- ---- the beginning of a frame

good-more : (side : Side) (t : TalkState) (h : History) (messages : List Message) (block : List ℕ) → Stands t h messages → held_on side t ≡ [] →
    IsBeginning (side_limit t.limits side) block → length (side_bytes side h) + length block < 2 ^ 62 → IsGoodWith t.limits (h ++ on side block) messages
good-more Client t h messages block st none begins size =
    let r = runs_client t.limits (small_limits t.limits) st.conversation messages block h t.client_held t.server_held (record { good = st.good; order = st.order })
    (subst (λ z. IsBeginning t.limits.client (z ++ block)) (sym none) begins) size in
    record { conversation = st.conversation; client_rest = t.client_held ++ block; server_rest = t.server_held; good = r.good; order = r.order }
good-more Server t h messages block st none begins size =
    let r = runs_server t.limits (small_limits t.limits) st.conversation messages block h t.client_held t.server_held (record { good = st.good; order = st.order })
    (subst (λ z. IsBeginning t.limits.server (z ++ block)) (sym none) begins) size in
    record { conversation = st.conversation; client_rest = t.client_held; server_rest = t.server_held ++ block; good = r.good; order = r.order }

-- ---- what is gathered

-- nothing is gathered
but-none : (g : SideBytes) (h before : History) → g.bytes ≡ [] → h ≡ before ++ on g.side g.bytes → h ≡ before
but-none g h before e is = is ∙ ap (λ b. before ++ on g.side b) e ∙ append-nil before

none-but : (g : SideBytes) (h : History) → g.bytes ≡ [] → h ≡ h ++ on g.side g.bytes
none-but g h e = sym (append-nil h) ∙ ap (λ b. h ++ on g.side b) (sym e)

pub good-but : (g : SideBytes) (limits : Limits) (talk : Option TalkState) (h : History) (messages : List Message) → HasAllBut g limits talk h messages → IsGathered limits talk g →
    length (side_bytes g.side h) < 2 ^ 62 → IsGoodWith limits h messages
good-but g limits None h messages i e size = subst (λ z. IsGoodWith limits z messages) (sym (but-none g h i.0 e i.1)) (has-good limits None i.0 messages i.2)
good-but g limits (Some t) h messages i (inl e) size = subst (λ z. IsGoodWith limits z messages) (sym (but-none g h i.0 e i.1)) (has-good limits (Some t) i.0 messages i.2)
good-but g limits (Some t) h messages i (inr b) size =
    let st = i.2 in
    let fits : length (side_bytes g.side i.0) + length g.bytes < 2 ^ 62 = omega (arith, size, ap (λ z. length (side_bytes g.side z)) i.1, bytes-on g.side g.bytes i.0) in
    let good = good-more g.side t i.0 messages g.bytes st.0 b.0 (subst (λ l. IsBeginning (side_limit l g.side) g.bytes) (sym st.1) b.1) fits in
    subst (λ z. IsGoodWith limits z messages) (sym i.1) (subst (λ l. IsGoodWith l (i.0 ++ on g.side g.bytes) messages) st.1 good)

pub good-here-but : (g : SideBytes) (limits : Limits) (x : List ℕ) (messages : List Message) (p : Progress) → (i : FollowsBut g limits x messages p) → length x < 2 ^ 62 →
    IsGoodWith (limits_of limits i.recording) (history_of i.recording) messages
good-here-but g limits x messages p i size =
    good-but g (limits_of limits i.recording) p.talk (history_of i.recording) messages i.has i.gathered (omega (arith, size, history-within g.side i.recording x i.at.spells))

gathered-none : (g : SideBytes) (limits : Limits) (talk : Option TalkState) → g.bytes ≡ [] → IsGathered limits talk g
gathered-none g limits None e = e
gathered-none g limits (Some t) e = inl e

pub follows-but : (g : SideBytes) (limits : Limits) (x : List ℕ) (messages : List Message) (p : Progress) → g.bytes ≡ [] → Follows limits x messages p → FollowsBut g limits x messages p
follows-but g limits x messages p e i = record {
  options = i.options;
  recording = i.recording;
  at = i.at;
  unbroken = i.unbroken;
  headed = i.talks.headed;
  has = (history_of i.recording, none-but g (history_of i.recording) e, i.talks.has);
  gathered = gathered-none g (limits_of limits i.recording) p.talk e;
}

pub but-follows : (g : SideBytes) (limits : Limits) (x : List ℕ) (messages : List Message) (p : Progress) → g.bytes ≡ [] → FollowsBut g limits x messages p → Follows limits x messages p
but-follows g limits x messages p e i = record {
  options = i.options;
  recording = i.recording;
  at = i.at;
  unbroken = i.unbroken;
  talks = record {
    headed = i.headed;
    has = subst (λ z. Has (limits_of limits i.recording) p.talk z messages) (sym (but-none g (history_of i.recording) i.has.0 e i.has.1)) i.has.2;
  };
}

-- ---- what is given to the talk

judges-has : (g : SideBytes) (limits : Limits) (t : TalkState) (h : History) (messages : List Message) (refused : Option Fault) → g.bytes ≡ [] → t.limits ≡ limits →
    Judges t h messages refused → HasAllButOr g limits (Some t) refused h messages
judges-has g limits t h messages None e l i = ((h, none-but g h e, (i, l)), inl e)
judges-has g limits t h messages (Some fault) e l i = (i, l)

unless : (g : SideBytes) (limits : Limits) (talk : Option TalkState) (h : History) (messages : List Message) (refused : Option Fault) → HasAllButOr g limits talk refused h messages →
    HasAllButUnless g limits talk refused h messages
unless g limits talk h messages None i = i.0
unless g limits talk h messages (Some fault) i = i

-- all that is gathered is given to it
module _ (limits : Limits) (old new : TalkState) (g now : SideBytes) (refused : Option Fault) (empty : now.bytes ≡ []) (same : new.limits ≡ old.limits)
    (taken : (lines : List ℕ) → Takes Last old lines (on g.side g.bytes) refused new lines) where
  pub given-all : (h : History) (messages : List Message) → HasAllBut g limits (Some old) h messages → (more : List Message) × HasAllButOr now limits (Some new) refused h (messages ++ more)
  given-all h messages i =
      let r = taken [] i.0 messages i.2.0 in
      (r.0, subst (λ z. HasAllButOr now limits (Some new) refused z (messages ++ r.0)) (sym i.1) (judges-has now limits new (i.0 ++ on g.side g.bytes) (messages ++ r.0) refused empty (same ∙ i.2.1) r.1))

  pub settle-turns : Turns limits old g refused new now
  settle-turns h messages i = let r = given-all h messages i in (r.0, unless now limits (Some new) h (messages ++ r.0) refused r.1)

  pub settle-gathers : Gathers limits old g [] refused new now
  settle-gathers h messages i = let r = given-all h messages i in (r.0, subst (λ z. HasAllButOr now limits (Some new) refused z (messages ++ r.0)) (sym (append-nil h)) r.1)

pub waits-gathers : (limits : Limits) (t : TalkState) (g : SideBytes) → Begins limits t g → Gathers limits t g [] None t g
waits-gathers limits t g b h messages i =
    ([], (subst (λ m. HasAllBut g limits (Some t) (h ++ []) m) (sym (append-nil messages)) (subst (λ z. HasAllBut g limits (Some t) z messages) (sym (append-nil h)) i), inr b))

pub stays-turns : (limits : Limits) (t : TalkState) (g : SideBytes) → Turns limits t g None t g
stays-turns limits t g h messages i = ([], subst (λ m. HasAllBut g limits (Some t) h m) (sym (append-nil messages)) i)

-- a fault stands whatever follows
pub refuses-gathers : (limits : Limits) (old new : TalkState) (g now : SideBytes) (bytes : History) (fault : Fault) → Turns limits old g (Some fault) new now → Gathers limits old g bytes (Some fault) new now
refuses-gathers limits old new g now bytes fault turns h messages i =
    let r = turns h messages i in
    (r.0, (refuses_more new h bytes (messages ++ r.0) fault r.1.0, r.1.1))

-- content goes to the talk, after nothing
judge-gathers : (limits : Limits) (old new : TalkState) (g : SideBytes) (bytes : History) (refused : Option Fault) → g.bytes ≡ [] → new.limits ≡ old.limits →
    ((lines : List ℕ) → Takes Last old lines bytes refused new lines) → Gathers limits old g bytes refused new g
judge-gathers limits old new g bytes refused e same taken h messages i =
    let was = but-none g h i.0 e i.1 in
    let r = taken [] h messages (subst (λ z. Stands old z messages) (sym was) i.2.0) in
    (r.0, judges-has g limits new (h ++ bytes) (messages ++ r.0) refused e (same ∙ i.2.1) r.1)

-- bytes come after what is gathered
more-but : (g : SideBytes) (bytes : List ℕ) (limits : Limits) (talk : Option TalkState) (h : History) (messages : List Message) → HasAllBut g limits talk h messages →
    HasAllBut (record g { bytes = g.bytes ++ bytes }) limits talk (h ++ on g.side bytes) messages
more-but g bytes limits talk h messages i = (i.0, ap (λ z. z ++ on g.side bytes) i.1 ∙ on-append g.side g.bytes bytes i.0, i.2)

pub append-gathers : (limits : Limits) (old new : TalkState) (g now : SideBytes) (bytes : List ℕ) (refused : Option Fault) →
    Gathers limits old (record g { bytes = g.bytes ++ bytes }) [] refused new now → Gathers limits old g (on g.side bytes) refused new now
append-gathers limits old new g now bytes refused gathers h messages i =
    let r = gathers (h ++ on g.side bytes) messages (more-but g bytes limits (Some old) h messages i) in
    (r.0, subst (λ z. HasAllButOr now limits (Some new) refused z (messages ++ r.0)) (append-nil (h ++ on g.side bytes)) r.1)

turned-then : (limits : Limits) (old mid new : TalkState) (g between now : SideBytes) (bytes : History) (refused : Option Fault) → Turns limits old g None mid between →
    Gathers limits mid between bytes refused new now → Gathers limits old g bytes refused new now
turned-then limits old mid new g between now bytes refused first second h messages i =
    let a = first h messages i in
    let b = second h (messages ++ a.0) a.1 in
    (a.0 ++ b.0, subst (λ m. HasAllButOr now limits (Some new) refused (h ++ bytes) m) (append_assoc messages a.0 b.0) b.1)

pub judges-then : (limits : Limits) (old mid new : TalkState) (g between : SideBytes) (bytes : History) (refused : Option Fault) → Turns limits old g None mid between → between.bytes ≡ [] →
    new.limits ≡ mid.limits → ((lines : List ℕ) → Takes Last mid lines bytes refused new lines) → Gathers limits old g bytes refused new between
judges-then limits old mid new g between bytes refused turns e same taken =
    turned-then limits old mid new g between between bytes refused turns (judge-gathers limits mid new between bytes refused e same taken)

pub appends-then : (limits : Limits) (old mid new : TalkState) (g between now : SideBytes) (bytes : List ℕ) (refused : Option Fault) → Turns limits old g None mid between →
    Gathers limits mid (record between { bytes = between.bytes ++ bytes }) [] refused new now → Gathers limits old g (on between.side bytes) refused new now
appends-then limits old mid new g between now bytes refused turns gathers =
    turned-then limits old mid new g between now (on between.side bytes) refused turns (append-gathers limits mid new between now bytes refused gathers)
