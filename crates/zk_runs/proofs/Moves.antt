-- What one step of the reader adds to what is written of a recording that is migrated.
use Rattle.std.proofs.Common.{◌≡◌, ℕ, ◌+◌, ◌-◌, ◌<◌, ◌≤◌, zero, suc, List, [], ◌∷◌, ◌++◌, length, take, drop, Bool, true, false, cond, nat_lt, Option, None, Some, refl, sym, ap, ◌∙◌, subst, append_assoc, append-nil, arith, length-append, length-take, length-drop}
use Rattle.std.specs.Prelude.{MatchOption}
use Rattle.std.specs.List.{All, flat_map}
use Rattle.std.proofs.{Math.Seq.take-add, Math.Seq.take-length, Math.Seq.drop-length, lemmas.List.take-append-le, lemmas.List.drop-append-le, lemmas.List.take-append-drop, lemmas.Grind.flat_map-append}
use Rattle.std.proofs.lemmas.List.Elements.{All-head, All-tail}
use Rattle.zk_talk.specs.{declared.limits.Limits.Limits, declared.message.Side.Side}
use Rattle.zk_recordings.specs.{declared.parts.Format.Format, declared.parts.Format.TheVariants.Zkr1, declared.parts.Format.TheVariants.Zkr2, declared.parts.Part.Part, declared.parts.Part.TheVariants.SideByte, Reader.ReaderState}
use Rattle.zk_recordings.specs.{Parts.number, Parts.piece_parts, Pieces.ReadsPiece}
use Rattle.zk_recordings.specs.Recording.{no_time, spelled, End, Cut, Bad, end_bytes, Break, IsBreakIn, Head, First, Second, format_of, head_bytes, Piece, IsPiece, piece_bytes, Place, AtLetters, InHead, InPieces, IsPlace, front, Recording, Breaks, Ends, IsRecording, Spells, place_of, begun_of, nothing}
use Rattle.zk_recordings.specs.Reading.{IsAt, IsHeaded, IsBetween, IsBetweenOf, IsNeverBetween, GoesOn, in_head, within, ends, ReadsOn, format_at}
use Rattle.zk_listings.specs.Outcome.{HasGrownIn}
use Rattle.zk_runs.specs.Migrating.{head_of, second, migrated_at, migrated, timed, taken, sent, kept_at, kept, IsHeadedIf, HasMoved}
use Rattle.zk_recordings.proofs.{Walks.Walk, Walks.Walked, Walks.Broke, Walks.walk, Once.with_content, Once.piece_with, Once.choose, Once.parse, Once.piece-some, Once.spells-once, Once.recorded, Any.any, Any.goes}
use Rattle.zk_listings.proofs.{Feeding.grown-whole, Stopped.grown-in}

-- ---- where nothing is begun

abbrev pub break_with : List (List ℕ) → Part → End → Break
break_with before part end = record { before = before; part = part; end = end }

bare-break : (f : Format) (before : List (List ℕ)) (part : Part) (end : End) → IsBreakIn (piece_parts f) before part end → spelled before (end_bytes end) ≡ [] →
    break_with before part end ≡ nothing
bare-break Zkr1 [] part (Cut begun) is none = ap (λ q. break_with [] q (Cut begun)) is.0 ∙ ap (λ l. break_with [] SideByte (Cut l)) none
bare-break Zkr1 [] part (Bad value more) is none = absurd (omega (arith, ap length none, length-append value more, is.1.0))
bare-break Zkr1 (v ∷ vs) part end is none = absurd (omega (arith, ap length none, length-append v (spelled vs (end_bytes end)), is.0.wide))
bare-break Zkr2 [] part (Cut begun) is none = ap (λ q. break_with [] q (Cut begun)) is.0 ∙ ap (λ l. break_with [] SideByte (Cut l)) none
bare-break Zkr2 [] part (Bad value more) is none = absurd (omega (arith, ap length none, length-append value more, is.1.0))
bare-break Zkr2 (v ∷ vs) part end is none = absurd (omega (arith, ap length none, length-append v (spelled vs (end_bytes end)), is.0.wide))

between : (r : Recording) → IsRecording r → IsHeaded (place_of r) → begun_of r ≡ [] → IsBetween r
between (Breaks (InPieces head ps) b) is headed none = (head, ps, ap (λ q. Breaks (InPieces head ps) q) (bare-break (format_of head) b.before b.part b.end is.breaks none))
between (Breaks _ b) is headed none = absurd headed
between (Ends head ps last) is headed none = absurd (omega (arith, ap length none, piece-some (format_of head) last))

-- ---- what is kept and what is written, by the place

kept-bare : (place : Place) (begun : List ℕ) → (IsHeaded place → ⊥) → kept_at place begun ≡ front place ++ begun
kept-bare (InPieces head ps) begun none = absurd (none tt)
kept-bare _ begun none = refl

timed-none : (f : Format) → timed f [] ≡ []
timed-none Zkr1 = refl
timed-none Zkr2 = refl

timed-more : (f : Format) (begun more : List ℕ) → (begun ≡ [] → ⊥) → timed f (begun ++ more) ≡ timed f begun ++ more
timed-more Zkr1 [] more some = absurd (some refl)
timed-more Zkr1 (b ∷ bs) more some = ap (λ l. b ∷ l) (sym (append_assoc no_time bs more))
timed-more Zkr2 begun more some = refl

kept-more : (place : Place) (begun more : List ℕ) → (IsHeaded place → begun ≡ [] → ⊥) → kept_at place (begun ++ more) ≡ kept_at place begun ++ more
kept-more AtLetters begun more some = refl
kept-more (InHead f) begun more some = sym (append_assoc (front (InHead f)) begun more)
kept-more (InPieces head ps) begun more some = timed-more (format_of head) begun more (some tt)

-- a head or a piece of this format has just ended; or none has
abbrev pub StartsAt : Option Format → Recording → Type 0
StartsAt None r = IsBetween r → ⊥
StartsAt (Some f) r = IsBetween r × (format_at (place_of r) ≡ Some f)

pub starts-at : (after : Option Format) (s : ReaderState) (x : List ℕ) (r : Recording) → MatchOption after (IsNeverBetween s) (IsBetweenOf s) → IsAt s x r → StartsAt after r
starts-at None s x r is at' = is x r at'
starts-at (Some f) s x r is at' = is x r at'

starting : (head : Head) (ps : List Piece) (used : List ℕ) (f : Format) → format_of head ≡ f →
    kept_at (InPieces head ps) ([] ++ used) ≡ kept (Breaks (InPieces head ps) nothing) ++ timed f used
starting head ps used f e = ap (λ g. timed g used) e ∙ ap (λ l. l ++ timed f used) (sym (timed-none (format_of head)))

-- what is held grows by what is taken
kept-taken : (after : Option Format) (old : Recording) (used : List ℕ) → IsRecording old → StartsAt after old → kept_at (place_of old) (begun_of old ++ used) ≡ kept old ++ taken after used
kept-taken None old used is never = kept-more (place_of old) (begun_of old) used (λ h none. never (between old is h none))
kept-taken (Some f) old used is starts =
    let b = starts.0 in
    let e : Some (format_of b.0) ≡ Some f = sym (ap (λ r. format_at (place_of r)) b.2) ∙ starts.1 in
    let same : format_of b.0 ≡ f = cc in
    subst (λ r. kept_at (place_of r) (begun_of r ++ used) ≡ kept r ++ timed f used) (sym b.2) (starting b.0 b.1 used f same)

-- no piece begins before the head is whole
plain-taken : (after : Option Format) (old : Recording) (used : List ℕ) → (IsHeaded (place_of old) → ⊥) → StartsAt after old → taken after used ≡ used
plain-taken None old used none starts = refl
plain-taken (Some f) old used none starts = absurd (none (subst (λ r. IsHeaded (place_of r)) (sym starts.0.2) tt))

none-written : (options : Limits) (place : Place) → (IsHeaded place → ⊥) → migrated_at options place ≡ []
none-written options (InPieces head ps) none = absurd (none tt)
none-written options _ none = refl

unwritten : (head_written : Bool) (place : Place) → (IsHeaded place → ⊥) → IsHeadedIf head_written place → head_written ≡ false
unwritten true place none is = absurd (none is)
unwritten false place none is = refl

written : (head_written : Bool) (place : Place) → IsHeaded place → IsHeadedIf head_written place → head_written ≡ true
written true place is i = refl
written false place is i = absurd (i is)

headed-if : (head_written : Bool) (place other : Place) → (IsHeaded place → ⊥) → (IsHeaded other → ⊥) → IsHeadedIf head_written place → IsHeadedIf head_written other
headed-if true place other none after is = absurd (none is)
headed-if false place other none after is = after

-- all that was read is kept until the head is whole
kept-all : (x used : List ℕ) (old : Recording) → Spells x old → (IsHeaded (place_of old) → ⊥) → kept old ++ used ≡ x ++ used
kept-all x used old i none = ap (λ l. l ++ used) (kept-bare (place_of old) (begun_of old) none ∙ sym i.is)

-- ---- a step behind which something is begun

pub record Keeps (options : Limits) (head_whole : Bool) (after : Option Format) (old new : Recording) (used : List ℕ) : Type 0 where
  pub head_is : IsHeadedIf head_whole (place_of new)
  pub kept_is : kept new ≡ kept old ++ taken after used
  pub written_is : migrated options new ≡ migrated options old

pub keeps : (options : Limits) (head_whole : Bool) (after : Option Format) (x used : List ℕ) (old new : Recording) (side : Option Side) → Spells x old → Spells (x ++ used) new → GoesOn old used side new →
    StartsAt after old → (IsBetween new → ⊥) → IsHeadedIf head_whole (place_of old) → Keeps options head_whole after old new used
keeps options head_whole after x used old new side i j (in_head none bare empty no_history no_side) starts begins is =
    let no_head : IsHeaded (place_of new) → ⊥ = λ h. begins (between new j.sound h empty) in
    record {
      head_is = headed-if head_whole (place_of old) (place_of new) none no_head is;
      kept_is = kept-bare (place_of new) (begun_of new) no_head ∙ sym j.is ∙ sym (kept-all x used old i none) ∙ ap (λ l. kept old ++ l) (sym (plain-taken after old used none starts));
      written_is = none-written options (place_of new) no_head ∙ sym (none-written options (place_of old) none);
    }
keeps options head_whole after x used old new side i j (within e more history may) starts begins is = record {
  head_is = subst (IsHeadedIf head_whole) (sym e) is;
  kept_is = ap (λ p. kept_at p (begun_of new)) e ∙ ap (kept_at (place_of old)) more ∙ kept-taken after old used i.sound starts;
  written_is = ap (migrated_at options) e;
}
keeps options head_whole after x used old new side i j (ends head ps piece e is' bytes history) starts begins is = absurd (begins (head, ps ++ piece ∷ [], is'))

-- ---- a step with which a head or a piece becomes whole

last-piece : (f : Format) (ps : List Piece) (p : Piece) → All (IsPiece f) (ps ++ p ∷ []) → IsPiece f p
last-piece f [] p each = All-head (IsPiece f) p [] each
last-piece f (q ∷ ps) p each = last-piece f ps p (All-tail (IsPiece f) q (ps ++ p ∷ []) each)

-- a piece of either format in the second one
timed-piece : (options : Limits) (head : Head) (p : Piece) → IsPiece (format_of head) p → timed (format_of head) (piece_bytes (format_of head) p) ≡ piece_bytes (format_of (second options head)) p
timed-piece options First p is = ap (λ t. piece_bytes Zkr2 (record { side = p.side; time = t; size = p.size; content = p.content })) (sym is.begun.timed)
timed-piece options (Second c s w f) p is = refl

front-more : (head : Head) (ps qs : List Piece) → front (InPieces head (ps ++ qs)) ≡ front (InPieces head ps) ++ flat_map (piece_bytes (format_of head)) qs
front-more head ps qs =
    ap (λ l. head_bytes head ++ l) (flat_map-append (piece_bytes (format_of head)) ps qs)
    ∙ sym (append_assoc (head_bytes head) (flat_map (piece_bytes (format_of head)) ps) (flat_map (piece_bytes (format_of head)) qs))

front-last : (head : Head) (ps : List Piece) (p : Piece) → front (InPieces head (ps ++ p ∷ [])) ≡ front (InPieces head ps) ++ piece_bytes (format_of head) p
front-last head ps p = front-more head ps (p ∷ []) ∙ ap (λ l. front (InPieces head ps) ++ l) (append-nil (piece_bytes (format_of head) p))

-- the head of the one format, or of the other
headed-whole : (options : Limits) (head : Head) (bytes : List ℕ) → bytes ≡ front (InPieces head []) → front (InPieces (second options head) []) ≡ sent options (format_of head) false bytes
headed-whole options First bytes e = append-nil (head_bytes (head_of options))
headed-whole options (Second c s w p) bytes e = sym e

sent-headed : (options : Limits) (format : Format) (head_whole : Bool) (held : List ℕ) → head_whole ≡ true → sent options format head_whole held ≡ held
sent-headed options Zkr1 true held whole = refl
sent-headed options Zkr2 true held whole = refl
sent-headed options format false held whole = cc

module _ (options : Limits) (head_whole : Bool) (after : Option Format) (x used : List ℕ) (old : Recording) (side : Option Side) (head : Head) (ps : List Piece) where
  abbrev new : Recording
  new = Breaks (InPieces head ps) nothing

  abbrev held : List ℕ
  held = kept old ++ taken after used

  sends-head : Spells x old → Spells (x ++ used) new → (IsHeaded (place_of old) → ⊥) → StartsAt after old → ps ≡ [] → head_whole ≡ false →
      migrated options new ≡ migrated options old ++ sent options (format_of head) head_whole held
  sends-head i j none starts bare not =
      let bytes : held ≡ front (InPieces head []) =
      ap (λ l. kept old ++ l) (plain-taken after old used none starts) ∙ kept-all x used old i none ∙ j.is ∙ append-nil (front (InPieces head ps)) ∙ ap (λ l. front (InPieces head l)) bare in
      ap (λ l. front (InPieces (second options head) l)) bare
      ∙ headed-whole options head held bytes
      ∙ ap (λ w. sent options (format_of head) w held) (sym not)
      ∙ ap (λ l. l ++ sent options (format_of head) head_whole held) (sym (none-written options (place_of old) none))

  sends-piece : (before : List Piece) (piece : Piece) → Spells x old → Spells (x ++ used) new → StartsAt after old → place_of old ≡ InPieces head before → ps ≡ before ++ piece ∷ [] →
      piece_bytes (format_of head) piece ≡ begun_of old ++ used → head_whole ≡ true →
      migrated options new ≡ migrated options old ++ sent options (format_of head) head_whole held
  sends-piece before piece i j starts e last bytes is =
      let f = format_of head in
      let sound : IsPiece f piece = last-piece f before piece (subst (All (IsPiece f)) last j.sound.stands.each) in
      let mine : held ≡ timed f (piece_bytes f piece) =
      sym (kept-taken after old used i.sound starts) ∙ ap (λ q. kept_at q (begun_of old ++ used)) e ∙ ap (timed f) (sym bytes) in
      ap (λ l. front (InPieces (second options head) l)) last
      ∙ front-last (second options head) before piece
      ∙ ap (λ l. front (InPieces (second options head) before) ++ l) (sym (timed-piece options head piece sound))
      ∙ ap (λ l. front (InPieces (second options head) before) ++ l) (sym mine ∙ sym (sent-headed options f head_whole held is))
      ∙ ap (λ q. migrated_at options q ++ sent options f head_whole held) (sym e)

  sends-in : Spells x old → Spells (x ++ used) new → 0 < length used → IsHeadedIf head_whole (place_of old) → StartsAt after old → GoesOn old used side new →
      migrated options new ≡ migrated options old ++ sent options (format_of head) head_whole held
  sends-in i j some is starts (in_head none bare empty no_history no_side) = sends-head i j none starts bare (unwritten head_whole (place_of old) none is)
  sends-in i j some is starts (within e more history may) = absurd (omega (arith, some, ap length more, length-append (begun_of old) used))
  sends-in i j some is starts (ends other before piece e is' bytes history) =
      let same : head ≡ other = cc in
      let last : ps ≡ before ++ piece ∷ [] = cc in
      let at' : place_of old ≡ InPieces head before = e ∙ ap (λ h. InPieces h before) (sym same) in
      sends-piece before piece i j starts at' last (ap (λ h. piece_bytes (format_of h) piece) same ∙ bytes) (written head_whole (place_of old) (subst IsHeaded (sym e) tt) is)

pub record Sends (options : Limits) (head_whole : Bool) (after : Option Format) (format : Format) (old new : Recording) (used : List ℕ) : Type 0 where
  pub head_is : IsHeaded (place_of new)
  pub kept_is : [] ≡ kept new
  pub written_is : migrated options new ≡ migrated options old ++ sent options format head_whole (kept old ++ taken after used)

pub sends : (options : Limits) (head_whole : Bool) (after : Option Format) (format : Format) (x used : List ℕ) (old new : Recording) (side : Option Side) → Spells x old → Spells (x ++ used) new →
    GoesOn old used side new → StartsAt after old → IsBetween new → format_at (place_of new) ≡ Some format → 0 < length used → IsHeadedIf head_whole (place_of old) →
    Sends options head_whole after format old new used
sends options head_whole after format x used old new side i j goes_on starts b f some is =
    let there = Breaks (InPieces b.0 b.1) nothing in
    let format_is : Some (format_of b.0) ≡ Some format = sym (ap (λ r. format_at (place_of r)) b.2) ∙ f in
    let same : format_of b.0 ≡ format = cc in
    let all = sends-in options head_whole after x used old side b.0 b.1 i (subst (Spells (x ++ used)) b.2 j) some is starts (subst (GoesOn old used side) b.2 goes_on) in
    record {
      head_is = subst (λ r. IsHeaded (place_of r)) (sym b.2) tt;
      kept_is = sym (timed-none (format_of b.0)) ∙ ap kept (sym b.2);
      written_is = ap (migrated options) b.2 ∙ all ∙ ap (λ q. migrated options old ++ sent options q head_whole (kept old ++ taken after used)) same;
    }

-- ---- whatever follows, what was written stays a front

choose-stays : (n : ℕ) (head : Head) (ps : List Piece) (w : Walk) → ((qs : List Piece) (rest : List ℕ) → (more : List Piece) × (place_of (parse n head qs rest) ≡ InPieces head (qs ++ more))) →
    (more : List Piece) × (place_of (choose head ps (λ qs rest. parse n head qs rest) w) ≡ InPieces head (ps ++ more))
choose-stays n head ps (Broke b) next = ([], ap (InPieces head) (sym (append-nil ps)))
choose-stays n head ps (Walked vs rest) next =
    let p = piece_with (format_of head) vs in
    let q = with_content p (take (number p.size) rest) in
    elim (nat_lt (length rest) (number p.size)) as (λ b. (more : List Piece) × (place_of (cond b (Ends head ps (with_content p rest)) (parse n head (ps ++ q ∷ []) (drop (number p.size) rest))) ≡ InPieces head (ps ++ more))) [
      | true ↦ ([], ap (InPieces head) (sym (append-nil ps)))
      | false ↦ let m = next (ps ++ q ∷ []) (drop (number p.size) rest) in (q ∷ m.0, m.1 ∙ ap (InPieces head) (append_assoc ps (q ∷ []) m.0))
    ]

stays : (n : ℕ) (head : Head) (ps : List Piece) (rest : List ℕ) → (more : List Piece) × (place_of (parse n head ps rest) ≡ InPieces head (ps ++ more))
stays zero head ps rest = ([], ap (InPieces head) (sym (append-nil ps)))
stays (suc n) head ps rest = choose-stays n head ps (walk (piece_parts (format_of head)) rest) (λ qs left. stays n head qs left)

place-is : (r : Recording) → IsRecording r → IsPlace (place_of r)
place-is (Breaks place b) is = is.stands
place-is (Ends head ps last) is = is.stands

further-in : (options : Limits) (x more : List ℕ) (r new : Recording) (place : Place) → place_of r ≡ place → Spells x r → Spells (x ++ more) new →
    (after : List ℕ) × (migrated options new ≡ migrated options r ++ after)
further-in options x more r new (InPieces head ps) e i j =
    let rest = begun_of r ++ more in
    let n = suc (length rest) in
    let read : front (InPieces head ps) ++ rest ≡ x ++ more =
    sym (append_assoc (front (InPieces head ps)) (begun_of r) more) ∙ ap (λ q. (front q ++ begun_of r) ++ more) (sym e) ∙ ap (λ l. l ++ more) (sym i.is) in
    let g = goes n head ps rest (subst IsPlace e (place-is r i.sound)) (omega arith) in
    let same : new ≡ parse n head ps rest = spells-once (x ++ more) (parse n head ps rest) new (subst (λ l. Spells l (parse n head ps rest)) read g.spells) j in
    let m = stays n head ps rest in (
      flat_map (piece_bytes (format_of (second options head))) m.0,
      ap (migrated options) same ∙ ap (migrated_at options) m.1 ∙ front-more (second options head) ps m.0
          ∙ ap (λ q. migrated_at options q ++ flat_map (piece_bytes (format_of (second options head))) m.0) (sym e),
    )
further-in options x more r new _ e i j = (migrated options new, ap (λ q. migrated_at options q ++ migrated options new) (sym e))

-- a front of what these bytes are migrated to was written
pub record HasMovedIn (options : Limits) (x : List ℕ) (before now : Option (List ℕ)) : Type 0 where
  pub recording : Recording
  pub spells : Spells x recording
  pub written : HasGrownIn before now (migrated options recording)

-- a front of what some bytes are migrated to is one of what longer bytes are
pub moved-further : (options : Limits) (x more : List ℕ) (r : Recording) (before now : Option (List ℕ)) → Spells x r → HasGrownIn before now (migrated options r) → HasMovedIn options (x ++ more) before now
moved-further options x more r before now i grown =
    let j = any (x ++ more) in
    let f = further-in options x more r (recorded (x ++ more)) (place_of r) refl i j in
    record { recording = recorded (x ++ more); spells = j; written = subst (HasGrownIn before now) (sym f.1) (grown-in before now (migrated options r) f.0 grown) }

-- before what is due is written
pub moved-before : (options : Limits) (x : List ℕ) (head_whole : Bool) (due begun : List ℕ) (s : ReaderState) (before now : Option (List ℕ)) →
    (t : HasMoved options x head_whole due begun s before now) → HasGrownIn before now (migrated options t.recording)
moved-before options x head_whole due begun s before now t =
    subst (HasGrownIn before now) (sym t.is) (grown-in before now t.written due (grown-whole before now t.written t.appended))

-- ---- one step

module _ (options : Limits) (x block : List ℕ) (n : ℕ) (head_whole : Bool) (due begun : List ℕ) (s : ReaderState) (before now : Option (List ℕ)) (t : HasMoved options x head_whole due begun s before now)
    (state : ReaderState) (side : Option Side) (reads : (y : List ℕ) (r : Recording) → IsAt s y r → ReadsOn state y r (take n block) side)
    (after : Option Format) (starts : MatchOption after (IsNeverBetween s) (IsBetweenOf s)) where
  on : ReadsOn state x t.recording (take n block) side
  on = reads x t.recording t.at

  start : StartsAt after t.recording
  start = starts-at after s x t.recording starts t.at

  moved-on : IsNeverBetween state → (due_now begun_now : List ℕ) → due_now ≡ due → begun_now ≡ begun ++ taken after (take n block) →
      HasMoved options (x ++ take n block) head_whole due_now begun_now state before now
  moved-on none due_now begun_now d e =
      let k = keeps options head_whole after x (take n block) t.recording on.new side t.at.spells on.is.spells on.goes_on start (none _ on.new on.is) t.head_is in
      record {
        recording = on.new;
        at = on.is;
        head_is = k.head_is;
        begun_is = e ∙ ap (λ l. l ++ taken after (take n block)) t.begun_is ∙ sym k.kept_is;
        written = t.written;
        is = k.written_is ∙ t.is ∙ ap (λ l. t.written ++ l) (sym d);
        appended = t.appended;
      }

  moved-all : (format : Format) → IsBetweenOf state format → 0 < length (take n block) → (due_now begun_now : List ℕ) →
      due_now ≡ due ++ sent options format head_whole (begun ++ taken after (take n block)) → begun_now ≡ [] →
      HasMoved options (x ++ take n block) true due_now begun_now state before now
  moved-all format whole some due_now begun_now d e =
      let w = whole _ on.new on.is in
      let k = sends options head_whole after format x (take n block) t.recording on.new side t.at.spells on.is.spells on.goes_on start w.0 w.1 some t.head_is in
      let text : List ℕ → List ℕ = λ l. sent options format head_whole (l ++ taken after (take n block)) in
      record {
        recording = on.new;
        at = on.is;
        head_is = k.head_is;
        begun_is = e ∙ k.kept_is;
        written = t.written;
        is = k.written_is ∙ ap (λ l. l ++ text (kept t.recording)) t.is ∙ append_assoc t.written due (text (kept t.recording))
            ∙ ap (λ l. t.written ++ (due ++ text l)) (sym t.begun_is) ∙ ap (λ l. t.written ++ l) (sym d);
        appended = t.appended;
      }

-- the same, of what is held in one list up to a mark and behind it
module _ (options : Limits) (x block : List ℕ) (n : ℕ) (head_whole : Bool) (mark : ℕ) (held : List ℕ) (within_held : mark ≤ length held) (s : ReaderState) (before now : Option (List ℕ))
    (t : HasMoved options x head_whole (take mark held) (drop mark held) s before now)
    (state : ReaderState) (side : Option Side) (reads : (y : List ℕ) (r : Recording) → IsAt s y r → ReadsOn state y r (take n block) side)
    (after : Option Format) (starts : MatchOption after (IsNeverBetween s) (IsBetweenOf s))
    (more : List ℕ) (more_is : more ≡ held ++ taken after (take n block)) where
  before-mark : take mark more ≡ take mark held
  before-mark = ap (take mark) more_is ∙ take-append-le mark held (taken after (take n block)) within_held

  behind-mark : drop mark more ≡ drop mark held ++ taken after (take n block)
  behind-mark = ap (drop mark) more_is ∙ drop-append-le mark held (taken after (take n block)) within_held

  pub held-on : IsNeverBetween state → HasMoved options (x ++ take n block) head_whole (take mark more) (drop mark more) state before now
  held-on none = moved-on options x block n head_whole (take mark held) (drop mark held) s before now t state side reads after starts none (take mark more) (drop mark more) before-mark behind-mark

  pub held-all : (format : Format) → IsBetweenOf state format → 0 < length (take n block) → (all : List ℕ) → all ≡ take mark more ++ sent options format head_whole (drop mark more) →
      (end : ℕ) → end ≡ length all → HasMoved options (x ++ take n block) true (take end all) (drop end all) state before now
  held-all format whole some all all_is end end_is =
      moved-all options x block n head_whole (take mark held) (drop mark held) s before now t state side reads after starts format whole some (take end all) (drop end all)
      (ap (λ i. take i all) end_is ∙ take-length all ∙ all_is ∙ ap (λ l. l ++ sent options format head_whole (drop mark more)) before-mark ∙ ap (λ l. take mark held ++ sent options format head_whole l) behind-mark)
      (ap (λ i. drop i all) end_is ∙ drop-length all)

-- ---- a piece that is whole at the front of a block

taken-parts : (after : Option Format) (head content : List ℕ) → (head ≡ [] → ⊥) → taken after (head ++ content) ≡ taken after head ++ content
taken-parts None head content some = refl
taken-parts (Some f) head content some = timed-more f head content some

module _ (options : Limits) (x block : List ℕ) (head used : ℕ) (some : 0 < head) (order : head < used) (within_block : used ≤ length block)
    (head_whole : Bool) (mark : ℕ) (held : List ℕ) (within_held : mark ≤ length held) (s : ReaderState) (before now : Option (List ℕ))
    (t : HasMoved options x head_whole (take mark held) (drop mark held) s before now)
    (state : ReaderState) (side : Side) (reads : ReadsPiece s (take head block) (take (used - head) (drop head block)) side state)
    (after : Option Format) (starts : MatchOption after (IsNeverBetween s) (IsBetweenOf s))
    (more : List ℕ) (more_is : more ≡ held ++ taken after (take used block)) where
  abbrev content : List ℕ
  content = take (used - head) (drop head block)

  abbrev between_them : List ℕ
  between_them = held ++ taken after (take head block)

  parts : take used block ≡ take head block ++ content
  parts = ap (λ n. take n block) (let e : used ≡ head + (used - head) = omega (arith, order) in e) ∙ take-add head (used - head) block

  headed : head_whole ≡ true
  headed = let b = (reads.before x t.recording t.at).0 in written head_whole (place_of t.recording) (subst (λ r. IsHeaded (place_of r)) (sym b.2) tt) t.head_is

  more_parts : more ≡ between_them ++ content
  more_parts =
      let some_head : take head block ≡ [] → ⊥ = λ none. omega (arith, ap length none, length-take head block, some, order, within_block) in
      more_is ∙ ap (λ l. held ++ taken after l) parts ∙ ap (λ l. held ++ l) (taken-parts after (take head block) content some_head) ∙ sym (append_assoc held (taken after (take head block)) content)

  pub held-piece : (end : ℕ) → end ≡ length more → HasMoved options (x ++ take used block) head_whole (take end more) (drop end more) state before now
  held-piece end end_is =
      let first = held-on options x block head head_whole mark held within_held s before now t reads.within None reads.begins after starts between_them refl reads.apart in
      let enough : mark ≤ length between_them = omega (arith, within_held, length-append held (taken after (take head block))) in
      let length_is : 0 < length content = omega (arith, order, within_block, length-take (used - head) (drop head block), length-drop head block) in
      let all : more ≡ take mark more ++ sent options reads.format head_whole (drop mark more) =
      sym (take-append-drop mark more) ∙ ap (λ l. take mark more ++ l) (sym (sent-headed options reads.format head_whole (drop mark more) headed)) in
      let second = held-all options (x ++ take head block) (drop head block) (used - head) head_whole mark between_them enough reads.within before now first state (Some side) reads.ends None reads.apart
      more more_parts reads.format reads.after length_is more all end end_is in
      let whole = subst (λ b. HasMoved options ((x ++ take head block) ++ content) b (take end more) (drop end more) state before now) (sym headed) second in
      subst (λ y. HasMoved options y head_whole (take end more) (drop end more) state before now) (append_assoc x (take head block) content ∙ ap (λ l. x ++ l) (sym parts)) whole
