-- What a recording of the first format is migrated to is listed as it is.
use Rattle.std.proofs.Common.{◌≡◌, ℕ, ◌<◌, List, [], ◌∷◌, length, None, Some, true, refl, sym, ap, ◌∙◌, subst, append-nil, arith}
use Rattle.std.specs.{List.All, Option.option_map, Int.w32, Int.to_be_bytes}
use Rattle.zk_talk.specs.declared.limits.Limits.{Limits}
use Rattle.zk_records.specs.{declared.profile.Profile.Profile as ProfileType, Codes.profile_number, Codes.profile_of}
use Rattle.zk_records.proofs.Numbers.{profile_again}
use Rattle.std.specs.Prelude.{Option, unwrap_or, is_some, ◌^◌}
use Rattle.zk_records.specs.declared.profile.Profile.TheVariants.{V34}
use Rattle.zk_recordings.specs.{declared.parts.Damage.Damage, declared.parts.Damage.TheVariants.Short, declared.parts.Format.Format, declared.parts.Format.TheVariants.Zkr1, declared.parts.Format.TheVariants.Zkr2, declared.parts.Part.Part}
use Rattle.zk_recordings.specs.declared.parts.Part.TheVariants.{SideByte, Time, Size}
use Rattle.zk_recordings.specs.{Parts.number, Parts.long_number, Parts.is_good, Parts.damage_cut, Parts.piece_parts, HeadLimits.profile_by}
use Rattle.zk_recordings.specs.Recording.{End, Cut, Bad, IsBreakIn, Head, First, Second, IsHead, Piece, IsPiece, no_time, InPieces, AreIn, Recording, Breaks, Ends, IsRecording, bytes_of, Spells, place_of, front, behind, damage_at, end_damage, history_of, limits_of, damage_of, nothing}
use Rattle.zk_listings.specs.Outcome.{IsOutcome}
use Rattle.zk_listings.proofs.Lasting.{same-outcome}
use Rattle.zk_runs.specs.Migrating.{head_of, migrated, ListsAs, IsOf, IsWhole}
use Rattle.zk_recordings.proofs.{Accepts.limits-some, Once.spells-once}
use Rattle.zk_runs.proofs.{Moves.break_with, Rebuilds.number_of, Rebuilds.number_good}

-- ---- the head of some limits

profile-small : (p : ProfileType) → profile_number p < 2 ^ 32
profile-small V34 = omega arith
profile-small _ = omega arith

number-profile : (p : ProfileType) → number (to_be_bytes w32 (profile_number p)) ≡ profile_number p
number-profile p = number_of (profile_number p) (profile-small p)

profile-back : (p : ProfileType) → p ≡ profile_by (profile_number p)
profile-back p = ap (λ (o : Option ProfileType). unwrap_or o V34) (sym (profile_again p))

profile-good : (p : ProfileType) → is_some (profile_of (profile_number p)) ≡ true
profile-good p = ap is_some (profile_again p)

head-is : (limits : Limits) → IsHead (head_of limits)
head-is limits =
    let r = limits.in_range in (
      record { wide = refl; good = number_good limits.client 64 16777216 r.0 r.1 (omega (arith, r.1)) },
      (
        record { wide = refl; good = number_good limits.server 64 16777216 r.2 r.3 (omega (arith, r.3)) },
        (
          record { wide = refl; good = number_good limits.waiting 1 1048576 r.4 r.5 (omega (arith, r.5)) },
          (record { wide = refl; good = ap (λ n. is_some (profile_of n)) (number-profile limits.profile) ∙ profile-good limits.profile }, tt),
        ),
      ),
    )

-- ---- the pieces

long-zero : is_good Time no_time ≡ true
unfolding long_number
long-zero = refl

piece-is : (p : Piece) → IsPiece Zkr1 p → IsPiece Zkr2 p
piece-is p is = record {
  begun = record {
    values = (is.begun.values.0, (record { wide = ap length is.begun.timed; good = ap (is_good Time) is.begun.timed ∙ long-zero }, (is.begun.values.1.0, tt)));
    timed = tt;
  };
  sized = is.sized;
}

pieces-are : (ps : List Piece) → All (IsPiece Zkr1) ps → All (IsPiece Zkr2) ps
pieces-are ps each = λ k d lt. piece-is _ (each k d lt)

-- ---- an undamaged recording

none-begun : (begun : List ℕ) → length begun < 1 → begun ≡ []
none-begun [] less = refl
none-begun (b ∷ begun) less = absurd (omega (arith, less))

short-part : (place : ℕ) (part other : Part) (d : Damage) → part ≡ other → damage_cut other ≡ Some d → option_map (damage_at place) (damage_cut part) ≡ None → ⊥
short-part place part other d e f none =
    let some : option_map (damage_at place) (damage_cut part) ≡ Some (damage_at place d) = ap (λ q. option_map (damage_at place) (damage_cut q)) e ∙ ap (option_map (damage_at place)) f in
    absurd cc

whole-break : (f : Format) (place : ℕ) (before : List (List ℕ)) (part : Part) (end : End) → IsBreakIn (piece_parts f) before part end → end_damage place part end ≡ None →
    break_with before part end ≡ nothing
whole-break f place before part (Bad value more) is none = absurd cc
whole-break Zkr1 place [] part (Cut begun) is none = ap (λ q. break_with [] q (Cut begun)) is.0 ∙ ap (λ l. break_with [] SideByte (Cut l)) (none-begun begun is.1)
whole-break Zkr1 place (v ∷ []) part (Cut begun) is none = absurd (short-part place part Size Short is.1.0 refl none)
whole-break Zkr1 place (v ∷ u ∷ vs) part (Cut begun) is none = absurd is.1.1
whole-break Zkr2 place [] part (Cut begun) is none = ap (λ q. break_with [] q (Cut begun)) is.0 ∙ ap (λ l. break_with [] SideByte (Cut l)) (none-begun begun is.1)
whole-break Zkr2 place (v ∷ []) part (Cut begun) is none = absurd (short-part place part Time Short is.1.0 refl none)
whole-break Zkr2 place (v ∷ u ∷ []) part (Cut begun) is none = absurd (short-part place part Size Short is.1.1.0 refl none)
whole-break Zkr2 place (v ∷ u ∷ w ∷ vs) part (Cut begun) is none = absurd is.1.1.1

-- it ends behind its pieces
record EndsWhole (r : Recording) (head : Head) : Type 0 where
  pieces : List Piece
  are : AreIn head pieces
  is : r ≡ Breaks (InPieces head pieces) nothing

whole-first : (r : Recording) → IsRecording r → damage_of r ≡ None → IsOf Zkr1 (place_of r) → EndsWhole r First
whole-first (Breaks (InPieces First ps) b) is none first =
    record { pieces = ps; are = is.stands; is = ap (λ q. Breaks (InPieces First ps) q) (whole-break Zkr1 (behind (InPieces First ps) b.before) b.before b.part b.end is.breaks none) }
whole-first (Breaks (InPieces (Second c s w p) ps) b) is none first = absurd cc
whole-first (Breaks _ b) is none first = absurd first
whole-first (Ends head ps last) is none first = absurd cc

-- ---- what it is migrated to

-- a recording with the same limits, history and damage has the same listing
lists-as : (one two : Limits) (x y : List ℕ) (r s : Recording) → Spells x r → Spells y s → limits_of two s ≡ limits_of one r → history_of s ≡ history_of r → damage_of s ≡ damage_of r → ListsAs one x two y
lists-as one two x y r s p q l h d = λ listing text i.
    let o = subst (λ z. IsOutcome one z i.messages i.summary) (spells-once x r i.recording p i.spells) i.is in
    record { recording = s; messages = i.messages; summary = i.summary; spells = q; is = same-outcome one two r s i.messages i.summary l h d o; text_is = i.text_is }

module _ (options other : Limits) (x : List ℕ) (r : Recording) (whole : IsWhole Zkr1 x r) where
  ended : EndsWhole r First
  ended = whole-first r whole.spells.sound whole.undamaged whole.format_is

  abbrev new : Recording
  new = Breaks (InPieces (head_of options) ended.pieces) nothing

  spells-new : Spells (migrated options r) new
  spells-new = record {
    sound = record { stands = record { headed = head-is options; each = pieces-are ended.pieces ended.are.each }; breaks = (refl, omega arith) };
    is = ap (migrated options) ended.is ∙ sym (append-nil (front (InPieces (head_of options) ended.pieces)));
  }

  limits-back : limits_of other new ≡ limits_of options r
  limits-back =
      let range = options.in_range in
      let c = number_of options.client (omega (arith, range.1)) in
      let s = number_of options.server (omega (arith, range.3)) in
      let w = number_of options.waiting (omega (arith, range.5)) in
      sym (ap (limits_of options) ended.is ∙ limits-some options _ _ _ _ (sym c, sym s, sym w) (profile-back options.profile ∙ ap profile_by (sym (number-profile options.profile)))
      (omega (arith, range.0, c), omega (arith, range.1, c), omega (arith, range.2, s), omega (arith, range.3, s), omega (arith, range.4, w), omega (arith, range.5, w)) other)

  pub listed : ListsAs options x other (migrated options r)
  listed = lists-as options other x _ r new whole.spells spells-new limits-back (sym (ap history_of ended.is)) (sym (ap damage_of ended.is))

  pub listed-back : ListsAs other (migrated options r) options x
  listed-back = lists-as other options _ x new r spells-new whole.spells (sym limits-back) (ap history_of ended.is) (ap damage_of ended.is)

-- ---- a recording of the second format stays as it is

same-in : (options : Limits) (r : Recording) → IsRecording r → damage_of r ≡ None → IsOf Zkr2 (place_of r) → migrated options r ≡ bytes_of r
same-in options (Breaks (InPieces First ps) b) is none second = absurd cc
same-in options (Breaks (InPieces (Second c s w p) ps) b) is none second =
    let place = InPieces (Second c s w p) ps in
    sym (append-nil (front place)) ∙ ap (λ q. bytes_of (Breaks place q)) (sym (whole-break Zkr2 (behind place b.before) b.before b.part b.end is.breaks none))
same-in options (Breaks _ b) is none second = absurd second
same-in options (Ends head ps last) is none second = absurd cc

pub same : (options : Limits) (x : List ℕ) (r : Recording) → IsWhole Zkr2 x r → migrated options r ≡ x
same options x r w = same-in options r w.spells.sound w.undamaged w.format_is ∙ sym w.spells.is
