-- One step of the reader of recordings.
use Rattle.std.proofs.Common.{◌≡◌, ◌≢◌, ℕ, ◌+◌, ◌<◌, ◌≤◌, List, [], ◌∷◌, ◌++◌, length, take, set, None, Some, false, refl, sym, ap, ◌∙◌, subst, append_assoc, append-nil, arith, length-append, length-take}
use Rattle.std.proofs.{lemmas.List.take_more_set, lemmas.List.map-append, lemmas.Option.none-some, Math.ListN.length-set}
use Rattle.zk_talk.specs.History.{on}
use Rattle.zk_recordings.specs.{declared.parts.Damage.TheVariants.Short, declared.parts.DamageAt.DamageAt, declared.parts.Format.Format, declared.parts.Format.TheVariants.Zkr1, declared.parts.Format.TheVariants.Zkr2}
use Rattle.zk_recordings.specs.{declared.parts.Part.Part, Reader.Content, Reader.Damaged, Reader.Fixed, Reader.ReaderStage, Reader.ReaderState, Parts.width, Parts.is_good, Parts.damage_bad, Parts.head_parts, Parts.piece_parts}
use Rattle.zk_recordings.specs.declared.parts.Part.TheVariants.{Letters, SideByte, Time, Size}
use Rattle.zk_recordings.specs.Recording.{spelled, End, Cut, Bad, IsEnd, end_bytes, Break, IsBreakIn, IsBreak, Head, First, Second, format_of, Piece, piece_values, IsPiece, piece_bytes, piece_history, Place, AtLetters, InHead, InPieces, parts_at, front, Recording, Breaks, Ends, Spells, place_of, begun_of, begun_history, damage_at, behind, nothing}
use Rattle.zk_recordings.specs.Reading.{chosen, HasHead, HasHeadAt, Knows, AtPart, AtFixed, AtContent, IsDecidedBy, AtStage, IsAt, then_at, MayHold, within, ends, ReadsOn}
use Rattle.zk_recordings.proofs.{Any.same-values, Any.begun-with, Any.bytes-with, Any.front-snoc, Any.are-snoc, Walks.spelled-append, Walks.length-spelled}

-- cut within a part
abbrev pub cut_in : Place → List (List ℕ) → Part → List ℕ → Recording
cut_in place before part begun = Breaks place (record { before = before; part = part; end = Cut begun })

-- ---- what stays as the reader goes on

pub has-same : (s t : ReaderState) (place : Place) → t.format ≡ s.format → t.limits ≡ s.limits → HasHeadAt s place → HasHeadAt t place
has-same s t AtLetters f l has = tt
has-same s t (InHead format) f l has = f ∙ has
has-same s t (InPieces head pieces) f l has = record { format_is = f ∙ has.format_is; limits_are = λ options. ap (λ o. chosen o options) l ∙ has.limits_are options }

knows-same : (s : ReaderState) (stage : ReaderStage) (place : Place) (before : List (List ℕ)) (part : Part) → Knows s place before part → Knows (record s { stage = stage }) place before part
knows-same s stage place before Time k = record { within = k.within; second = k.second; values = k.values }
knows-same s stage place before Size k = record { within = k.within; time = k.time; timed = k.timed; values = k.values }
knows-same s stage place before _ k = k

end-swap : (ps : List Part) (before : List (List ℕ)) (part : Part) (e f : End) → IsBreakIn ps before part e → IsEnd part f → IsBreakIn ps before part f
end-swap [] before part e f is new = absurd is
end-swap (p ∷ ps) [] part e f is new = (is.0, subst (λ q. IsEnd q f) is.0 new)
end-swap (p ∷ ps) (v ∷ vs) part e f is new = (is.0, end-swap ps vs part e f is.1 new)

no-content : (r : Recording) (place : Place) (b : Break) → r ≡ Breaks place b → [] ≡ begun_history r ++ []
no-content r place b e = ap (λ q. begun_history q ++ []) (sym e)

pub spelled-snoc : (vs : List (List ℕ)) (v rest : List ℕ) → spelled (vs ++ v ∷ []) rest ≡ spelled vs (v ++ rest)
spelled-snoc [] v rest = refl
spelled-snoc (u ∷ vs) v rest = ap (λ l. u ++ l) (spelled-snoc vs v rest)

end-of : (ps : List Part) (before : List (List ℕ)) (part : Part) (value more later : List ℕ) → IsBreakIn ps before part (Bad value more) → IsEnd part (Bad value later)
end-of [] before part value more later is = absurd is
end-of (p ∷ ps) [] part value more later is = subst (λ q. IsEnd q (Bad value later)) (sym is.0) is.1
end-of (p ∷ ps) (v ∷ vs) part value more later is = end-of ps vs part value more later is.1

pub at-side : (head : Head) → IsBreak (piece_parts (format_of head)) nothing
at-side First = (refl, omega arith)
at-side (Second c s w p) = (refl, omega arith)

-- the recording ends otherwise, with more bytes
module _ (x more : List ℕ) (place : Place) (before : List (List ℕ)) (part : Part) (e f : End) (i : Spells x (Breaks place (record { before = before; part = part; end = e })))
    (is : IsEnd part f) (bytes : end_bytes f ≡ end_bytes e ++ more) where
  pub begun-end : spelled before (end_bytes f) ≡ spelled before (end_bytes e) ++ more
  begun-end = ap (spelled before) bytes ∙ sym (spelled-append before (end_bytes e) more)

  pub spells-end : Spells (x ++ more) (Breaks place (record { before = before; part = part; end = f }))
  spells-end = record {
    sound = record { stands = i.sound.stands; breaks = end-swap (parts_at place) before part e f i.sound.breaks is };
    is = ap (λ l. l ++ more) i.is ∙ append_assoc (front place) (spelled before (end_bytes e)) more ∙ ap (λ l. front place ++ l) (sym begun-end);
  }

-- ---- a byte of a part

-- one more byte, and the part isn't whole
pub part-more : (s : ReaderState) (part : Part) (bytes : List ℕ) (got b : ℕ) (x : List ℕ) (r : Recording) → got + 1 < width part → width part ≤ 8 →
    Spells x r → HasHeadAt s (place_of r) → AtFixed s part bytes got r → ReadsOn (record s { stage = Fixed part (set bytes got b) (got + 1) }) x r (b ∷ []) None
part-more s part bytes got b x r less most i has at' =
    let p = at'.part_at in
    let e = Cut (take got bytes) in
    let f = Cut (take (got + 1) (set bytes got b)) in
    let j = subst (Spells x) p.is i in
    let again : take (got + 1) (set bytes got b) ≡ take got bytes ++ b ∷ [] = take_more_set bytes got b (omega (arith, less, most, at'.eight)) in
    let short : length (take (got + 1) (set bytes got b)) < width part = omega (arith, less, length-take (got + 1) (set bytes got b)) in
    record {
      new = Breaks p.place (record { before = p.before; part = part; end = f });
      is = record {
        spells = spells-end x (b ∷ []) p.place p.before part e f j short again;
        has = has-same s _ p.place refl refl (subst (λ q. HasHeadAt s (place_of q)) p.is has);
        stands = record {
          eight = length-set bytes got b ∙ at'.eight;
          part_at = record { place = p.place; before = p.before; is = refl; at = p.at; knows = knows-same s _ p.place p.before part p.knows };
        };
      };
      goes_on = within (ap place_of (sym p.is)) (begun-end x (b ∷ []) p.place p.before part e f j short again ∙ ap (λ q. begun_of q ++ b ∷ []) (sym p.is)) (no-content r p.place _ p.is) tt;
    }

-- ---- a value that is not good

bad-not_short : (part : Part) → damage_bad part ≢ Short
bad-not_short Letters = λ e. cc
bad-not_short _ = λ e. cc

-- a value that is not good stands behind four bytes, or has them
bad-read : (place : Place) (before : List (List ℕ)) (part : Part) (v : List ℕ) → IsBreak (parts_at place) (record { before = before; part = part; end = Bad v [] }) →
    4 ≤ length (front place ++ spelled before (v ++ []))
bad-read AtLetters [] part v is = omega (arith, is.1.0, ap width is.0, length-append v [])
bad-read AtLetters (u ∷ us) part v is = absurd is.1
bad-read (InHead Zkr1) before part v is = absurd is
bad-read (InHead Zkr2) before part v is = omega arith
bad-read (InPieces First pieces) before part v is = omega arith
bad-read (InPieces (Second c s w p) pieces) before part v is = omega arith

pub part-bad : (s : ReaderState) (part : Part) (begun v : List ℕ) (b : ℕ) (x : List ℕ) (r : Recording) → begun ++ b ∷ [] ≡ v → length v ≡ width part → is_good part v ≡ false →
    Spells x r → HasHeadAt s (place_of r) → AtPart s part begun r → ReadsOn (record s { stage = Damaged (record { offset = s.at; reason = damage_bad part }) }) x r (b ∷ []) None
part-bad s part begun v b x r again wide bad i has p =
    let j = subst (Spells x) p.is i in
    let f = Bad v [] in
    let same : v ++ [] ≡ begun ++ b ∷ [] = append-nil v ∙ sym again in
    let k = spells-end x (b ∷ []) p.place p.before part (Cut begun) f j (wide, bad) same in
    record {
      new = Breaks p.place (record { before = p.before; part = part; end = f });
      is = record {
        spells = k;
        has = has-same s _ p.place refl refl (subst (λ q. HasHeadAt s (place_of q)) p.is has);
        stands = record {
          damage = ap (λ n. Some (record { offset = n; reason = damage_bad part })) (sym p.at);
          decided = bad-not_short part;
          head_read = subst (λ l. 4 ≤ length l) (sym k.is) (bad-read p.place p.before part v k.sound.breaks);
        };
      };
      goes_on = within (ap place_of (sym p.is)) (begun-end x (b ∷ []) p.place p.before part (Cut begun) f j (wide, bad) same ∙ ap (λ q. begun_of q ++ b ∷ []) (sym p.is)) (no-content r p.place _ p.is) tt;
    }

-- ---- a good value

-- the next part of a head's numbers, or of a piece
module _ (s : ReaderState) (place : Place) (before : List (List ℕ)) (part : Part) (begun v : List ℕ) (b : ℕ) (x : List ℕ)
    (i : Spells x (Breaks place (record { before = before; part = part; end = Cut begun }))) (again : begun ++ b ∷ [] ≡ v) (at' : s.at ≡ behind place before) (wide : length v ≡ width part) where
  pub next-bytes : spelled (before ++ v ∷ []) [] ≡ spelled before begun ++ b ∷ []
  next-bytes = spelled-snoc before v [] ∙ ap (spelled before) (append-nil v ∙ sym again) ∙ sym (spelled-append before begun (b ∷ []))

  pub to-next : (t : ReaderState) (next : Part) → t ≡ then_at s next (width part) → HasHeadAt s place → IsBreak (parts_at place) (record { before = before ++ v ∷ []; part = next; end = Cut [] }) →
      Knows (then_at s next (width part)) place (before ++ v ∷ []) next → ReadsOn t x (Breaks place (record { before = before; part = part; end = Cut begun })) (b ∷ []) None
  to-next t next e has breaks knows = subst (λ u. ReadsOn u x (Breaks place (record { before = before; part = part; end = Cut begun })) (b ∷ []) None) (sym e) (record {
    new = Breaks place (record { before = before ++ v ∷ []; part = next; end = Cut [] });
    is = record {
      spells = record {
        sound = record { stands = i.sound.stands; breaks = breaks };
        is = ap (λ l. l ++ b ∷ []) i.is ∙ append_assoc (front place) (spelled before begun) (b ∷ []) ∙ ap (λ l. front place ++ l) (sym next-bytes);
      };
      has = has-same s _ place refl refl has;
      stands = record {
        eight = refl;
        part_at = record {
          place = place;
          before = before ++ v ∷ [];
          is = refl;
          at = omega (arith, at', wide, ap length (spelled-snoc before v []), length-spelled before (v ++ []), length-append v []);
          knows = knows;
        };
      };
    };
    goes_on = within refl next-bytes refl tt;
  })

-- ---- content

module _ (s : ReaderState) (got : ℕ) (x part : List ℕ) (r : Recording) (i : Spells x r) (has : HasHeadAt s (place_of r)) (c : AtContent s got r) where
  begun : Spells x (Ends c.head c.pieces c.cut)
  begun = subst (Spells x) c.is i

  grown : Piece
  grown = record { side = c.cut.side; time = c.cut.time; size = c.cut.size; content = c.cut.content ++ part }

  has-here : HasHead s c.head
  has-here = subst (λ q. HasHeadAt s (place_of q)) c.is has

  grown-bytes : piece_bytes (format_of c.head) grown ≡ begun_of r ++ part
  unfolding grown
  grown-bytes =
      bytes-with (format_of c.head) c.cut (c.cut.content ++ part)
      ∙ sym (spelled-append (piece_values (format_of c.head) c.cut) c.cut.content part)
      ∙ ap (λ q. begun_of q ++ part) (sym c.is)

  grown-history : piece_history grown ≡ begun_history r ++ on s.side part
  unfolding grown
  grown-history =
      map-append (λ (v : ℕ). (c.cut.side, v)) c.cut.content part
      ∙ ap (λ z. piece_history c.cut ++ on z part) c.side
      ∙ ap (λ q. begun_history q ++ on s.side part) (sym c.is)

  grown-read : x ++ part ≡ front (InPieces c.head c.pieces) ++ piece_bytes (format_of c.head) grown
  grown-read =
      ap (λ l. l ++ part) (begun.is ∙ ap (λ q. front (InPieces c.head c.pieces) ++ begun_of q) (sym c.is))
      ∙ append_assoc (front (InPieces c.head c.pieces)) (begun_of r) part
      ∙ ap (λ l. front (InPieces c.head c.pieces) ++ l) (sym grown-bytes)

  holds : MayHold (Some s.side) (place_of r)
  holds = subst (λ q. MayHold (Some s.side) (place_of q)) (sym c.is) tt

  -- the content isn't whole with these bytes
  pub content-more : got + length part < s.size → ReadsOn (record s { stage = Content (got + length part) }) x r part (Some s.side)
  unfolding grown
  content-more less = record {
    new = Ends c.head c.pieces grown;
    is = record {
      spells = record {
        sound = record {
          stands = begun.sound.stands;
          cut = record {
            begun = begun-with (format_of c.head) c.cut (c.cut.content ++ part) begun.sound.cut.begun;
            short = omega (arith, less, c.count, c.size, length-append c.cut.content part);
          };
        };
        is = grown-read;
      };
      has = record { format_is = has-here.format_is; limits_are = has-here.limits_are };
      stands = record {
        head = c.head;
        pieces = c.pieces;
        cut = grown;
        is = refl;
        at = c.at ∙ ap (λ vs. behind (InPieces c.head c.pieces) vs) (sym (same-values (format_of c.head) c.cut (c.cut.content ++ part)));
        side = c.side;
        size = c.size;
        count = omega (arith, c.count, length-append c.cut.content part);
      };
    };
    goes_on = within (sym (ap place_of c.is)) grown-bytes grown-history holds;
  }

  -- it is whole with these bytes
  pub content-whole : got + length part ≡ s.size → ReadsOn (then_at s SideByte s.size) x r part (Some s.side)
  unfolding grown
  content-whole all =
      let f = format_of c.head in
      let is : IsPiece f grown = record {
        begun = begun-with f c.cut (c.cut.content ++ part) begun.sound.cut.begun;
        sized = omega (arith, all, c.count, c.size, length-append c.cut.content part);
      } in
      let whole : front (InPieces c.head (c.pieces ++ grown ∷ [])) ++ [] ≡ front (InPieces c.head c.pieces) ++ (piece_bytes f grown ++ []) = front-snoc c.head c.pieces grown [] in
      record {
        new = Breaks (InPieces c.head (c.pieces ++ grown ∷ [])) nothing;
        is = record {
          spells = record {
            sound = record { stands = are-snoc c.head c.pieces grown begun.sound.stands is; breaks = at-side c.head };
            is = grown-read ∙ ap (λ l. front (InPieces c.head c.pieces) ++ l) (sym (append-nil (piece_bytes f grown))) ∙ sym whole;
          };
          has = record { format_is = has-here.format_is; limits_are = has-here.limits_are };
          stands = record {
            eight = refl;
            part_at = record {
              place = InPieces c.head (c.pieces ++ grown ∷ []);
              before = [];
              is = refl;
              at = omega (
                arith,
                all,
                c.count,
                c.size,
                c.at,
                ap length whole,
                length-append (front (InPieces c.head (c.pieces ++ grown ∷ []))) [],
                length-append (front (InPieces c.head c.pieces)) (piece_bytes f grown ++ []),
                length-append (piece_bytes f grown) [],
                ap length (bytes-with f c.cut (c.cut.content ++ part)),
                length-spelled (piece_values f c.cut) (c.cut.content ++ part),
                length-append c.cut.content part,
              );
              knows = (record { head = c.head; pieces = c.pieces ++ grown ∷ []; is = refl }, refl);
            };
          };
        };
        goes_on = ends c.head c.pieces grown (ap place_of c.is) refl grown-bytes grown-history;
      }

-- ---- behind a damage

-- letters stand first alone
abbrev Lacks : List Part → Type 0
Lacks [] = Unit {0}
Lacks (p ∷ ps) = (Letters ≡ p → ⊥) × Lacks ps

no-letters : (ps : List Part) (before : List (List ℕ)) (end : End) → Lacks ps → IsBreakIn ps before Letters end → ⊥
no-letters [] before end l is = is
no-letters (p ∷ ps) [] end l is = l.0 is.0
no-letters (p ∷ ps) (v ∷ vs) end l is = no-letters ps vs end l.1 is.1

lacks-head : (f : Format) → Lacks (head_parts f)
lacks-head Zkr1 = tt
lacks-head Zkr2 = (λ e. cc, (λ e. cc, (λ e. cc, (λ e. cc, tt))))

lacks-piece : (f : Format) → Lacks (piece_parts f)
lacks-piece Zkr1 = (λ e. cc, (λ e. cc, tt))
lacks-piece Zkr2 = (λ e. cc, (λ e. cc, (λ e. cc, tt)))

-- four bytes are no beginning of letters
letters-read : (x begun : List ℕ) (place : Place) (before : List (List ℕ)) → Spells x (cut_in place before Letters begun) → 4 ≤ length x → ⊥
letters-read x begun AtLetters [] s long = absurd (omega (arith, long, ap length s.is, s.sound.breaks.1))
letters-read x begun AtLetters (v ∷ vs) s long = s.sound.breaks.1
letters-read x begun (InHead f) before s long = no-letters (head_parts f) before (Cut begun) (lacks-head f) s.sound.breaks
letters-read x begun (InPieces head pieces) before s long = no-letters (piece_parts (format_of head)) before (Cut begun) (lacks-piece (format_of head)) s.sound.breaks

pub short-only : (place : ℕ) (d : DamageAt) → Some (damage_at place Short) ≡ Some d → d.reason ≢ Short → ⊥
short-only place d e n = let same : damage_at place Short ≡ d = cc in n (sym (ap (λ (v : DamageAt). v.reason) same))

cut-only : (d : DamageAt) (x begun : List ℕ) (place : Place) (before : List (List ℕ)) (part : Part) → Spells x (cut_in place before part begun) → IsDecidedBy d x (cut_in place before part begun) → ⊥
cut-only d x begun place before Letters s i = letters-read x begun place before s i.head_read
cut-only d x begun place before SideByte s i = none-some d i.damage
cut-only d x begun place before _ s i = short-only (behind place before) d i.damage i.decided

module _ (d : DamageAt) (x more : List ℕ) where
  -- a longer recording has the damage too
  abbrev Stays : Recording → Type 0
  Stays r = (new : Recording) × Spells (x ++ more) new × IsDecidedBy d (x ++ more) new × (place_of new ≡ place_of r) × (begun_of new ≡ begun_of r ++ more) × (begun_history new ≡ begun_history r ++ [])

  stays : (place : Place) (before : List (List ℕ)) (part : Part) (end : End) → Spells x (Breaks place (record { before = before; part = part; end = end })) →
      IsDecidedBy d x (Breaks place (record { before = before; part = part; end = end })) → Stays (Breaks place (record { before = before; part = part; end = end }))
  stays place before part (Cut begun) s i = absurd (cut-only d x begun place before part s i)
  stays place before part (Bad value after) s i =
      let e = Bad value after in
      let f = Bad value (after ++ more) in
      let is : IsEnd part f = end-of (parts_at place) before part value after (after ++ more) s.sound.breaks in
      let bytes : end_bytes f ≡ end_bytes e ++ more = sym (append_assoc value after more) in (
        Breaks place (record { before = before; part = part; end = f }),
        spells-end x more place before part e f s is bytes,
        record { damage = i.damage; decided = i.decided; head_read = omega (arith, i.head_read, length-append x more) },
        refl,
        begun-end x more place before part e f s is bytes,
        refl,
      )

  pub damaged-more : (r : Recording) → Spells x r → IsDecidedBy d x r → Stays r
  damaged-more (Breaks place b) s i = stays place b.before b.part b.end s i
  damaged-more (Ends head pieces last) s i = absurd (short-only _ d i.damage i.decided)

pub damaged-on : (s : ReaderState) (d : DamageAt) (x more : List ℕ) (r : Recording) → s.stage ≡ Damaged d → IsAt s x r → ReadsOn s x r more None
damaged-on s d x more r e i =
    let m = damaged-more d x more r i.spells (subst (λ q. AtStage s q x r) e i.stands) in
    record {
      new = m.0;
      is = record {
        spells = m.1;
        has = subst (HasHeadAt s) (sym m.3) i.has;
        stands = subst (λ q. AtStage s q (x ++ more) m.0) (sym e) m.2;
      };
      goes_on = within m.3 m.4 m.5 tt;
    }
