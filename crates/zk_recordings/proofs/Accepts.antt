-- What stands behind a good value of each part.
use Rattle.std.proofs.Common.{◌≡◌, ℕ, ◌+◌, ◌<◌, ◌≤◌, inl, inr, ◌⊎◌, List, [], ◌∷◌, ◌++◌, length, take, set, get_or, map, Option, None, true, refl, sym, ap, ◌∙◌, subst, append_assoc, append-nil, arith, length-append, length-take}
use Rattle.std.proofs.{lemmas.Bool.Decides.nat_tests, Math.Bridge.le_prop, lemmas.Bool.cases_Bool, lemmas.List.map-append, lemmas.List.take_more_set, lemmas.Slice.Eq.bytes_eq-Decides}
use Rattle.std.specs.Str.{bytes_eq}
use Rattle.zk_records.specs.declared.profile.Profile.{Profile as ProfileType}
use Rattle.zk_talk.specs.{declared.limits.Limits.Limits, declared.message.Side.Side, Ranges.AreLimits}
use Rattle.zk_recordings.specs.{declared.parts.Format.Format, declared.parts.Format.TheVariants.Zkr1, declared.parts.Format.TheVariants.Zkr2, declared.parts.Part.Part, Reader.Content, Reader.ReaderState}
use Rattle.zk_recordings.specs.declared.parts.Part.TheVariants.{Letters, ClientLimit, ServerLimit, Waiting, Profile, SideByte, Time, Size}
use Rattle.zk_recordings.specs.Parts.{number, width, is_good, is_within, letters, head_parts, piece_parts}
use Rattle.zk_recordings.specs.HeadLimits.{limits_or, limits_by, profile_by, are_or_not}
use Rattle.zk_recordings.specs.Recording.{IsValue, AreValues, spelled, End, Cut, IsBreakIn, IsBreak, Head, First, Second, format_of, IsHead, head_bytes, head_limits, Piece, piece_values, IsTimed, piece_bytes, side_byte, no_time, Place, AtLetters, InHead, InPieces, parts_at, IsPlace, front, Recording, Breaks, Ends, Spells, place_of, behind, nothing}
use Rattle.zk_recordings.specs.Reading.{chosen, HasHead, HasHeadAt, HasTime, before_size, AtPart, then_at, in_head, within, ReadsOn}
use Rattle.zk_recordings.proofs.{Any.other-letters, Stages.cut_in, Stages.at-side, Stages.has-same, Stages.to-next, Stages.next-bytes, Stages.spelled-snoc, Walks.length-spelled}

-- ---- letters

module _ (s : ReaderState) (before : List (List ℕ)) (begun v : List ℕ) (b : ℕ) (x : List ℕ) (i : Spells x (cut_in AtLetters before Letters begun)) (again : begun ++ b ∷ [] ≡ v) (none : before ≡ []) (at' : s.at ≡ behind AtLetters before) where
  read-letters : x ++ b ∷ [] ≡ v
  read-letters = ap (λ l. l ++ b ∷ []) (i.is ∙ ap (λ l. spelled l begun) none) ∙ again

  at-nought : s.at ≡ 0
  at-nought = at' ∙ ap (behind AtLetters) none

  pub accept-first : (t : ReaderState) → v ≡ letters Zkr1 → t ≡ then_at (record s { format = Zkr1; limits = None }) SideByte 4 → ReadsOn t x (cut_in AtLetters before Letters begun) (b ∷ []) None
  accept-first t e f = subst (λ u. ReadsOn u x (cut_in AtLetters before Letters begun) (b ∷ []) None) (sym f) (record {
    new = Breaks (InPieces First []) nothing;
    is = record {
      spells = record {
        sound = record { stands = record { headed = tt; each = λ k d lt. absurd (omega arith) }; breaks = (refl, omega arith) };
        is = read-letters ∙ e;
      };
      has = record { format_is = refl; limits_are = λ options. refl };
      stands = record {
        eight = refl;
        part_at = record {
          place = InPieces First [];
          before = [];
          is = refl;
          at = omega (arith, at-nought);
          knows = (record { head = First; pieces = []; is = refl }, refl);
        };
      };
    };
    goes_on = in_head (λ is. is) refl refl refl refl;
  })

  pub accept-second : (t : ReaderState) → v ≡ letters Zkr2 → t ≡ then_at (record s { format = Zkr2; limits = None }) ClientLimit 4 → ReadsOn t x (cut_in AtLetters before Letters begun) (b ∷ []) None
  accept-second t e f = subst (λ u. ReadsOn u x (cut_in AtLetters before Letters begun) (b ∷ []) None) (sym f) (record {
    new = cut_in (InHead Zkr2) [] ClientLimit [];
    is = record {
      spells = record {
        sound = record { stands = tt; breaks = (refl, omega arith) };
        is = read-letters ∙ e;
      };
      has = refl;
      stands = record {
        eight = refl;
        part_at = record { place = InHead Zkr2; before = []; is = refl; at = omega (arith, at-nought); knows = (refl, refl) };
      };
    };
    goes_on = in_head (λ is. is) tt refl refl refl;
  })

-- ---- numbers of the head

next-client : (before : List (List ℕ)) (v : List ℕ) → map number before ≡ [] → IsValue ClientLimit v → IsBreakIn (head_parts Zkr2) (before ++ v ∷ []) ServerLimit (Cut [])
next-client [] v e is = (is, (refl, omega arith))
next-client (c ∷ before) v e is = cc

next-server : (before : List (List ℕ)) (v : List ℕ) (a : ℕ) (end : End) → map number before ≡ a ∷ [] → IsBreakIn (head_parts Zkr2) before ServerLimit end → IsValue ServerLimit v →
    IsBreakIn (head_parts Zkr2) (before ++ v ∷ []) Waiting (Cut [])
next-server [] v a end e br is = cc
next-server (c ∷ []) v a end e br is = (br.0, (is, (refl, omega arith)))
next-server (c ∷ d ∷ before) v a end e br is = cc

next-waiting : (before : List (List ℕ)) (v : List ℕ) (a d : ℕ) (end : End) → map number before ≡ a ∷ d ∷ [] → IsBreakIn (head_parts Zkr2) before Waiting end → IsValue Waiting v →
    IsBreakIn (head_parts Zkr2) (before ++ v ∷ []) Profile (Cut [])
next-waiting [] v a d end e br is = cc
next-waiting (c ∷ []) v a d end e br is = cc
next-waiting (c ∷ k ∷ []) v a d end e br is = (br.0, (br.1.0, (is, (refl, omega arith))))
next-waiting (c ∷ k ∷ l ∷ before) v a d end e br is = cc

one-more : (before : List (List ℕ)) (v : List ℕ) (numbers : List ℕ) → map number before ≡ numbers → map number (before ++ v ∷ []) ≡ numbers ++ number v ∷ []
one-more before v numbers e = map-append number before (v ∷ []) ∙ ap (λ l. l ++ number v ∷ []) e

module _ (s : ReaderState) (before : List (List ℕ)) (begun v : List ℕ) (b : ℕ) (x : List ℕ) (again : begun ++ b ∷ [] ≡ v) (at' : s.at ≡ behind (InHead Zkr2) before) (has : s.format ≡ Zkr2) where
  pub accept-client : Spells x (cut_in (InHead Zkr2) before ClientLimit begun) → map number before ≡ [] → IsValue ClientLimit v → (t : ReaderState) → t ≡ then_at (record s { client = number v }) ServerLimit 4 →
      ReadsOn t x (cut_in (InHead Zkr2) before ClientLimit begun) (b ∷ []) None
  accept-client i e is t f =
      to-next (record s { client = number v }) (InHead Zkr2) before ClientLimit begun v b x i again at' is.wide t ServerLimit f has
      (next-client before v e is) (refl, one-more before v [] e)

  pub accept-server : Spells x (cut_in (InHead Zkr2) before ServerLimit begun) → map number before ≡ s.client ∷ [] → IsValue ServerLimit v → (t : ReaderState) → t ≡ then_at (record s { server = number v }) Waiting 4 →
      ReadsOn t x (cut_in (InHead Zkr2) before ServerLimit begun) (b ∷ []) None
  accept-server i e is t f =
      to-next (record s { server = number v }) (InHead Zkr2) before ServerLimit begun v b x i again at' is.wide t Waiting f has
      (next-server before v s.client (Cut begun) e i.sound.breaks is) (refl, one-more before v (s.client ∷ []) e)

  pub accept-waiting : Spells x (cut_in (InHead Zkr2) before Waiting begun) → map number before ≡ s.client ∷ s.server ∷ [] → IsValue Waiting v → (t : ReaderState) → t ≡ then_at (record s { waiting = number v }) Profile 4 →
      ReadsOn t x (cut_in (InHead Zkr2) before Waiting begun) (b ∷ []) None
  accept-waiting i e is t f =
      to-next (record s { waiting = number v }) (InHead Zkr2) before Waiting begun v b x i again at' is.wide t Profile f has
      (next-waiting before v s.client s.server (Cut begun) e i.sound.breaks is) (refl, one-more before v (s.client ∷ s.server ∷ []) e)

-- ---- the limits of a head

-- ranges hold in one way
are-once : (a c d : ℕ) (i j : AreLimits a c d) → i ≡ j
are-once a c d i j =
    ap (λ q. (q, i.1, i.2, i.3, i.4, i.5)) (le_prop i.0 j.0)
    ∙ ap (λ q. (j.0, q, i.2, i.3, i.4, i.5)) (le_prop i.1 j.1)
    ∙ ap (λ q. (j.0, j.1, q, i.3, i.4, i.5)) (le_prop i.2 j.2)
    ∙ ap (λ q. (j.0, j.1, j.2, q, i.4, i.5)) (le_prop i.3 j.3)
    ∙ ap (λ q. (j.0, j.1, j.2, j.3, q, i.5)) (le_prop i.4 j.4)
    ∙ ap (λ q. (j.0, j.1, j.2, j.3, j.4, q)) (le_prop i.5 j.5)

same-limits : (l : Limits) (a c d : ℕ) (p : ProfileType) (are : AreLimits a c d) → (l.client ≡ a) × (l.server ≡ c) × (l.waiting ≡ d) → l.profile ≡ p →
    l ≡ record { client = a; server = c; waiting = d; profile = p; in_range = are }
same-limits l a c d p are e f =
    let here : (j : AreLimits l.client l.server l.waiting) → l ≡ record { client = l.client; server = l.server; waiting = l.waiting; profile = l.profile; in_range = j } =
    λ j. ap (λ q. record { client = l.client; server = l.server; waiting = l.waiting; profile = l.profile; in_range = q }) (are-once l.client l.server l.waiting l.in_range j) in
    let first : (j : AreLimits a l.server l.waiting) → l ≡ record { client = a; server = l.server; waiting = l.waiting; profile = l.profile; in_range = j } =
    subst (λ n. (j : AreLimits n l.server l.waiting) → l ≡ record { client = n; server = l.server; waiting = l.waiting; profile = l.profile; in_range = j }) e.0 here in
    let both : (j : AreLimits a c l.waiting) → l ≡ record { client = a; server = c; waiting = l.waiting; profile = l.profile; in_range = j } =
    subst (λ n. (j : AreLimits a n l.waiting) → l ≡ record { client = a; server = n; waiting = l.waiting; profile = l.profile; in_range = j }) e.1 first in
    let three : l ≡ record { client = a; server = c; waiting = d; profile = l.profile; in_range = are } =
    subst (λ n. (j : AreLimits a c n) → l ≡ record { client = a; server = c; waiting = n; profile = l.profile; in_range = j }) e.2 both are in
    subst (λ q. l ≡ record { client = a; server = c; waiting = d; profile = q; in_range = are }) f three

pub limits-none : (a c d : ℕ) (p : ProfileType) → (AreLimits a c d → ⊥) → (options : Limits) → options ≡ limits_or options a c d p
unfolding limits_or
limits-none a c d p none options = go (are_or_not a c d)
  where
    go : (r : AreLimits a c d ⊎ (AreLimits a c d → ⊥)) → options ≡ limits_by options a c d p r
    go (inl are) = absurd (none are)
    go (inr out) = refl

pub limits-some : (l : Limits) (a c d : ℕ) (p : ProfileType) → (l.client ≡ a) × (l.server ≡ c) × (l.waiting ≡ d) → l.profile ≡ p → AreLimits a c d → (options : Limits) → l ≡ limits_or options a c d p
unfolding limits_or
limits-some l a c d p e f is options = go (are_or_not a c d)
  where
    go : (r : AreLimits a c d ⊎ (AreLimits a c d → ⊥)) → l ≡ limits_by options a c d p r
    go (inl are) = same-limits l a c d p are e f
    go (inr out) = absurd (out is)

-- the head whose numbers are whole
record HasNumbers (before : List (List ℕ)) (v : List ℕ) (a d e : ℕ) : Type 0 where
  head : Head
  is : IsHead head
  second : format_of head ≡ Zkr2
  limits_are : (options : Limits) → head_limits options head ≡ limits_or options a d e (profile_by (number v))
  bytes : letters Zkr2 ++ spelled (before ++ v ∷ []) [] ≡ front (InPieces head [])

has-numbers : (before : List (List ℕ)) (v : List ℕ) (a d e : ℕ) (end : End) → map number before ≡ a ∷ d ∷ e ∷ [] → IsBreakIn (head_parts Zkr2) before Profile end → IsValue Profile v → HasNumbers before v a d e
has-numbers [] v a d e end f br is = cc
has-numbers (c ∷ []) v a d e end f br is = cc
has-numbers (c ∷ k ∷ []) v a d e end f br is = cc
has-numbers (c ∷ k ∷ l ∷ []) v a d e end f br is =
    let fc : number c ≡ a = cc in
    let fk : number k ≡ d = cc in
    let fl : number l ≡ e = cc in
    record {
      head = Second c k l v;
      is = (br.0, (br.1.0, (br.1.1.0, (is, tt))));
      second = refl;
      limits_are = λ options. ap (λ n. limits_or options n (number k) (number l) (profile_by (number v))) fc ∙ ap (λ n. limits_or options a n (number l) (profile_by (number v))) fk ∙ ap (λ n. limits_or options a d n (profile_by (number v))) fl;
      bytes = sym (append-nil (head_bytes (Second c k l v)));
    }
has-numbers (c ∷ k ∷ l ∷ m ∷ before) v a d e end f br is = cc

module _ (s : ReaderState) (before : List (List ℕ)) (begun v : List ℕ) (b : ℕ) (x : List ℕ) (again : begun ++ b ∷ [] ≡ v) (at' : s.at ≡ behind (InHead Zkr2) before) (has : s.format ≡ Zkr2) where
  pub accept-profile : Spells x (cut_in (InHead Zkr2) before Profile begun) → map number before ≡ s.client ∷ s.server ∷ s.waiting ∷ [] → IsValue Profile v → (o : Option Limits) →
      ((options : Limits) → chosen o options ≡ limits_or options s.client s.server s.waiting (profile_by (number v))) → (t : ReaderState) → t ≡ then_at (record s { limits = o }) SideByte 4 → ReadsOn t x (cut_in (InHead Zkr2) before Profile begun) (b ∷ []) None
  accept-profile i e is o limits_are t f =
      let n = has-numbers before v s.client s.server s.waiting (Cut begun) e i.sound.breaks is in
      let bytes = next-bytes s (InHead Zkr2) before Profile begun v b x i again at' is.wide in
      let read : x ++ b ∷ [] ≡ front (InPieces n.head []) = ap (λ l. l ++ b ∷ []) i.is ∙ append_assoc (letters Zkr2) (spelled before begun) (b ∷ []) ∙ ap (λ l. letters Zkr2 ++ l) (sym bytes) ∙ n.bytes in
      subst (λ u. ReadsOn u x (cut_in (InHead Zkr2) before Profile begun) (b ∷ []) None) (sym f) (record {
        new = Breaks (InPieces n.head []) nothing;
        is = record {
          spells = record {
            sound = record { stands = record { headed = n.is; each = λ k d lt. absurd (omega arith) }; breaks = at-side n.head };
            is = read ∙ sym (append-nil (front (InPieces n.head [])));
          };
          has = record { format_is = has ∙ sym n.second; limits_are = λ options. limits_are options ∙ sym (n.limits_are options) };
          stands = record {
            eight = refl;
            part_at = record {
              place = InPieces n.head [];
              before = [];
              is = refl;
              at = omega (arith, at', is.wide, ap length n.bytes, ap length (spelled-snoc before v []), length-spelled before (v ++ []), length-append v [], length-append (letters Zkr2) (spelled (before ++ v ∷ []) []));
              knows = (record { head = n.head; pieces = []; is = refl }, refl);
            };
          };
        };
        goes_on = in_head (λ is. is) refl refl refl refl;
      })

-- ---- parts of a piece

module _ (s : ReaderState) (place : Place) (head : Head) (pieces : List Piece) (e : place ≡ InPieces head pieces) (begun v : List ℕ) (b : ℕ) (x : List ℕ) (again : begun ++ b ∷ [] ≡ v) (has : HasHeadAt s place) where
  has-head : HasHead s head
  has-head = subst (HasHeadAt s) e has

  parts-by : (f : Format) → format_of head ≡ f → (before : List (List ℕ)) (part : Part) (end : End) → IsBreakIn (piece_parts f) before part end → IsBreak (parts_at place) (record { before = before; part = part; end = end })
  parts-by f g before part end is = subst (λ q. IsBreakIn (parts_at q) before part end) (sym e) (subst (λ h. IsBreakIn (piece_parts h) before part end) (sym g) is)

  by-parts : (f : Format) → format_of head ≡ f → (before : List (List ℕ)) (part : Part) (end : End) → IsBreak (parts_at place) (record { before = before; part = part; end = end }) → IsBreakIn (piece_parts f) before part end
  by-parts f g before part end is = subst (λ h. IsBreakIn (piece_parts h) before part end) g (subst (λ q. IsBreakIn (parts_at q) before part end) e is)

  module _ (before : List (List ℕ)) (at' : s.at ≡ behind place before) where
    pub accept-side : (side : Side) → before ≡ [] → v ≡ side_byte side ∷ [] → Spells x (cut_in place before SideByte begun) → IsValue SideByte v → (t : ReaderState) →
        (s.format ≡ Zkr1 → t ≡ then_at (record s { side = side }) Size 1) → (s.format ≡ Zkr2 → t ≡ then_at (record s { side = side }) Time 1) →
        ReadsOn t x (cut_in place before SideByte begun) (b ∷ []) None
    accept-side side none byte i is t first second = go s.format refl
      where
        values : before ++ v ∷ [] ≡ (side_byte side ∷ []) ∷ []
        values = ap (λ l. l ++ v ∷ []) none ∙ ap (λ w. w ∷ []) byte

        go : (f : Format) → s.format ≡ f → ReadsOn t x (cut_in place before SideByte begun) (b ∷ []) None
        go Zkr1 f =
            let g : format_of head ≡ Zkr1 = sym has-head.format_is ∙ f in
            to-next (record s { side = side }) place before SideByte begun v b x i again at' is.wide t Size (first f) (has-same s (record s { side = side }) place refl refl has)
            (parts-by Zkr1 g (before ++ v ∷ []) Size (Cut []) (subst (λ l. IsBreakIn (piece_parts Zkr1) (l ++ v ∷ []) Size (Cut [])) (sym none) (is, (refl, omega arith))))
            (record {
              within = record { head = head; pieces = pieces; is = e };
              time = no_time;
              timed = subst (λ h. HasTime h no_time) (sym g) refl;
              values = values ∙ ap (λ h. before_size h side no_time) (sym g);
            })
        go Zkr2 f =
            let g : format_of head ≡ Zkr2 = sym has-head.format_is ∙ f in
            to-next (record s { side = side }) place before SideByte begun v b x i again at' is.wide t Time (second f) (has-same s (record s { side = side }) place refl refl has)
            (parts-by Zkr2 g (before ++ v ∷ []) Time (Cut []) (subst (λ l. IsBreakIn (piece_parts Zkr2) (l ++ v ∷ []) Time (Cut [])) (sym none) (is, (refl, omega arith))))
            (record { within = record { head = head; pieces = pieces; is = e }; second = g; values = values })

    pub accept-time : format_of head ≡ Zkr2 → before ≡ (side_byte s.side ∷ []) ∷ [] → Spells x (cut_in place before Time begun) → IsValue Time v → (t : ReaderState) → t ≡ then_at s Size 8 →
        ReadsOn t x (cut_in place before Time begun) (b ∷ []) None
    accept-time g values i is t f =
        let br = subst (λ l. IsBreakIn (piece_parts Zkr2) l Time (Cut begun)) values (by-parts Zkr2 g before Time (Cut begun) i.sound.breaks) in
        to-next s place before Time begun v b x i again at' is.wide t Size f has
        (parts-by Zkr2 g (before ++ v ∷ []) Size (Cut []) (subst (λ l. IsBreakIn (piece_parts Zkr2) (l ++ v ∷ []) Size (Cut [])) (sym values) (br.0, (is, (refl, omega arith)))))
        (record {
          within = record { head = head; pieces = pieces; is = e };
          time = v;
          timed = subst (λ h. HasTime h v) (sym g) tt;
          values = ap (λ l. l ++ v ∷ []) values ∙ ap (λ h. before_size h s.side v) (sym g);
        })

    size-some : (n : ℕ) → is_within 1 16777220 n ≡ true → 0 < n
    size-some n h = grind (arith, nat_tests)

    -- the values of a piece whose content is still to come
    sized-values : (f : Format) → format_of head ≡ f → (time : List ℕ) → HasTime f time → before ≡ before_size f s.side time → IsBreak (parts_at place) (record { before = before; part = Size; end = Cut begun }) → IsValue Size v →
        let cut : Piece = record { side = s.side; time = time; size = v; content = [] } in
        AreValues (piece_parts f) (piece_values f cut) × IsTimed f cut × (piece_values f cut ≡ before ++ v ∷ [])
    sized-values Zkr1 g time timed values br is =
        let j = subst (λ l. IsBreakIn (piece_parts Zkr1) l Size (Cut begun)) values (by-parts Zkr1 g before Size (Cut begun) br) in
        ((j.0, (is, tt)), timed, ap (λ l. l ++ v ∷ []) (sym values))
    sized-values Zkr2 g time timed values br is =
        let j = subst (λ l. IsBreakIn (piece_parts Zkr2) l Size (Cut begun)) values (by-parts Zkr2 g before Size (Cut begun) br) in
        ((j.0, (j.1.0, (is, tt))), tt, ap (λ l. l ++ v ∷ []) (sym values))

    pub accept-size : (time : List ℕ) → HasTime (format_of head) time → before ≡ before_size (format_of head) s.side time → (i : Spells x (cut_in place before Size begun)) → IsValue Size v → (t : ReaderState) →
        t ≡ record s { at = s.at + 4; size = number v; stage = Content 0 } → ReadsOn t x (cut_in place before Size begun) (b ∷ []) None
    accept-size time timed values i is t f =
        let cut : Piece = record { side = s.side; time = time; size = v; content = [] } in
        let all = sized-values (format_of head) refl time timed values i.sound.breaks is in
        let bytes : piece_bytes (format_of head) cut ≡ spelled before begun ++ b ∷ [] = ap (λ l. spelled l []) all.2 ∙ next-bytes s place before Size begun v b x i again at' is.wide in
        subst (λ u. ReadsOn u x (cut_in place before Size begun) (b ∷ []) None) (sym f) (record {
          new = Ends head pieces cut;
          is = record {
            spells = record {
              sound = record {
                stands = subst IsPlace e i.sound.stands;
                cut = record { begun = record { values = all.0; timed = all.1 }; short = size-some (number v) is.good };
              };
              is = ap (λ l. l ++ b ∷ []) i.is ∙ append_assoc (front place) (spelled before begun) (b ∷ []) ∙ ap (λ l. front place ++ l) (sym bytes) ∙ ap (λ q. front q ++ piece_bytes (format_of head) cut) e;
            };
            has = record { format_is = has-head.format_is; limits_are = has-head.limits_are };
            stands = record {
              head = head;
              pieces = pieces;
              cut = cut;
              is = refl;
              at = omega (arith, at', is.wide, ap (λ q. length (front q)) e, ap (λ l. length (spelled l [])) all.2, ap length (spelled-snoc before v []), length-spelled before (v ++ []), length-append v []);
              side = refl;
              size = refl;
              count = refl;
            };
          };
          goes_on = within (sym e) bytes refl tt;
        })

-- ---- the part that the reader is in

pub width-most : (part : Part) → width part ≤ 8
width-most SideByte = omega arith
width-most Time = omega arith
width-most _ = omega arith

pub is-value : (part : Part) (bytes : List ℕ) → length bytes ≡ 8 → is_good part (take (width part) bytes) ≡ true → IsValue part (take (width part) bytes)
is-value part bytes eight good = record { wide = omega (arith, length-take (width part) bytes, width-most part, eight); good = good }

module _ (s : ReaderState) (begun v : List ℕ) (b : ℕ) (x : List ℕ) (r : Recording) (again : begun ++ b ∷ [] ≡ v) (i : Spells x r) (has : HasHeadAt s (place_of r)) (t : ReaderState) where
  -- it is this one
  module _ (part : Part) (p : AtPart s part begun r) where
    here : (place : Place) → p.place ≡ place → r ≡ cut_in place p.before part begun
    here place e = p.is ∙ ap (λ q. cut_in q p.before part begun) e

    reads-here : (place : Place) → p.place ≡ place →
        (s.at ≡ behind place p.before → HasHeadAt s place → Spells x (cut_in place p.before part begun) → ReadsOn t x (cut_in place p.before part begun) (b ∷ []) None) → ReadsOn t x r (b ∷ []) None
    reads-here place e reads = subst (λ q. ReadsOn t x q (b ∷ []) None) (sym (here place e))
        (reads (subst (λ q. s.at ≡ behind q p.before) e p.at) (subst (λ q. HasHeadAt s (place_of q)) (here place e) has) (subst (Spells x) (here place e) i))

  to-part : (part q : Part) → part ≡ q → AtPart s part begun r → AtPart s q begun r
  to-part part q e p = subst (λ z. AtPart s z begun r) e p

  to-value : (part q : Part) → part ≡ q → IsValue part v → IsValue q v
  to-value part q e is = subst (λ z. IsValue z v) e is

  module _ (part : Part) (p' : AtPart s part begun r) (is : IsValue part v) where
    pub by-letters : part ≡ Letters → (v ≡ letters Zkr1 → t ≡ then_at (record s { format = Zkr1; limits = None }) SideByte 4) → (v ≡ letters Zkr2 → t ≡ then_at (record s { format = Zkr2; limits = None }) ClientLimit 4) →
        ReadsOn t x r (b ∷ []) None
    by-letters e first second =
        let p = to-part part Letters e p' in
        reads-here Letters p AtLetters p.knows.0 (λ at' headed j. elim (cases_Bool (bytes_eq v (letters Zkr1))) [
          | inl is-first ↦ let same = (bytes_eq-Decides v (letters Zkr1)).0 is-first in accept-first s p.before begun v b x j again p.knows.1 at' t same (first same)
          | inr not-first ↦ let same = (bytes_eq-Decides v (letters Zkr2)).0 (other-letters v (to-value part Letters e is).good not-first) in accept-second s p.before begun v b x j again p.knows.1 at' t same (second same)
        ])

    pub by-client : part ≡ ClientLimit → t ≡ then_at (record s { client = number v }) ServerLimit 4 → ReadsOn t x r (b ∷ []) None
    by-client e f =
        let p = to-part part ClientLimit e p' in
        reads-here ClientLimit p (InHead Zkr2) p.knows.0 (λ at' headed j. accept-client s p.before begun v b x again at' headed j p.knows.1 (to-value part ClientLimit e is) t f)

    pub by-server : part ≡ ServerLimit → t ≡ then_at (record s { server = number v }) Waiting 4 → ReadsOn t x r (b ∷ []) None
    by-server e f =
        let p = to-part part ServerLimit e p' in
        reads-here ServerLimit p (InHead Zkr2) p.knows.0 (λ at' headed j. accept-server s p.before begun v b x again at' headed j p.knows.1 (to-value part ServerLimit e is) t f)

    pub by-waiting : part ≡ Waiting → t ≡ then_at (record s { waiting = number v }) Profile 4 → ReadsOn t x r (b ∷ []) None
    by-waiting e f =
        let p = to-part part Waiting e p' in
        reads-here Waiting p (InHead Zkr2) p.knows.0 (λ at' headed j. accept-waiting s p.before begun v b x again at' headed j p.knows.1 (to-value part Waiting e is) t f)

    pub by-profile : part ≡ Profile → (o : Option Limits) → ((options : Limits) → chosen o options ≡ limits_or options s.client s.server s.waiting (profile_by (number v))) →
        t ≡ then_at (record s { limits = o }) SideByte 4 → ReadsOn t x r (b ∷ []) None
    by-profile e o limits_are f =
        let p = to-part part Profile e p' in
        reads-here Profile p (InHead Zkr2) p.knows.0 (λ at' headed j. accept-profile s p.before begun v b x again at' headed j p.knows.1 (to-value part Profile e is) o limits_are t f)

    pub by-side : part ≡ SideByte → (side : Side) → v ≡ side_byte side ∷ [] →
        (s.format ≡ Zkr1 → t ≡ then_at (record s { side = side }) Size 1) → (s.format ≡ Zkr2 → t ≡ then_at (record s { side = side }) Time 1) → ReadsOn t x r (b ∷ []) None
    by-side e side byte first second =
        let p = to-part part SideByte e p' in
        let w = p.knows.0 in
        reads-here SideByte p p.place refl (λ at' headed j. accept-side s p.place w.head w.pieces w.is begun v b x again headed p.before at' side p.knows.1 byte j (to-value part SideByte e is) t first second)

    pub by-time : part ≡ Time → t ≡ then_at s Size 8 → ReadsOn t x r (b ∷ []) None
    by-time e f =
        let p = to-part part Time e p' in
        let w = p.knows.within in
        reads-here Time p p.place refl (λ at' headed j. accept-time s p.place w.head w.pieces w.is begun v b x again headed p.before at' p.knows.second p.knows.values j (to-value part Time e is) t f)

    pub by-size : part ≡ Size → t ≡ record s { at = s.at + 4; size = number v; stage = Content 0 } → ReadsOn t x r (b ∷ []) None
    by-size e f =
        let p = to-part part Size e p' in
        let w = p.knows.within in
        reads-here Size p p.place refl (λ at' headed j. accept-size s p.place w.head w.pieces w.is begun v b x again headed p.before at' p.knows.time p.knows.timed p.knows.values j (to-value part Size e is) t f)

pub first-byte : (bytes : List ℕ) → length bytes ≡ 8 → take 1 bytes ≡ get_or bytes 0 0 ∷ []
first-byte [] eight = absurd (omega (arith, eight))
first-byte (b ∷ bytes) eight = refl

-- the last byte of a part
pub whole-value : (part : Part) (bytes : List ℕ) (got b : ℕ) → length bytes ≡ 8 → got < width part → width part ≤ got + 1 → take got bytes ++ b ∷ [] ≡ take (width part) (set bytes got b)
whole-value part bytes got b eight less last =
    let all : width part ≡ got + 1 = omega (arith, less, last) in
    sym (take_more_set bytes got b (omega (arith, less, width-most part, eight))) ∙ ap (λ n. take n (set bytes got b)) (sym all)
