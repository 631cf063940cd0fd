-- All bytes are a recording, and what a recording holds stands first in what longer bytes hold.
use Rattle.std.proofs.Common.{◌≡◌, ℕ, ◌+◌, ◌-◌, ◌<◌, ◌≤◌, inl, inr, zero, suc, List, [], ◌∷◌, ◌++◌, length, take, drop, Bool, true, false, ◌||◌, cond, refl, sym, ap, ◌∙◌, subst, append_assoc, append-nil, arith, length-append, length-take, length-drop}
use Rattle.std.specs.{List.flat_map, Str.bytes_eq}
use Rattle.std.proofs.{lemmas.Bool.cases_lt, lemmas.Bool.cases_Bool, lemmas.Bool.false≢true, lemmas.List.take-append-drop, lemmas.List.take_all, lemmas.List.Elements.All-append, lemmas.Slice.Eq.bytes_eq-Decides, Math.Seq.take-append-add}
use Rattle.zk_talk.specs.{declared.limits.Limits.Limits, History.History, History.on}
use Rattle.zk_talk.specs.declared.message.Side.TheVariants.{Client, Server}
use Rattle.zk_recordings.specs.{declared.parts.Format.Format, declared.parts.Format.TheVariants.Zkr1, declared.parts.Format.TheVariants.Zkr2, declared.parts.Part.TheVariants.Letters, declared.parts.Part.TheVariants.SideByte}
use Rattle.zk_recordings.specs.{Parts.letters, Parts.number, Parts.head_parts, Parts.piece_parts, Parts.is_good, Reading.IsHeaded}
use Rattle.zk_recordings.specs.Recording.{IsValue, AreValues, spelled, break_bytes, Head, First, Second, format_of, head_values, head_limits, IsHead, head_bytes, Piece, piece_values, IsTimed, IsBegun, IsPiece, piece_bytes, piece_history, side_byte, AtLetters, InHead, InPieces, AreIn, front, place_of, history_of, limits_of, Recording, Breaks, Ends, Spells}
use Rattle.zk_recordings.proofs.Lists.{flat_map-snoc, All-one, on-append}
use Rattle.zk_recordings.proofs.Walks.{Walk, Walked, Broke, walk, walk-is, IsWalk, spelled-append, length-spelled, cond-true, cond-false, lt-true, lt-false}
use Rattle.zk_recordings.proofs.Once.{with_content, side_in, piece_with, sized, choose, parse, parse_all, behind_numbers, behind_letters, recorded}

-- these bytes are a recording whose history begins so, under this head
pub record Goes (head : Head) (h : History) (x : List ℕ) (r : Recording) : Type 0 where
  pub spells : Spells x r
  pub headed : IsHeaded (place_of r)
  pub limits_are : (options : Limits) → limits_of options r ≡ head_limits options head
  pub after : History
  pub history : history_of r ≡ h ++ after

goes-shorter : (head : Head) (h k : History) (x : List ℕ) (r : Recording) → Goes head (h ++ k) x r → Goes head h x r
goes-shorter head h k x r i = record {
  spells = i.spells;
  headed = i.headed;
  limits_are = i.limits_are;
  after = k ++ i.after;
  history = i.history ∙ append_assoc h k i.after;
}

-- ---- the piece of some values

other_true : (a b : Bool) → (a || b) ≡ true → a ≡ false → b ≡ true
other_true true b e f = absurd (false≢true (sym f))
other_true false b e f = e

side-back : (b : List ℕ) → IsValue SideByte b → side_byte (side_in b) ∷ [] ≡ b
side-back b is = elim (cases_Bool (bytes_eq b (67 ∷ []))) [
  | inl is-first ↦ ap (λ c. side_byte (cond c Client Server) ∷ []) is-first ∙ sym ((bytes_eq-Decides b (67 ∷ [])).0 is-first)
  | inr not-first ↦ ap (λ c. side_byte (cond c Client Server) ∷ []) not-first ∙ sym ((bytes_eq-Decides b (83 ∷ [])).0 (other_true _ _ is.good not-first))
]

piece-back : (f : Format) (vs : List (List ℕ)) → AreValues (piece_parts f) vs → piece_values f (piece_with f vs) ≡ vs
piece-back Zkr1 [] are = absurd are
piece-back Zkr1 (b ∷ []) are = absurd are.1
piece-back Zkr1 (b ∷ size ∷ []) are = ap (λ l. l ∷ size ∷ []) (side-back b are.0)
piece-back Zkr1 (b ∷ size ∷ v ∷ vs) are = absurd are.1.1
piece-back Zkr2 [] are = absurd are
piece-back Zkr2 (b ∷ []) are = absurd are.1
piece-back Zkr2 (b ∷ time ∷ []) are = absurd are.1.1
piece-back Zkr2 (b ∷ time ∷ size ∷ []) are = ap (λ l. l ∷ time ∷ size ∷ []) (side-back b are.0)
piece-back Zkr2 (b ∷ time ∷ size ∷ v ∷ vs) are = absurd are.1.1.1

piece-timed : (f : Format) (vs : List (List ℕ)) → AreValues (piece_parts f) vs → IsTimed f (piece_with f vs)
piece-timed Zkr1 [] are = absurd are
piece-timed Zkr1 (b ∷ []) are = absurd are.1
piece-timed Zkr1 (b ∷ size ∷ vs) are = refl
piece-timed Zkr2 vs are = tt

-- a content changes no value
pub same-values : (f : Format) (p : Piece) (content : List ℕ) → piece_values f (with_content p content) ≡ piece_values f p
same-values Zkr1 p content = refl
same-values Zkr2 p content = refl

pub same-timed : (f : Format) (p : Piece) (content : List ℕ) → IsTimed f p → IsTimed f (with_content p content)
same-timed Zkr1 p content timed = timed
same-timed Zkr2 p content timed = tt

pub begun-with : (f : Format) (p : Piece) (content : List ℕ) → IsBegun f p → IsBegun f (with_content p content)
begun-with f p content i = record {
  values = subst (AreValues (piece_parts f)) (sym (same-values f p content)) i.values;
  timed = same-timed f p content i.timed;
}

begun-by : (f : Format) (vs : List (List ℕ)) → AreValues (piece_parts f) vs → IsBegun f (piece_with f vs)
begun-by f vs are = record { values = subst (AreValues (piece_parts f)) (sym (piece-back f vs are)) are; timed = piece-timed f vs are }

-- ---- pieces

pub front-snoc : (head : Head) (ps : List Piece) (p : Piece) (rest : List ℕ) →
    front (InPieces head (ps ++ p ∷ [])) ++ rest ≡ front (InPieces head ps) ++ (piece_bytes (format_of head) p ++ rest)
front-snoc head ps p rest =
    let f = format_of head in
    ap (λ l. (head_bytes head ++ l) ++ rest) (flat_map-snoc (piece_bytes f) ps p)
    ∙ ap (λ l. l ++ rest) (sym (append_assoc (head_bytes head) (flat_map (piece_bytes f) ps) (piece_bytes f p)))
    ∙ append_assoc (front (InPieces head ps)) (piece_bytes f p) rest

pub are-snoc : (head : Head) (ps : List Piece) (p : Piece) → AreIn head ps → IsPiece (format_of head) p → AreIn head (ps ++ p ∷ [])
are-snoc head ps p i is = record { headed = i.headed; each = All-append (IsPiece (format_of head)) ps (p ∷ []) i.each (All-one (IsPiece (format_of head)) p is) }

pub bytes-with : (f : Format) (p : Piece) (content : List ℕ) → piece_bytes f (with_content p content) ≡ spelled (piece_values f p) content
bytes-with f p content = ap (λ vs. spelled vs content) (same-values f p content)

-- what stands behind a head and whole pieces
abbrev Next : ℕ → Head → Type 0
Next n head = (ps : List Piece) (rest : List ℕ) → AreIn head ps → length rest < n →
    Goes head (flat_map piece_history ps) (front (InPieces head ps) ++ rest) (parse n head ps rest)

-- a piece that is begun, and bytes behind its values
module _ (n : ℕ) (head : Head) (next : Next n head) (ps : List Piece) (i : AreIn head ps) (p : Piece) (begun : IsBegun (format_of head) p) (rest : List ℕ) (less : length rest < n) where
  f : Format
  f = format_of head

  abbrev parsed : Recording
  parsed = sized head ps (λ more left. parse n head more left) p rest

  abbrev Behind : History → Recording → Type 0
  Behind h r = Goes head h (front (InPieces head ps) ++ spelled (piece_values (format_of head) p) rest) r

  sized-short : length rest < number p.size → Behind (flat_map piece_history ps ++ on p.side (take (number p.size) rest)) parsed
  sized-short short =
      let q = with_content p rest in
      subst (Behind (flat_map piece_history ps ++ on p.side (take (number p.size) rest))) (sym (cond-true _ _ _ (lt-true _ _ short))) (record {
        spells = record {
          sound = record { stands = i; cut = record { begun = begun-with (format_of head) p rest begun; short = short } };
          is = ap (λ l. front (InPieces head ps) ++ l) (sym (bytes-with (format_of head) p rest));
        };
        headed = tt;
        limits_are = λ options. refl;
        after = [];
        history = ap (λ c. flat_map piece_history ps ++ on p.side c) (sym (take_all (number p.size) rest (omega (arith, short)))) ∙ sym (append-nil _);
      })

  sized-whole : number p.size ≤ length rest → Behind (flat_map piece_history ps ++ on p.side (take (number p.size) rest)) parsed
  sized-whole enough =
      let k = number p.size in
      let content = take k rest in
      let left = drop k rest in
      let q = with_content p content in
      let long : length content ≡ k = omega (arith, length-take k rest) in
      let is : IsPiece (format_of head) q = record { begun = begun-with (format_of head) p content begun; sized = sym long } in
      let read : front (InPieces head (ps ++ q ∷ [])) ++ left ≡ front (InPieces head ps) ++ spelled (piece_values (format_of head) p) rest =
      front-snoc head ps q left ∙ ap (λ l. front (InPieces head ps) ++ (l ++ left)) (bytes-with (format_of head) p content)
      ∙ ap (λ l. front (InPieces head ps) ++ l) (spelled-append (piece_values (format_of head) p) content left)
      ∙ ap (λ l. front (InPieces head ps) ++ spelled (piece_values (format_of head) p) l) (take-append-drop k rest) in
      let r = parse n head (ps ++ q ∷ []) left in
      subst (Behind (flat_map piece_history ps ++ on p.side content)) (sym (cond-false _ _ _ (lt-false _ _ enough)))
      (subst (λ x. Goes head (flat_map piece_history ps ++ on p.side content) x r) read
      (subst (λ h. Goes head h (front (InPieces head (ps ++ q ∷ [])) ++ left) r) (flat_map-snoc piece_history ps q)
      (next (ps ++ q ∷ []) left (are-snoc head ps q i is) (omega (arith, less, length-drop k rest)))))

  pub goes-sized : Behind (flat_map piece_history ps ++ on p.side (take (number p.size) rest)) parsed
  goes-sized = elim (cases_lt (length rest) (number p.size)) [
    | inl short ↦ sized-short short
    | inr enough ↦ sized-whole enough
  ]

goes-walk : (n : ℕ) (head : Head) → Next n head → (ps : List Piece) (bytes : List ℕ) (w : Walk) → AreIn head ps → (rest-less : (vs : List (List ℕ)) (rest : List ℕ) → w ≡ Walked vs rest → length rest < n) →
    IsWalk (piece_parts (format_of head)) bytes w →
    Goes head (flat_map piece_history ps) (front (InPieces head ps) ++ bytes) (choose head ps (λ more left. parse n head more left) w)
goes-walk n head next ps bytes (Broke b) i less is = record {
  spells = record { sound = record { stands = i; breaks = is.0 }; is = ap (λ l. front (InPieces head ps) ++ l) is.1 };
  headed = tt;
  limits_are = λ options. refl;
  after = [];
  history = refl;
}
goes-walk n head next ps bytes (Walked vs rest) i less is =
    let f = format_of head in
    let p = piece_with f vs in
    let e : spelled (piece_values f p) rest ≡ bytes = ap (λ l. spelled l rest) (piece-back f vs is.0) ∙ sym is.1 in
    subst (λ l. Goes head (flat_map piece_history ps) (front (InPieces head ps) ++ l) (sized head ps (λ more left. parse n head more left) p rest)) e
    (goes-shorter head (flat_map piece_history ps) _ _ _ (goes-sized n head next ps i p (begun-by f vs is.0) rest (less vs rest refl)))

-- what is left is shorter
walked-less : (f : Format) (bytes : List ℕ) (vs : List (List ℕ)) (rest : List ℕ) → IsWalk (piece_parts f) bytes (Walked vs rest) → length rest < length bytes
walked-less Zkr1 bytes [] rest is = absurd is.0
walked-less Zkr1 bytes (b ∷ vs) rest is = omega (arith, ap length is.1, length-append b (spelled vs rest), length-spelled vs rest, is.0.0.wide)
walked-less Zkr2 bytes [] rest is = absurd is.0
walked-less Zkr2 bytes (b ∷ vs) rest is = omega (arith, ap length is.1, length-append b (spelled vs rest), length-spelled vs rest, is.0.0.wide)

pub goes : (n : ℕ) (head : Head) → Next n head
goes zero head ps rest i less = absurd (omega arith)
goes (suc n) head ps bytes i less = goes-walk n head (goes n head) ps bytes (walk (piece_parts (format_of head)) bytes) i
    (λ vs rest e. omega (arith, less, walked-less (format_of head) bytes vs rest (subst (IsWalk (piece_parts (format_of head)) bytes) e (walk-is (piece_parts (format_of head)) bytes))))
    (walk-is (piece_parts (format_of head)) bytes)

-- ---- all bytes

head-then : (head : Head) (rest : List ℕ) → front (InPieces head []) ++ rest ≡ letters (format_of head) ++ spelled (head_values head) rest
head-then head rest =
    ap (λ l. l ++ rest) (append-nil (head_bytes head)) ∙ append_assoc (letters (format_of head)) (spelled (head_values head) []) rest
    ∙ ap (λ l. letters (format_of head) ++ l) (spelled-append (head_values head) [] rest)

headed-all : (head : Head) (rest : List ℕ) → IsHead head → Spells (front (InPieces head []) ++ rest) (parse_all head rest)
headed-all head rest is = (goes (suc (length rest)) head [] rest (record { headed = is; each = λ k d lt. absurd (omega arith) }) (omega arith)).spells

pub other-letters : (v : List ℕ) → is_good Letters v ≡ true → bytes_eq v (letters Zkr1) ≡ false → bytes_eq v (letters Zkr2) ≡ true
other-letters v good other = other_true _ _ good other

by-numbers : (rest : List ℕ) (w : Walk) → IsWalk (head_parts Zkr2) rest w → Spells (letters Zkr2 ++ rest) (behind_numbers w)
by-numbers rest (Broke b) is = record { sound = record { stands = tt; breaks = is.0 }; is = ap (λ l. letters Zkr2 ++ l) is.1 }
by-numbers rest (Walked [] more) is = absurd is.0
by-numbers rest (Walked (c ∷ []) more) is = absurd is.0.1
by-numbers rest (Walked (c ∷ s ∷ []) more) is = absurd is.0.1.1
by-numbers rest (Walked (c ∷ s ∷ w ∷ []) more) is = absurd is.0.1.1.1
by-numbers rest (Walked (c ∷ s ∷ w ∷ p ∷ []) more) is =
    let read : letters Zkr2 ++ spelled (c ∷ s ∷ w ∷ p ∷ []) more ≡ letters Zkr2 ++ rest = ap (λ l. letters Zkr2 ++ l) (sym is.1) in
    subst (λ l. Spells l (parse_all (Second c s w p) more)) (head-then (Second c s w p) more ∙ read) (headed-all (Second c s w p) more is.0)
by-numbers rest (Walked (c ∷ s ∷ w ∷ p ∷ v ∷ vs) more) is = absurd is.0.1.1.1.1

by-letters : (x : List ℕ) (w : Walk) → IsWalk (Letters ∷ []) x w → Spells x (behind_letters w)
by-letters x (Broke b) is = record { sound = record { stands = tt; breaks = is.0 }; is = is.1 }
by-letters x (Walked [] rest) is = absurd is.0
by-letters x (Walked (v ∷ u ∷ vs) rest) is = absurd is.0.1
by-letters x (Walked (v ∷ []) rest) is = elim (cases_Bool (bytes_eq v (letters Zkr1))) [
  | inl is-first ↦ subst (Spells x) (sym (cond-true _ _ _ is-first))
      (subst (λ l. Spells l (parse_all First rest)) (ap (λ l. l ++ rest) (sym ((bytes_eq-Decides v (letters Zkr1)).0 is-first)) ∙ sym is.1) (headed-all First rest tt))
  | inr not-first ↦ subst (Spells x) (sym (cond-false _ _ _ not-first))
      (subst (λ l. Spells l (behind_numbers (walk (head_parts Zkr2) rest))) (ap (λ l. l ++ rest) (sym ((bytes_eq-Decides v (letters Zkr2)).0 (other-letters v is.0.0.good not-first))) ∙ sym is.1)
      (by-numbers rest (walk (head_parts Zkr2) rest) (walk-is (head_parts Zkr2) rest)))
]

-- all bytes are a recording
pub any : (x : List ℕ) → Spells x (recorded x)
any x = by-letters x (walk (Letters ∷ []) x) (walk-is (Letters ∷ []) x)

-- ---- longer bytes

-- what was read, and whatever follows it
pub record Longer (r : Recording) (x : List ℕ) : Type 0 where
  pub new : Recording
  pub spells : Spells x new
  pub after : History
  pub history : history_of new ≡ history_of r ++ after
  pub headed : IsHeaded (place_of r) → IsHeaded (place_of new)
  pub limits_are : IsHeaded (place_of r) → (options : Limits) → limits_of options new ≡ limits_of options r

longer-in : (x : List ℕ) (r : Recording) → (IsHeaded (place_of r) → ⊥) → history_of r ≡ [] → Longer r x
longer-in x r none empty = record {
  new = recorded x;
  spells = any x;
  after = history_of (recorded x);
  history = ap (λ h. h ++ history_of (recorded x)) (sym empty);
  headed = λ is. absurd (none is);
  limits_are = λ is. absurd (none is);
}

longer-by : (head : Head) (r new : Recording) (x : List ℕ) → ((options : Limits) → limits_of options r ≡ head_limits options head) → Goes head (history_of r) x new → Longer r x
longer-by head r new x same i = record {
  new = new;
  spells = i.spells;
  after = i.after;
  history = i.history;
  headed = λ _. i.headed;
  limits_are = λ _ options. i.limits_are options ∙ sym (same options);
}

pub longer : (r : Recording) (x more : List ℕ) → Spells x r → Longer r (x ++ more)
longer (Breaks AtLetters b) x more i = longer-in (x ++ more) (Breaks AtLetters b) (λ is. is) refl
longer (Breaks (InHead f) b) x more i = longer-in (x ++ more) (Breaks (InHead f) b) (λ is. is) refl
longer (Breaks (InPieces head ps) b) x more i =
    let read : front (InPieces head ps) ++ (break_bytes b ++ more) ≡ x ++ more = sym (ap (λ l. l ++ more) i.is ∙ append_assoc (front (InPieces head ps)) (break_bytes b) more) in
    let new = parse (suc (length (break_bytes b ++ more))) head ps (break_bytes b ++ more) in
    longer-by head (Breaks (InPieces head ps) b) new (x ++ more) (λ options. refl)
    (subst (λ h. Goes head h (x ++ more) new) (sym (append-nil (flat_map piece_history ps)))
    (subst (λ l. Goes head (flat_map piece_history ps) l new) read
    (goes (suc (length (break_bytes b ++ more))) head ps (break_bytes b ++ more) i.sound.stands (omega arith))))
longer (Ends head ps cut) x more i =
    let f = format_of head in
    let k = number cut.size in
    let n = suc (length (cut.content ++ more)) in
    let part = take (k - length cut.content) more in
    let read : front (InPieces head ps) ++ spelled (piece_values f cut) (cut.content ++ more) ≡ x ++ more =
    ap (λ l. front (InPieces head ps) ++ l) (sym (spelled-append (piece_values f cut) cut.content more))
    ∙ sym (ap (λ l. l ++ more) i.is ∙ append_assoc (front (InPieces head ps)) (piece_bytes f cut) more) in
    let sum : k ≡ length cut.content + (k - length cut.content) = omega (arith, i.sound.cut.short) in
    let all : take k (cut.content ++ more) ≡ cut.content ++ part = ap (λ j. take j (cut.content ++ more)) sum ∙ take-append-add cut.content more (k - length cut.content) in
    let content : flat_map piece_history ps ++ on cut.side (take k (cut.content ++ more)) ≡ (flat_map piece_history ps ++ on cut.side cut.content) ++ on cut.side part =
    ap (λ c. flat_map piece_history ps ++ on cut.side c) all ∙ sym (on-append cut.side cut.content part (flat_map piece_history ps)) in
    let r = sized head ps (λ later left. parse n head later left) cut (cut.content ++ more) in
    longer-by head (Ends head ps cut) r (x ++ more) (λ options. refl)
    (goes-shorter head _ (on cut.side part) (x ++ more) r
    (subst (λ h. Goes head h (x ++ more) r) content
    (subst (λ l. Goes head (flat_map piece_history ps ++ on cut.side (take k (cut.content ++ more))) l r) read
    (goes-sized n head (goes n head) ps i.sound.stands cut i.sound.cut.begun (cut.content ++ more) (omega arith)))))
