-- Lines come to one thing.
use Rattle.std.proofs.Common.{◌≡◌, ◌≢◌, ℕ, ◌+◌, ◌⊎◌, inl, inr, List, [], ◌∷◌, ◌++◌, length, map, refl, sym, ap, ◌∙◌, append_assoc, append-nil, subst}
use Rattle.std.specs.List.{AllByRecursion}
use Rattle.zk_talk.specs.{declared.limits.Limits.Limits, Held.Message, declared.message.Ending.TheVariants.Whole as whole, declared.say.SayFault.SayFault, Ending.unanswered, Said.AreSaid, Said.MaySay, Said.IsSayFault, Said.conversation_of}
use Rattle.zk_talk.proofs.Exclusions.{may_or_not, refused_once}
use Rattle.zk_items.specs.declared.fault.LineFault.{LineFault}
use Rattle.zk_lines.specs.Lines.{line, Fits}
use Rattle.zk_lines.proofs.{Lines.line_apart, LawsShown.line_lettered, LawsEndings.ending_dotted}
use Rattle.zk_runs.specs.{declared.build_result.Built.Built, Rebuilding.AreAlike, Rebuilding.IsForeign}
use Rattle.zk_runs.specs.declared.build_result.Built.TheVariants.{Whole, LineRefused, SayRefused}
use Rattle.zk_runs.specs.Building.{due_ending, ending_fault, IsDotted, AreAccepted, IsNextLine, IsBuilt, without_ending, with_ending, behind_ending, other_ending, no_message, not_said}

-- ---- two fronts of one list

-- which of two fronts is the longer, where something stands behind each
pub data Apart {X : Type 0} (code : X → List ℕ) (xs ys : List X) (r s : List (List ℕ)) : Type 0 where
  same : xs ≡ ys → r ≡ s → Apart code xs ys r s
  shorter : (x : X) (more : List X) → ys ≡ xs ++ x ∷ more → r ≡ code x ∷ (map code more ++ s) → Apart code xs ys r s
  longer : (x : X) (more : List X) → xs ≡ ys ++ x ∷ more → s ≡ code x ∷ (map code more ++ r) → Apart code xs ys r s

module _ {X : Type 0} (code : X → List ℕ) (Held : X → Type 0) (apart : (x y : X) → Held x → Held y → code x ≡ code y → x ≡ y) where
  one_more : (x y : X) (xs ys : List X) (r s : List (List ℕ)) → x ≡ y → Apart code xs ys r s → Apart code (x ∷ xs) (y ∷ ys) r s
  one_more x y xs ys r s e (same f g) = same (ap (λ z. z ∷ xs) e ∙ ap (λ z. y ∷ z) f) g
  one_more x y xs ys r s e (shorter z more f g) = shorter z more (ap (λ w. y ∷ w) f ∙ ap (λ w. w ∷ (xs ++ z ∷ more)) (sym e)) g
  one_more x y xs ys r s e (longer z more f g) = longer z more (ap (λ w. x ∷ w) f ∙ ap (λ w. w ∷ (ys ++ z ∷ more)) e) g

  two_fronts : (xs ys : List X) (r s : List (List ℕ)) → AllByRecursion Held xs → AllByRecursion Held ys → map code xs ++ r ≡ map code ys ++ s → Apart code xs ys r s
  two_fronts [] [] r s h k e = same refl e
  two_fronts [] (y ∷ ys) r s h k e = shorter y ys refl e
  two_fronts (x ∷ xs) [] r s h k e = longer x xs refl (sym e)
  two_fronts (x ∷ xs) (y ∷ ys) r s h k e =
      let heads : code x ≡ code y = cc in
      let tails : map code xs ++ r ≡ map code ys ++ s = cc in
      one_more x y xs ys r s (apart x y h.0 k.0 heads) (two_fronts xs ys r s h.1 k.1 tails)

pub lines_apart : (M N : List Message) (r s : List (List ℕ)) → AllByRecursion Fits M → AllByRecursion Fits N → map line M ++ r ≡ map line N ++ s → Apart line M N r s
lines_apart = two_fronts line Fits line_apart

-- ---- what stands behind the lines that are accepted

-- a line that begins with a dot, and the lines after it
data EndsBy (messages : List Message) (next : List ℕ) (after : List (List ℕ)) (built : Built) : Type 0 where
  due : next ≡ due_ending messages → after ≡ [] → built ≡ Whole → EndsBy messages next after built
  behind : next ≡ due_ending messages → (more : List ℕ) (others : List (List ℕ)) → after ≡ more ∷ others →
      built ≡ LineRefused (length messages + 2) ending_fault → EndsBy messages next after built
  other : next ≢ due_ending messages → built ≡ LineRefused (length messages + 1) ending_fault → EndsBy messages next after built

-- a line that begins with no dot
data StopsBy (limits : Limits) (messages : List Message) (next : List ℕ) (built : Built) : Type 0 where
  foreign : ((m : Message) → Fits m → next ≢ line m) → (fault : LineFault) → built ≡ LineRefused (length messages + 1) fault → StopsBy limits messages next built
  unsaid : (m : Message) → Fits m → next ≡ line m → (fault : SayFault) → IsSayFault limits messages m fault →
      built ≡ SayRefused (length messages + 1) fault → StopsBy limits messages next built

data Behind (limits : Limits) (messages : List Message) (rest : List (List ℕ)) (built : Built) : Type 0 where
  at_end : rest ≡ [] → built ≡ Whole → Behind limits messages rest built
  at_dot : (next : List ℕ) (after : List (List ℕ)) → rest ≡ next ∷ after → IsDotted next → EndsBy messages next after built → Behind limits messages rest built
  at_letter : (next : List ℕ) (after : List (List ℕ)) → rest ≡ next ∷ after → (IsDotted next → ⊥) → StopsBy limits messages next built → Behind limits messages rest built

record Judged (limits : Limits) (lines : List (List ℕ)) (messages : List Message) (built : Built) : Type 0 where
  rest : List (List ℕ)
  is : lines ≡ map line messages ++ rest
  fit : AllByRecursion Fits messages
  said : AreSaid limits messages
  stands : Behind limits messages rest built

due_dotted : (messages : List Message) → IsDotted (due_ending messages)
due_dotted messages = let d = ending_dotted (whole (unanswered (conversation_of messages))) in subst IsDotted (sym d.1) refl

dot_first : (bytes : List ℕ) → IsDotted bytes → (rest : List ℕ) × (bytes ≡ 46 ∷ rest)
dot_first [] d = absurd d
dot_first (b ∷ rest) d = (rest, ap (λ z. z ∷ rest) d)

not_dotted : (m : Message) → IsDotted (line m) → ⊥
not_dotted m d = let f = dot_first (line m) d in line_lettered m f.0 f.1

module _ (limits : Limits) (lines : List (List ℕ)) (messages : List Message) (built : Built) where
  at_next : (next : List ℕ) (n : IsNextLine limits lines messages next) → Behind limits messages (next ∷ n.after) built → Judged limits lines messages built
  at_next next n b = record {
    rest = next ∷ n.after;
    is = n.stands ∙ ap (λ z. z ++ next ∷ n.after) n.accepted.are;
    fit = n.accepted.fit;
    said = n.accepted.said;
    stands = b;
  }

  judged : IsBuilt limits lines messages built → Judged limits lines messages built
  judged (without_ending a e) = record { rest = []; is = a.are ∙ sym (append-nil (map line messages)); fit = a.fit; said = a.said; stands = at_end refl e }
  judged (with_ending a e) = record {
    rest = due_ending messages ∷ [];
    is = a.ends ∙ ap (λ z. z ++ due_ending messages ∷ []) a.accepted.are;
    fit = a.accepted.fit;
    said = a.accepted.said;
    stands = at_dot (due_ending messages) [] refl (due_dotted messages) (due refl refl e);
  }
  judged (behind_ending next b e) = record {
    rest = due_ending messages ∷ next ∷ b.after;
    is = b.stands ∙ ap (λ z. z ++ next ∷ b.after) (b.ended.ends ∙ ap (λ z. z ++ due_ending messages ∷ []) b.ended.accepted.are)
        ∙ append_assoc (map line messages) (due_ending messages ∷ []) (next ∷ b.after);
    fit = b.ended.accepted.fit;
    said = b.ended.accepted.said;
    stands = at_dot (due_ending messages) (next ∷ b.after) refl (due_dotted messages) (behind refl next b.after refl e);
  }
  judged (other_ending next n d differs e) = at_next next n (at_dot next n.after refl d (other differs e))
  judged (no_message next n d none fault r e) = at_next next n (at_letter next n.after refl d (foreign none fault e))
  judged (not_said m held n fault is e) = at_next (line m) n (at_letter (line m) n.after refl (not_dotted m) (unsaid m held refl fault is e))

-- ---- no message that may be said stands there

first_same : (a b : List ℕ) (xs ys rest : List (List ℕ)) → rest ≡ a ∷ xs → rest ≡ b ∷ ys → a ≡ b
first_same a b xs ys rest e f = cc

rest_same : (a b : List ℕ) (xs ys rest : List (List ℕ)) → rest ≡ a ∷ xs → rest ≡ b ∷ ys → xs ≡ ys
rest_same a b xs ys rest e f = cc

none_first : (a : List ℕ) (xs rest : List (List ℕ)) → rest ≡ [] → rest ≡ a ∷ xs → ⊥
none_first a xs rest e f = cc

module _ (limits : Limits) (messages : List Message) (rest : List (List ℕ)) (said : AreSaid limits messages) where
  no_more : (built : Built) → Behind limits messages rest built → (m : Message) (others : List (List ℕ)) → Fits m → MaySay limits messages m → rest ≡ line m ∷ others → ⊥
  no_more built (at_end e b) m others held may is = none_first (line m) others rest e is
  no_more built (at_dot next after e d b) m others held may is =
      not_dotted m (subst IsDotted (first_same next (line m) after others rest e is) d)
  no_more built (at_letter next after e d (foreign none fault b)) m others held may is = none m held (first_same next (line m) after others rest e is)
  no_more built (at_letter next after e d (unsaid n fits here fault is_fault b)) m others held may is =
      let same_message : n ≡ m = line_apart n m fits held (sym here ∙ first_same next (line m) after others rest e is) in
      may_or_not limits messages m fault said may (subst (λ z. IsSayFault limits messages z fault) same_message is_fault)

-- a message that was said after others, and those after it
module _ (limits : Limits) (before : List Message) (m : Message) (more all : List Message) (is : all ≡ before ++ m ∷ more) where
  may_say : AreSaid limits all → MaySay limits before m
  may_say said = said before m more is

  held_at : (xs : List Message) → AllByRecursion Fits (xs ++ m ∷ more) → Fits m
  held_at [] h = h.0
  held_at (x ∷ xs) h = held_at xs h.1

  held : AllByRecursion Fits all → Fits m
  held h = held_at before (subst (AllByRecursion Fits) is h)

module _ (limits : Limits) (lines : List (List ℕ)) (M N : List Message) (b c : Built) (p : Judged limits lines M b) (q : Judged limits lines N c) where
  all_same : Apart line M N p.rest q.rest → (M ≡ N) × (p.rest ≡ q.rest)
  all_same (same e f) = (e, f)
  all_same (shorter m more e f) =
      absurd (no_more limits M p.rest p.said b p.stands m (map line more ++ q.rest) (held limits M m more N e q.fit) (may_say limits M m more N e q.said) f)
  all_same (longer m more e f) =
      absurd (no_more limits N q.rest q.said c q.stands m (map line more ++ p.rest) (held limits N m more M e p.fit) (may_say limits N m more M e p.said) f)

  one_verdict : (M ≡ N) × (p.rest ≡ q.rest)
  one_verdict = all_same (lines_apart M N p.rest q.rest p.fit q.fit (sym p.is ∙ q.is))

-- ---- one verdict

alike_self : (b : Built) → AreAlike b b
alike_self Whole = tt
alike_self (LineRefused at fault) = refl
alike_self (SayRefused at fault) = (refl, refl)

-- a line that is no message's stands there
abbrev IsOdd : List (List ℕ) → Type 0
IsOdd rest = (next : List ℕ) × (after : List (List ℕ)) × (rest ≡ next ∷ after) × (IsDotted next → ⊥) × ((m : Message) → Fits m → next ≢ line m)

record Agree (rest : List (List ℕ)) (b c : Built) : Type 0 where
  alike : AreAlike b c
  same_or_odd : (b ≡ c) ⊎ IsOdd rest

agree : (rest : List (List ℕ)) (b c : Built) → b ≡ c → Agree rest b c
agree rest b c e = record { alike = subst (AreAlike b) e (alike_self b); same_or_odd = inl e }

some_behind : (a : List ℕ) (xs after : List (List ℕ)) → after ≡ [] → after ≡ a ∷ xs → ⊥
some_behind a xs after e f = cc

module _ (limits : Limits) (messages : List Message) (rest : List (List ℕ)) (b c : Built) where
  ends_alike : (next next' : List ℕ) (after after' : List (List ℕ)) → next ≡ next' → after ≡ after' → EndsBy messages next after b → EndsBy messages next' after' c → b ≡ c
  ends_alike next next' after after' e f (due d n s) (due d' n' s') = s ∙ sym s'
  ends_alike next next' after after' e f (due d n s) (behind d' more others n' s') = absurd (some_behind more others after n (f ∙ n'))
  ends_alike next next' after after' e f (due d n s) (other d' s') = absurd (d' (sym e ∙ d))
  ends_alike next next' after after' e f (behind d more others n s) (due d' n' s') = absurd (some_behind more others after (f ∙ n') n)
  ends_alike next next' after after' e f (behind d more others n s) (behind d' more' others' n' s') = s ∙ sym s'
  ends_alike next next' after after' e f (behind d more others n s) (other d' s') = absurd (d' (sym e ∙ d))
  ends_alike next next' after after' e f (other d s) (due d' n' s') = absurd (d (e ∙ d'))
  ends_alike next next' after after' e f (other d s) (behind d' more others n' s') = absurd (d (e ∙ d'))
  ends_alike next next' after after' e f (other d s) (other d' s') = s ∙ sym s'

  refused_alike : (at : ℕ) (f g : LineFault) → b ≡ LineRefused at f → c ≡ LineRefused at g → AreAlike b c
  refused_alike at f g e k = subst (λ z. AreAlike z c) (sym e) (subst (AreAlike (LineRefused at f)) (sym k) refl)

  stops_alike : (next next' : List ℕ) (after : List (List ℕ)) → rest ≡ next ∷ after → (IsDotted next → ⊥) → next ≡ next' → StopsBy limits messages next b → StopsBy limits messages next' c → Agree rest b c
  stops_alike next next' after is d e (foreign none f s) (foreign none' f' s') =
      record { alike = refused_alike (length messages + 1) f f' s s'; same_or_odd = inr (next, after, is, d, none) }
  stops_alike next next' after is d e (foreign none f s) (unsaid m h here f' i s') = absurd (none m h (e ∙ here))
  stops_alike next next' after is d e (unsaid m h here f i s) (foreign none f' s') = absurd (none m h (sym e ∙ here))
  stops_alike next next' after is d e (unsaid m h here f i s) (unsaid m' h' here' f' i' s') =
      let same_message : m ≡ m' = line_apart m m' h h' (sym here ∙ e ∙ here') in
      let same_fault : f ≡ f' = refused_once limits messages m' f f' (subst (λ z. IsSayFault limits messages z f) same_message i) i' in
      agree rest b c (s ∙ ap (SayRefused (length messages + 1)) same_fault ∙ sym s')

  behind_alike : Behind limits messages rest b → Behind limits messages rest c → Agree rest b c
  behind_alike (at_end e s) (at_end e' s') = agree rest b c (s ∙ sym s')
  behind_alike (at_end e s) (at_dot next after is d v) = absurd (none_first next after rest e is)
  behind_alike (at_end e s) (at_letter next after is d v) = absurd (none_first next after rest e is)
  behind_alike (at_dot next after is d v) (at_end e s) = absurd (none_first next after rest e is)
  behind_alike (at_dot next after is d v) (at_dot next' after' is' d' v') =
      agree rest b c (ends_alike next next' after after' (first_same next next' after after' rest is is') (rest_same next next' after after' rest is is') v v')
  behind_alike (at_dot next after is d v) (at_letter next' after' is' d' v') =
      absurd (d' (subst IsDotted (first_same next next' after after' rest is is') d))
  behind_alike (at_letter next after is d v) (at_end e s) = absurd (none_first next after rest e is)
  behind_alike (at_letter next after is d v) (at_dot next' after' is' d' v') =
      absurd (d (subst IsDotted (sym (first_same next next' after after' rest is is')) d'))
  behind_alike (at_letter next after is d v) (at_letter next' after' is' d' v') =
      stops_alike next next' after is d (first_same next next' after after' rest is is') v v'

module _ (limits : Limits) (lines : List (List ℕ)) (M N : List Message) (b c : Built) (p : IsBuilt limits lines M b) (q : IsBuilt limits lines N c) where
  pub messages_once : M ≡ N
  messages_once = (one_verdict limits lines M N b c (judged limits lines M b p) (judged limits lines N c q)).0

  agreed : Agree (judged limits lines M b p).rest b c
  agreed =
      let i = judged limits lines M b p in
      let j = judged limits lines N c q in
      let v = one_verdict limits lines M N b c i j in
      behind_alike limits M i.rest b c i.stands (subst (λ z. Behind limits z i.rest c) (sym v.0) (subst (λ z. Behind limits N z c) (sym v.1) j.stands))

  pub alike_once : AreAlike b c
  alike_once = agreed.alike

  odd_foreign : IsOdd (judged limits lines M b p).rest → IsForeign limits lines M
  odd_foreign o =
      let i = judged limits lines M b p in (
        o.0,
        record {
          before = map line M;
          after = o.1;
          stands = i.is ∙ ap (λ z. map line M ++ z) o.2;
          accepted = record { are = refl; fit = i.fit; said = i.said };
        },
        o.3,
        o.4,
      )

  pub same_once : (b ≡ c) ⊎ IsForeign limits lines M
  same_once = go agreed.same_or_odd
    where
      go : ((b ≡ c) ⊎ IsOdd (judged limits lines M b p).rest) → (b ≡ c) ⊎ IsForeign limits lines M
      go (inl e) = inl e
      go (inr o) = inr (odd_foreign o)

-- ---- messages whose lines are accepted stand first

module _ (limits : Limits) (all : List (List ℕ)) (others : List Message) (built : Built) (j : Judged limits all others built) (lines more : List (List ℕ)) (messages : List Message) (a : AreAccepted limits lines messages) where
  stand_first : Apart line messages others more j.rest → (rest : List Message) × (others ≡ messages ++ rest)
  stand_first (same f g) = ([], sym f ∙ sym (append-nil messages))
  stand_first (shorter m rest f g) = (m ∷ rest, f)
  stand_first (longer m rest f g) =
      absurd (no_more limits others j.rest j.said built j.stands m (map line rest ++ more) (held limits others m rest messages f a.fit) (may_say limits others m rest messages f a.said) g)

pub accepted_first : (limits : Limits) (all : List (List ℕ)) (others : List Message) (built : Built) → IsBuilt limits all others built →
    (lines more : List (List ℕ)) (messages : List Message) → AreAccepted limits lines messages → all ≡ lines ++ more → (rest : List Message) × (others ≡ messages ++ rest)
accepted_first limits all others built is lines more messages a e =
    let j = judged limits all others built is in
    stand_first limits all others built j lines more messages a (lines_apart messages others more j.rest a.fit j.fit (ap (λ z. z ++ more) (sym a.are) ∙ sym e ∙ j.is))
