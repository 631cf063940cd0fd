-- Lines, one behind the other.
use Rattle.std.proofs.Common.{◌≡◌, ℕ, ◌+◌, ◌<◌, ◌≤◌, List, [], ◌∷◌, ◌++◌, length, take, get_or, sym, ap, ◌∙◌, subst, append_assoc, Option, Some, None}
use Rattle.std.specs.Prelude.{MatchOption}
use Rattle.std.proofs.{lemmas.List.append-nil, lemmas.List.take_more, lemmas.List.take_all, lemmas.Grind.flat_map-append}
use Rattle.std.specs.List.{flat_map}
use Rattle.zk_talk.specs.{Held.Message, declared.message.Ending.Ending}
use Rattle.zk_lines.specs.Endings.{ending_text}
use Rattle.zk_c.specs.Listing.{message_line, listing}
use Rattle.zk_c.proofs.Handles.{same_value}

-- the line of one more message
pub next_line : (messages : List Message) (i : ℕ) (m : Message) (before text : List ℕ) → i < length messages → m ≡ get_or messages i m → before ≡ flat_map message_line (take i messages) → text ≡ before ++ message_line m
    → text ≡ flat_map message_line (take (i + 1) messages)
next_line messages i m before text within is so_far more =
    let lines = flat_map message_line (take i messages) in
    more ∙ (λ k. so_far k ++ message_line (is k)) ∙ ap (λ (xs : List ℕ). lines ++ xs) (sym (append-nil (message_line (get_or messages i m)))) ∙ sym (flat_map-append message_line (take i messages) (get_or messages i m ∷ []))
    ∙ ap (flat_map message_line) (sym (take_more messages i m within))

-- and that of the ending
pub with_ending : (messages : List Message) (i : ℕ) (ending : Ending) (before text last : List ℕ) → length messages ≤ i → before ≡ flat_map message_line (take i messages) → text ≡ before ++ ending_text ending → last ≡ text ++ 10 ∷ []
    → last ≡ listing messages ending
with_ending messages i ending before text last past so_far is ends =
    ends ∙ ap (λ (xs : List ℕ). xs ++ 10 ∷ []) is ∙ append_assoc before (ending_text ending) (10 ∷ [])
    ∙ ap (λ (xs : List ℕ). xs ++ (ending_text ending ++ 10 ∷ [])) (so_far ∙ ap (flat_map message_line) (take_all i messages past))

-- what is told of an option that has this value
pub told_of : {A : Type 0} (P : Type 0) (Q : A → Type 0) (o : Option A) (x : A) → MatchOption o P Q → o ≡ Some x → Q x
told_of P Q (Some y) x told e = subst Q (same_value e) told
told_of P Q None x told e = absurd (cc)
