-- What a writer holds once what is due is written, and what it holds if the write fails.
use Rattle.std.proofs.Common.{◌≡◌, ◌≢◌, ◌<◌, ℕ, List, [], ◌++◌, Option, None, Some, take, drop, length, min, get_or, refl, sym, ap, ◌∙◌, subst, append_assoc, append-nil, arith, eq-eqb, length-take}
use Rattle.std.specs.{Io.KnownBytes.Appends, Io.KnownBytes.append_known, List.All}
use Rattle.std.proofs.lemmas.List.{append_cancel_left, get_or-take, take-append-le, take_min, take-append-drop}
use Rattle.std.proofs.lemmas.List.Elements.{All-from_get_or}
use Rattle.memchr.specs.Find.{Nowhere, Passes, is_byte}
use Rattle.zk_listings.specs.Outcome.{HasGrownIn}
use Rattle.zk_listings.proofs.Found.{grown-further}

pub known-none : (now : Option (List ℕ)) (due : List ℕ) → due ≡ [] → now ≡ append_known now due
known-none None due e = refl
known-none (Some xs) due e = ap Some (sym (append-nil xs) ∙ ap (λ l. xs ++ l) (sym e))

pub known-more : (now : Option (List ℕ)) (due more due_now : List ℕ) → due_now ≡ due ++ more → Appends (append_known now due) (append_known now due_now) more
known-more None due more due_now e = tt
known-more (Some xs) due more due_now e = ap (λ l. xs ++ l) e ∙ sym (append_assoc xs due more)

pub known-whole : (before now after : Option (List ℕ)) (due text : List ℕ) → Appends before (append_known now due) text → Appends now after due → Appends before after text
known-whole None now after due text p q = tt
known-whole (Some bs) None after due text p q = absurd p
known-whole (Some bs) (Some xs) None due text p q = absurd q
known-whole (Some bs) (Some xs) (Some ys) due text p q = q ∙ p

pub known-part : (before now after : Option (List ℕ)) (due sent text : List ℕ) → Appends before now sent → Appends before (append_known now due) text → HasGrownIn now after due →
    HasGrownIn before after text
known-part None now after due sent text a p q = (0, tt)
known-part (Some bs) None after due sent text a p q = absurd a
known-part (Some bs) (Some xs) None due sent text a p q = absurd q.1
known-part (Some bs) (Some xs) (Some ys) due sent text a p q =
    let all : bs ++ (sent ++ due) ≡ bs ++ text = sym (append_assoc bs sent due) ∙ ap (λ l. l ++ due) (sym a) ∙ p in
    subst (HasGrownIn (Some bs) (Some ys)) (append_cancel_left bs (sent ++ due) text all) (grown-further (Some bs) (Some xs) (Some ys) sent due a q)

-- a front of a list, as one of a longer list
take_less : (k : ℕ) (xs ys : List ℕ) → take (min k (length xs)) (xs ++ ys) ≡ take k xs
take_less k xs ys = take-append-le (min k (length xs)) xs ys (omega arith) ∙ take_min k xs

pub grown_less : (before after : Option (List ℕ)) (xs ys : List ℕ) → HasGrownIn before after xs → HasGrownIn before after (xs ++ ys)
grown_less before after xs ys g = (min g.0 (length xs), subst (Appends before after) (sym (take_less g.0 xs ys)) g.1)

pub known-front : (before now after : Option (List ℕ)) (due sent text : List ℕ) → Appends before now sent → HasGrownIn before (append_known now due) text → HasGrownIn now after due →
    HasGrownIn before after text
known-front before now after due sent text a p q =
    subst (HasGrownIn before after) (take-append-drop p.0 text)
    (grown_less before after (take p.0 text) (drop p.0 text) (known-part before now after due sent (take p.0 text) a p.1 q))

-- no byte before a place is a line feed
pub plain-before : (bytes : List ℕ) (n : ℕ) → Nowhere (Passes (is_byte 10) bytes) 0 n → All (λ b. b ≢ 10) (take n bytes)
plain-before bytes n none = All-from_get_or (λ b. b ≢ 10) (take n bytes) 0 (λ i within e.
    let low : i < n = omega (arith, within, length-take n bytes) in
    none i (omega arith) low (eq-eqb (get_or bytes i 0) 10 (sym (get_or-take n bytes i 0 low) ∙ e)))
