-- Whether a side has spoken, and how many frames it has.
use Rattle.std.proofs.Common.{◌≡◌, ℕ, List, [], ◌∷◌, length, refl, ap, ◌∙◌, arith, Bool, true, false, MatchBool}
use Rattle.zk_answers.specs.{Held.ServerFrame, Frames.IsConnected, Frames.IsEvent}
use Rattle.zk_answers.specs.declared.frame.ServerFrameOf.TheVariants.{Connected, Answered, Event}
use Rattle.zk_waiting.specs.Waiting.{Lanes}
use Rattle.zk_talk.specs.{Conversation.Conversation, Describes.Describes, Said.Heard, Said.HasSpoken, Settled.IsTurn, Settled.IsTurnAfter}

pub described : (asked welcomed : Bool) (w : Lanes) (v : Conversation) → Heard asked welcomed w v → Describes (length v.client) (length v.server) w v
described asked welcomed w v heard = record { client = refl; server = refl; may = heard.may; queues = heard.queues }

pub none_spoken : {X : Type 0} (spoken : Bool) (xs : List X) → HasSpoken spoken xs → spoken ≡ false → length xs ≡ 0
none_spoken true xs h e = absurd (cc)
none_spoken false xs h e = ap length h

pub some_spoken : {X : Type 0} (spoken : Bool) (xs : List X) → HasSpoken spoken xs → spoken ≡ true → length xs ≡ 0 → ⊥
some_spoken true [] h e n = h refl
some_spoken true (x ∷ xs) h e n = omega (arith, n)
some_spoken false xs h e n = absurd (cc)

pub turn_first : (welcomed : Bool) (s : ServerFrame) → welcomed ≡ false → IsConnected s → IsTurn welcomed s
turn_first true s e c = absurd (cc)
turn_first false s e c = c

pub turn_later : (welcomed : Bool) (s : ServerFrame) → welcomed ≡ true → (IsConnected s → ⊥) → IsTurn welcomed s
turn_later true s e n = n
turn_later false s e n = absurd (cc)

pub no_welcome : (s : ServerFrame) → IsEvent s → IsConnected s → ⊥
no_welcome (Connected t g) e c = e
no_welcome (Answered r) e c = c
no_welcome (Event z k) e c = c

-- the number of a side's frames tells whether it has spoken
spoken_by : {X : Type 0} (spoken : Bool) (n : ℕ) (xs : List X) → n ≡ length xs → MatchBool spoken (n ≡ 0 → ⊥) (n ≡ 0) → HasSpoken spoken xs
spoken_by true n xs e k = λ none. k (e ∙ ap length none)
spoken_by false n [] e k = refl
spoken_by false n (x ∷ xs) e k = absurd (omega (arith, e, k))

pub hears : (asked welcomed : Bool) (n m : ℕ) (w : Lanes) (v : Conversation) → MatchBool asked (n ≡ 0 → ⊥) (n ≡ 0) → MatchBool welcomed (m ≡ 0 → ⊥) (m ≡ 0) → Describes n m w v → Heard asked welcomed w v
hears asked welcomed n m w v a b d = record {
  client = spoken_by asked n v.client d.client a;
  server = spoken_by welcomed m v.server d.server b;
  may = d.may;
  queues = d.queues;
}

pub turned : (spoken : Bool) (count : ℕ) (s : ServerFrame) → MatchBool spoken (count ≡ 0 → ⊥) (count ≡ 0) → IsTurn spoken s → IsTurnAfter count s
turned true count s k x = ((λ z. absurd (k z)), (λ n. x))
turned false count s k x = ((λ z. x), (λ n. absurd (n k)))
