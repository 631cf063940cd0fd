-- Whatever bytes are as a recording, it comes to something.
use Rattle.std.proofs.Common.{ℕ, ◌<◌, inl, inr, List, [], ◌∷◌, ◌++◌, length, Option, Some, None, refl, sym, subst}
use Rattle.std.specs.List.{AllByRecursion, flat_map}
use Rattle.zk_talk.specs.{declared.limits.Limits.Limits, declared.message.Side.Side, Held.Message, History.History, History.on, Conversation.Conversation, Good.Good, Good.IsOrder, Ending.unanswered}
use Rattle.zk_talk.specs.declared.message.Side.TheVariants.{Client, Server}
use Rattle.zk_talk.specs.declared.message.Ending.TheVariants.{Whole, Cut, Refused}
use Rattle.zk_talk.proofs.{Deciding.AreBytes, Deciding.IsStopped, Deciding.history_decided, Headline.fault_is_bad}
use Rattle.zk_frames.proofs.Cuts.{AllByRecursion-left, AllByRecursion-right}
use Rattle.zk_recordings.specs.{declared.parts.DamageAt.DamageAt, declared.parts.Format.Format}
use Rattle.zk_recordings.specs.Recording.{Recording, Breaks, Ends, Place, InPieces, Piece, format_of, head_bytes, spelled, piece_values, piece_bytes, piece_history, front, place_of, begun_of, begun_history, history_at, bytes_of, history_of, limits_of, damage_of, Spells}
use Rattle.zk_listings.specs.{declared.summary.Summary.Summary, Outcome.IsOutcome, Outcome.HasMessages, Outcome.ComesTo}
use Rattle.zk_listings.specs.declared.summary.Summary.TheVariants.{Ended, Broken}

-- ---- the bytes of its history are its own

abbrev AllBytes : List ℕ → Type 0
AllBytes x = AllByRecursion (λ b. b < 256) x

pub all-append : {X : Type 0} (P : X → Type 0) (xs ys : List X) → AllByRecursion P xs → AllByRecursion P ys → AllByRecursion P (xs ++ ys)
all-append P [] ys p q = q
all-append P (x ∷ xs) ys p q = (p.0, all-append P xs ys p.1 q)

both : (g h : History) → AreBytes g → AreBytes h → AreBytes (g ++ h)
both g h p q = all-append (λ (x : Side × ℕ). x.1 < 256) g h p q

on_bytes : (side : Side) (x : List ℕ) → AllBytes x → AreBytes (on side x)
on_bytes side [] p = tt
on_bytes side (b ∷ x) p = (p.0, on_bytes side x p.1)

behind_values : (values : List (List ℕ)) (rest : List ℕ) → AllBytes (spelled values rest) → AllBytes rest
behind_values [] rest p = p
behind_values (v ∷ values) rest p = behind_values values rest (AllByRecursion-right (λ b. b < 256) v (spelled values rest) p)

one_piece : (format : Format) (p : Piece) → AllBytes (piece_bytes format p) → AreBytes (piece_history p)
one_piece format p bytes = on_bytes p.side p.content (behind_values (piece_values format p) p.content bytes)

all_pieces : (format : Format) (pieces : List Piece) → AllBytes (flat_map (piece_bytes format) pieces) → AreBytes (flat_map piece_history pieces)
all_pieces format [] bytes = tt
all_pieces format (p ∷ pieces) bytes =
    both (piece_history p) (flat_map piece_history pieces)
    (one_piece format p (AllByRecursion-left (λ b. b < 256) (piece_bytes format p) (flat_map (piece_bytes format) pieces) bytes))
    (all_pieces format pieces (AllByRecursion-right (λ b. b < 256) (piece_bytes format p) (flat_map (piece_bytes format) pieces) bytes))

at_bytes : (place : Place) → AllBytes (front place) → AreBytes (history_at place)
at_bytes (InPieces head pieces) bytes = all_pieces (format_of head) pieces (AllByRecursion-right (λ b. b < 256) (head_bytes head) (flat_map (piece_bytes (format_of head)) pieces) bytes)
at_bytes _ bytes = tt

begun_bytes : (r : Recording) → AllBytes (begun_of r) → AreBytes (begun_history r)
begun_bytes (Breaks place b) bytes = tt
begun_bytes (Ends head pieces last) bytes = one_piece (format_of head) last bytes

history_bytes : (r : Recording) → AllBytes (bytes_of r) → AreBytes (history_of r)
history_bytes r bytes =
    let before = front (place_of r) in
    both (history_at (place_of r)) (begun_history r) (at_bytes (place_of r) (AllByRecursion-left (λ b. b < 256) before (begun_of r) bytes))
    (begun_bytes r (AllByRecursion-right (λ b. b < 256) before (begun_of r) bytes))

-- ---- what it comes to

abbrev Comes : Limits → History → Option DamageAt → Type 0
Comes limits h damage = (messages : List Message) × (summary : Summary) × ComesTo limits h damage summary × HasMessages limits h messages summary

module _ (limits : Limits) (h : History) where
  ended : (v : Conversation) (c s : List ℕ) (M : List Message) → Good limits h v c s → IsOrder limits h v M → Comes limits h None
  ended v [] [] M g o = (M, Ended (Whole (unanswered v)), (refl, (v, g, refl)), (v, [], [], g, o))
  ended v [] (b ∷ s) M g o = (M, Ended (Cut Server (length v.server) (length (b ∷ s))), (refl, (v, [], b ∷ s, g, (refl, (λ e. absurd cc), refl, refl))), (v, [], b ∷ s, g, o))
  ended v (b ∷ c) s M g o = (M, Ended (Cut Client (length v.client) (length (b ∷ c))), (refl, (v, b ∷ c, s, g, ((λ e. absurd cc), refl, refl))), (v, b ∷ c, s, g, o))

  reached : (damage : Option DamageAt) (v : Conversation) (c s : List ℕ) (M : List Message) → Good limits h v c s → IsOrder limits h v M → Comes limits h damage
  reached None v c s M g o = ended v c s M g o
  reached (Some d) v c s M g o = (
    M,
    Broken d,
    ((λ f is. fault_is_bad limits h f is (v, c, s, g)), refl),
    record { conversation = v; client_rest = c; server_rest = s; good = g; order = o },
  )

  stopped : (damage : Option DamageAt) → IsStopped limits h → Comes limits h damage
  stopped damage f = (f.1, Ended (Refused f.0), f.2.0, f.2)

  comes : (damage : Option DamageAt) → AreBytes h → Comes limits h damage
  comes damage bytes = elim (history_decided limits h bytes) [
    | inl r ↦ subst (λ (l : Limits). (v : Conversation) (c s : List ℕ) → Good l h v c s → IsOrder l h v r.messages → Comes limits h damage) (sym r.is) (λ v c s g o. reached damage v c s r.messages g o) r.stands.conversation r.talk.client_held r.talk.server_held r.stands.good r.stands.order
    | inr f ↦ stopped damage f
  ]

pub some_outcome : (limits : Limits) (x : List ℕ) (r : Recording) → AllBytes x → Spells x r → (messages : List Message) × (summary : Summary) × IsOutcome limits r messages summary
some_outcome limits x r bytes spells =
    let c = comes (limits_of limits r) (history_of r) (damage_of r) (history_bytes r (subst AllBytes spells.is bytes)) in
    (c.0, c.1, record { comes_to = c.2; messages_are = c.3 })
