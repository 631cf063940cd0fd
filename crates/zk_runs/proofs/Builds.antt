-- What a run writes is fixed by the bytes that it may read.
use Rattle.std.proofs.Common.{◌≡◌, ℕ, List, [], ◌∷◌, ◌++◌, map, Option, Some, None, refl, sym, ap, ◌∙◌, append_assoc, append-nil, subst}
use Rattle.std.proofs.{lemmas.List.Concat.flat_map-append, lemmas.List.map-append}
use Rattle.std.specs.List.{flat_map}
use Rattle.std.specs.Io.KnownBytes.{Consumes, IsAtEnd, Appends}
use Rattle.zk_talk.specs.{declared.limits.Limits.Limits, Held.Message}
use Rattle.zk_lines.specs.Lines.{line}
use Rattle.zk_runs.specs.{declared.build_result.Built.Built, declared.build_result.Built.TheVariants.Whole}
use Rattle.zk_runs.specs.Building.{head, built_bytes, AreLines, StandFirst, recording_of, piece_of, AreAccepted, IsNextLine, IsBuilt, without_ending, with_ending, behind_ending, other_ending, no_message, not_said, Covers}
use Rattle.zk_recordings.specs.Recording.{First, InPieces, front}
use Rattle.zk_listings.specs.Outcome.{HasGrownIn}
use Rattle.zk_runs.specs.Rebuilding.{AreBuilt, BuildsAlike, BuildsWithin, Stopped}
use Rattle.zk_runs.proofs.{Known.grown_less, Splits.lines_once, Splits.first_lines, Verdicts.messages_once, Verdicts.alike_once, Verdicts.accepted_first}

-- ---- more lines

module _ (limits : Limits) (lines more : List (List ℕ)) (messages : List Message) where
  next_more : (next : List ℕ) → IsNextLine limits lines messages next → IsNextLine limits (lines ++ more) messages next
  next_more next n = record {
    before = n.before;
    after = n.after ++ more;
    stands = ap (λ z. z ++ more) n.stands ∙ append_assoc n.before (next ∷ n.after) more;
    accepted = n.accepted;
  }

  -- a refusal stands, whatever follows
  built_more : (built : Built) → (built ≡ Whole → ⊥) → IsBuilt limits lines messages built → IsBuilt limits (lines ++ more) messages built
  built_more built refused (without_ending a e) = absurd (refused e)
  built_more built refused (with_ending a e) = absurd (refused e)
  built_more built refused (behind_ending next b e) = behind_ending next (record {
    before = b.before;
    after = b.after ++ more;
    stands = ap (λ z. z ++ more) b.stands ∙ append_assoc b.before (next ∷ b.after) more;
    ended = b.ended;
  }) e
  built_more built refused (other_ending next n d differs e) = other_ending next (next_more next n) d differs e
  built_more built refused (no_message next n d none fault r e) = no_message next (next_more next n) d none fault r e
  built_more built refused (not_said m held n fault is e) = not_said m held (next_more (line m) n) fault is e

-- what was judged of the lines of some bytes stands for the lines of all
module _ (limits : Limits) (bytes rest : List ℕ) (unread : Option (List ℕ)) (ends : IsAtEnd unread → rest ≡ []) (all : List (List ℕ)) (are : AreLines (bytes ++ rest) all) (lines : List (List ℕ)) (messages : List Message) where
  by_front : (built : Built) → (built ≡ Whole → ⊥) → StandFirst bytes unread lines → IsBuilt limits lines messages built → IsBuilt limits all messages built
  by_front built refused stand is =
      let f = first_lines bytes rest unread lines all ends stand are in
      subst (λ z. IsBuilt limits z messages built) (sym f.1) (built_more limits lines f.0 messages built refused is)

  covered : (built : Built) → Covers built bytes unread lines → IsBuilt limits lines messages built → IsBuilt limits all messages built
  covered Whole c is =
      let same = lines_once bytes all lines (subst (λ z. AreLines z all) (ap (λ z. bytes ++ z) (ends c.0) ∙ append-nil bytes) are) c.1 in
      subst (λ z. IsBuilt limits z messages Whole) (sym same) is
  covered built c is = by_front built (λ e. cc) c is

-- ---- a source whose bytes are known

-- what was read of it, and what is left
pub record Leaves (x bytes : List ℕ) (unread : Option (List ℕ)) : Type 0 where
  pub rest : List ℕ
  pub is : x ≡ bytes ++ rest
  pub ends : IsAtEnd unread → rest ≡ []

pub leaves : (x bytes : List ℕ) (unread : Option (List ℕ)) → Consumes (Some x) unread bytes → Leaves x bytes unread
leaves x bytes None c = absurd c
leaves x bytes (Some rest) c = record { rest = rest; is = c; ends = λ e. e }

pub run_once : (limits : Limits) (x : List ℕ) (messages : List Message) (built : Built) → AreBuilt limits x messages built → BuildsAlike limits x messages built
run_once limits x messages built b unread contents contents_now other h =
    let l = leaves x h.bytes unread h.consumed in
    let known = covered limits h.bytes l.rest unread l.ends b.lines (subst (λ z. AreLines z b.lines) l.is b.are) h.lines h.messages other h.stand h.are in (
      alike_once limits b.lines messages h.messages built other b.is known,
      subst (λ z. Appends contents contents_now (recording_of z)) (sym (messages_once limits b.lines messages h.messages built other b.is known)) h.written,
    )

-- ---- a run that stopped

recording-append : (M N : List Message) → recording_of (M ++ N) ≡ recording_of M ++ flat_map built_bytes (map piece_of N)
recording-append M N =
    ap (λ ps. front (InPieces First ps)) (map-append piece_of M N)
    ∙ ap (λ z. head ++ z) (flat_map-append built_bytes (map piece_of M) (map piece_of N))
    ∙ sym (append_assoc head (flat_map built_bytes (map piece_of M)) (flat_map built_bytes (map piece_of N)))

module _ (limits : Limits) (all : List (List ℕ)) (others : List Message) (built : Built) (is : IsBuilt limits all others built) (before after : Option (List ℕ)) where
  grown_first : (lines more : List (List ℕ)) (messages : List Message) → AreAccepted limits lines messages → all ≡ lines ++ more →
      HasGrownIn before after (recording_of messages) → HasGrownIn before after (recording_of others)
  grown_first lines more messages a e g =
      let f = accepted_first limits all others built is lines more messages a e in
      subst (HasGrownIn before after) (sym (ap recording_of f.1 ∙ recording-append messages f.0))
      (grown_less before after (recording_of messages) (flat_map built_bytes (map piece_of f.0)) g)

-- whose bytes are known
pub begun_of_known : (limits : Limits) (x : List ℕ) (messages : List Message) (built : Built) → AreBuilt limits x messages built → BuildsWithin limits x messages
begun_of_known limits x messages built all unread contents contents_now b =
    let l = leaves x b.bytes unread b.consumed in
    let f = first_lines b.bytes l.rest unread b.lines all.lines l.ends b.stand (subst (λ z. AreLines z all.lines) l.is all.are) in
    grown_first limits all.lines messages built all.is contents contents_now b.lines f.0 b.messages b.are f.1 b.written

-- by the bytes that were read
pub begun_of_read : (s : Stopped) → HasGrownIn s.contents s.contents_now (recording_of s.messages)
begun_of_read s =
    let b = s.begun in
    let all = s.are in
    let f = first_lines b.bytes [] s.unread_now b.lines all.lines (λ e. refl) b.stand (subst (λ z. AreLines z all.lines) (sym (append-nil b.bytes)) all.are) in
    grown_first s.limits all.lines s.messages s.built all.is s.contents s.contents_now b.lines f.0 b.messages b.are f.1 b.written
