-- What is built of the listing of a whole conversation.
use Rattle.std.proofs.Common.{◌≡◌, ℕ, ◌<◌, ◌≤◌, ◌^◌, List, [], ◌∷◌, ◌++◌, length, map, refl, sym, ap, ◌∙◌, append-nil, arith, subst, true, w32}
use Rattle.std.proofs.{lemmas.Bool.Decides.nat_tests, lemmas.Nat.from_be_bytes-to_be_bytes_4, lemmas.List.Concat.flat_map-append, lemmas.List.Folds.flat_map-map, lemmas.List.Elements.All-map, lemmas.List.Elements.All-from_recursion}
use Rattle.std.specs.{Int.to_be_bytes, List.All, List.AllByRecursion, List.flat_map}
use Rattle.zk_frames.specs.Framing.{frame}
use Rattle.zk_frames.proofs.Cuts.{AllByRecursion-push, length-frame}
use Rattle.zk_talk.specs.{declared.limits.Limits.Limits, Held.Message, declared.message.Ending.TheVariants.Whole as whole, History.side_bytes, History.HaveSameBytes, Good.Good, Good.IsOrder, Ending.unanswered}
use Rattle.zk_talk.specs.declared.message.Side.TheVariants.{Client, Server}
use Rattle.zk_talk.specs.declared.message.MessageOf.TheVariants.{Client as FromClient, Server as FromServer}
use Rattle.zk_talk.specs.Said.{AreSaid, AreSized, MaySay, said, side_of, payload_of, conversation_of}
use Rattle.zk_talk.proofs.{Small.small_limits, Headline.same_good, Replays.order_said, Spoken.spoken}
use Rattle.zk_lines.specs.Lines.{line, Fits}
use Rattle.zk_lines.proofs.{LawsHeld.said_held, LawsShown.line_printed, LawsEndings.ending_printed, LawsPrinted.unbroken}
use Rattle.zk_runs.specs.{declared.build_result.Built.Built, declared.build_result.Built.TheVariants.Whole}
use Rattle.zk_listings.specs.{declared.summary.Summary.TheVariants.Ended, Outcome.IsOutcome}
use Rattle.zk_recordings.specs.{declared.parts.Format.TheVariants.Zkr1, declared.parts.Part.TheVariants.SideByte, Parts.number, Parts.is_good, Parts.is_within}
use Rattle.zk_recordings.specs.Recording.{IsPiece, side_byte, piece_history, Spells, history_of}
use Rattle.zk_runs.specs.Building.{IsLine, with_feed, fed, AreLines, all_fed, recording_of, piece_of, due_ending, IsBuilt, with_ending}
use Rattle.zk_runs.specs.Rebuilding.{WholeConversation, whole_listing, listing_of, one_a_piece, AreAlike, AreBuilt, BuildsJust}
use Rattle.zk_runs.proofs.Builds.{run_once}

-- ---- messages that were said

each_of : {X : Type 0} (P : X → Type 0) (xs : List X) → ((a : List X) (x : X) (b : List X) → xs ≡ a ++ x ∷ b → P x) → AllByRecursion P xs
each_of P [] h = tt
each_of P (x ∷ xs) h = (h [] x xs refl, each_of P xs (λ a y b e. h (x ∷ a) y b (ap (λ z. x ∷ z) e)))

said_fit : (limits : Limits) (messages : List Message) → AreSaid limits messages → AllByRecursion Fits messages
said_fit limits messages are = each_of Fits messages (λ a m b e. said_held limits a m (are a m b e))

-- ---- lines

each_line : (messages : List Message) → AllByRecursion Fits messages → AllByRecursion IsLine (map line messages)
each_line [] h = tt
each_line (m ∷ messages) h = (unbroken (line m) (line_printed m h.0), each_line messages h.1)

module _ (limits : Limits) (messages : List Message) (are : AreSaid limits messages) where
  lines : List (List ℕ)
  lines = map line messages ++ due_ending messages ∷ []

  listed : (n : ℕ) → n ≡ unanswered (conversation_of messages) → whole_listing messages n ≡ fed lines
  unfolding lines
  listed n e =
      ap (whole_listing messages) e
      ∙ ap (λ z. z ++ with_feed (due_ending messages)) (sym (flat_map-map with_feed line messages))
      ∙ ap (λ z. fed (map line messages) ++ z) (sym (append-nil (with_feed (due_ending messages))))
      ∙ sym (flat_map-append with_feed (map line messages) (due_ending messages ∷ []))

  are_lines : (n : ℕ) → n ≡ unanswered (conversation_of messages) → AreLines (whole_listing messages n) lines
  unfolding lines
  are_lines n e = all_fed
      (AllByRecursion-push IsLine (map line messages) (due_ending messages) (each_line messages (said_fit limits messages are))
      (unbroken (due_ending messages) (ending_printed (whole (unanswered (conversation_of messages))))))
      (listed n e)

  is_built : IsBuilt limits lines messages Whole
  unfolding lines
  is_built = with_ending (record {
    before = map line messages;
    ends = refl;
    accepted = record { are = refl; fit = said_fit limits messages are; said = are };
  }) refl

-- ---- one frame a piece

within : (limits : Limits) (before : List Message) (m : Message) → MaySay limits before m → length (payload_of m) ≤ 16777216
within limits before (FromClient f) may = omega (arith, may.1, limits.in_range)
within limits before (FromServer s) may = omega (arith, may.1, limits.in_range)

pub number_of : (n : ℕ) → n < 2 ^ 32 → number (to_be_bytes w32 n) ≡ n
unfolding number
number_of n h = from_be_bytes-to_be_bytes_4 n h

within_range : (least most n : ℕ) → least ≤ n → n ≤ most → is_within least most n ≡ true
within_range least most n a b = grind (arith, nat_tests)

-- four bytes of a number that is within a range
pub number_good : (n least most : ℕ) → least ≤ n → n ≤ most → n < 2 ^ 32 → is_within least most (number (to_be_bytes w32 n)) ≡ true
number_good n least most a b small = ap (is_within least most) (number_of n small) ∙ within_range least most n a b

side_good : (m : Message) → is_good SideByte (side_byte (side_of m) ∷ []) ≡ true
side_good (FromClient f) = refl
side_good (FromServer s) = refl

is_piece : (m : Message) → length (payload_of m) ≤ 16777216 → IsPiece Zkr1 (piece_of m)
is_piece m l =
    let n = length (frame (payload_of m)) in
    let most : n ≤ 16777220 = omega (arith, l, length-frame (payload_of m)) in
    let good = number_good n 1 16777220 (omega (arith, length-frame (payload_of m))) most (omega (arith, most)) in
    record {
      begun = record { values = (record { wide = refl; good = side_good m }, (record { wide = refl; good = good }, tt)); timed = refl };
      sized = number_of n (omega (arith, most));
    }

each_piece : (limits : Limits) (messages : List Message) → AreSaid limits messages → All (IsPiece Zkr1) (map piece_of messages)
each_piece limits messages are =
    All-map (IsPiece Zkr1) piece_of messages
    (All-from_recursion (λ m. IsPiece Zkr1 (piece_of m)) messages (each_of (λ m. IsPiece Zkr1 (piece_of m)) messages (λ a m b e. is_piece m (within limits a m (are a m b e)))))

spelled : (limits : Limits) (messages : List Message) → AreSaid limits messages → Spells (recording_of messages) (one_a_piece messages)
spelled limits messages are = record {
  sound = record { stands = record { headed = tt; each = each_piece limits messages are }; breaks = (refl, omega arith) };
  is = sym (append-nil (recording_of messages));
}

pub said_in_pieces : (messages : List Message) → history_of (one_a_piece messages) ≡ said messages
said_in_pieces messages = append-nil (flat_map piece_history (map piece_of messages)) ∙ flat_map-map piece_history piece_of messages

-- ---- a conversation that ends whole

module _ (w : WholeConversation) where
  are : AreSaid w.limits w.messages
  are = (order_said w.limits w.history w.conversation w.messages w.good w.order).0

  count : w.unanswered ≡ unanswered (conversation_of w.messages)
  count =
      w.ending.2
      ∙ ap unanswered (same_good w.limits (small_limits w.limits) w.history w.ending.0 w.conversation [] [] [] [] w.ending.1 w.good).0
      ∙ ap unanswered (sym (order_said w.limits w.history w.conversation w.messages w.good w.order).3)

  sized : AreSized w.messages
  sized =
      let o = order_said w.limits w.history w.conversation w.messages w.good w.order in (
        omega (arith, w.good.client_size, ap length o.1),
        omega (arith, w.good.server_size, ap length o.2),
      )

  pub listing_built : AreBuilt w.limits (listing_of w) w.messages Whole
  listing_built = record { lines = lines w.limits w.messages are; are = are_lines w.limits w.messages are w.unanswered count; is = is_built w.limits w.messages are }

  pub built_spelled : Spells (recording_of w.messages) (one_a_piece w.messages)
  built_spelled = spelled w.limits w.messages are

  pub same_bytes : HaveSameBytes (history_of (one_a_piece w.messages)) w.history
  same_bytes =
      let o = order_said w.limits w.history w.conversation w.messages w.good w.order in (
        ap (side_bytes Client) (said_in_pieces w.messages) ∙ o.1,
        ap (side_bytes Server) (said_in_pieces w.messages) ∙ o.2,
      )

  pub comes_again : IsOutcome w.limits (one_a_piece w.messages) w.messages (Ended (whole w.unanswered))
  comes_again =
      let s = spoken w.limits w.messages are sized in
      let g = subst (λ z. Good w.limits z (conversation_of w.messages) [] []) (sym (said_in_pieces w.messages)) s.0 in
      let o = subst (λ z. IsOrder w.limits z (conversation_of w.messages) w.messages) (sym (said_in_pieces w.messages)) s.1 in
      record {
        comes_to = (refl, (conversation_of w.messages, g, count));
        messages_are = (conversation_of w.messages, [], [], g, o);
      }

  whole_alike : (built : Built) → AreAlike Whole built → built ≡ Whole
  whole_alike Whole a = refl
  whole_alike _ a = absurd a

  pub listing_run : BuildsJust w.limits (listing_of w) w.messages Whole
  listing_run unread contents contents_now built has =
      let r = run_once w.limits (listing_of w) w.messages Whole listing_built unread contents contents_now built has in
      (whole_alike built r.0, r.1)
