-- The piece of a message whose payload was read into its place.
use Rattle.std.proofs.Common.{◌≡◌, ◌⊎◌, inl, inr, subst, ℕ, ◌+◌, ◌-◌, ◌≤◌, ◌<◌, List, [], ◌∷◌, ◌++◌, length, take, drop, sym, ap, ◌∙◌, append_assoc, arith, length-append}
use Rattle.std.specs.Int.{w32, to_be_bytes}
use Rattle.std.proofs.lemmas.List.{take_at, drop_at, drop-drop, take-take, take-append-le, take-append-drop, length-take-le, length-drop}
use Rattle.std.proofs.lemmas.Slice.{take-put_mid, drop-put_mid}
use borrow.Rule.Slice.PartMut.{put_mid}
use Rattle.zk_frames.specs.Framing.{frame}
use Rattle.zk_talk.specs.{declared.limits.Limits.Limits, Held.Message, declared.message.Side.Side, declared.message.Kind.Kind, declared.say.SayFault.SayFault, declared.say.SayFault.TheVariants.NoMemory}
use Rattle.zk_talk.specs.{Said.SpeakerState, Said.Says, Said.MaySay, Said.IsSayFault, Said.payload_of, Said.side_of, Written.IsWritten, Written.RefusesWritten}
use Rattle.zk_recordings.specs.Recording.{side_byte}
use Rattle.zk_runs.specs.Building.{built_bytes, piece_of, untimed}
use Rattle.zk_runs.proofs.Accepted.{short-frame}

-- bytes that are put in from one place to another
put_there : (out new : List ℕ) (start end : ℕ) → start ≤ end → end ≤ length out → length new ≡ end - start → put_mid start (end - start) out new ≡ (take start out ++ new) ++ drop end out
put_there out new start end ordered within long =
    let all = put_mid start (end - start) out new in
    let front : take end all ≡ take start out ++ new = take-put_mid start (end - start) out new end (omega (arith, long, ordered)) (omega (arith, ordered, within)) in
    let back : drop end all ≡ drop end out = drop-put_mid start (end - start) out new end (omega (arith, ordered)) (omega (arith, ordered, within)) long in
    sym (take-append-drop end all) ∙ (λ k. front k ++ back k)

-- a head that is put into the five bytes before its content
pub headed_in : (side : Side) (out byte size : List ℕ) (start : ℕ) → start + 5 ≤ length out → byte ≡ side_byte side ∷ [] → size ≡ to_be_bytes w32 (length (drop (start + 5) out)) →
    put_mid (start + 1) (start + 5 - (start + 1)) (put_mid start (start + 1 - start) out byte) size ≡ take start out ++ built_bytes (untimed side (drop (start + 5) out))
headed_in side out byte size start within letter is =
    let content = drop (start + 5) out in
    let one = put_mid start (start + 1 - start) out byte in
    let four : length size ≡ 4 = ap length is in
    let single : length byte ≡ 1 = ap length letter in
    let one_is : one ≡ (take start out ++ byte) ++ drop (start + 1) out = put_there out byte start (start + 1) (omega arith) (omega (arith, within)) (omega (arith, single)) in
    let long : length (take start out ++ byte) ≡ start + 1 = omega (arith, single, length-append (take start out) byte, length-take-le start out (omega (arith, within))) in
    let all : start + 5 ≤ length one = omega (arith, within, long, ap length one_is, length-append (take start out ++ byte) (drop (start + 1) out), length-drop (start + 1) out) in
    let front : take (start + 1) one ≡ take start out ++ byte = ap (take (start + 1)) one_is ∙ take_at (take start out ++ byte) (drop (start + 1) out) (start + 1) long in
    let far : start + 5 ≡ (start + 1) + 4 = omega arith in
    let back : drop (start + 5) one ≡ content =
    ap (λ z. drop z one) far ∙ sym (drop-drop 4 (start + 1) one) ∙ ap (drop 4) (ap (drop (start + 1)) one_is ∙ drop_at (take start out ++ byte) (drop (start + 1) out) (start + 1) long)
    ∙ drop-drop 4 (start + 1) out ∙ ap (λ z. drop z out) (sym far) in
    put_there one size (start + 1) (start + 5) (omega arith) all (omega (arith, four)) ∙ (λ k. (front k ++ is k) ++ back k)
    ∙ append_assoc (take start out ++ byte) (to_be_bytes w32 (length content)) content ∙ append_assoc (take start out) byte (to_be_bytes w32 (length content) ++ content)
    ∙ ap (λ z. take start out ++ (z ++ (to_be_bytes w32 (length content) ++ content))) letter

-- what is due, with room after it, and then the payload
module _ (due room p encoded : List ℕ) (nine : length room ≡ 9) (is : encoded ≡ (due ++ room) ++ p) (n : ℕ) (here : n ≡ length due) where
  pub place_within : n + 9 ≤ length encoded
  place_within = omega (arith, here, nine, ap length is, length-append (due ++ room) p, length-append due room)

  pub payload_there : drop (n + 5 + 4) encoded ≡ p
  payload_there = ap (drop (n + 5 + 4)) is ∙ drop_at (due ++ room) p (n + 5 + 4) (omega (arith, here, nine, length-append due room))

  pub payload_written : (kind : Kind) (m : Message) → IsWritten kind p m → IsWritten kind (drop (n + 5 + 4) encoded) m
  payload_written kind m w = subst (λ (q : List ℕ). IsWritten kind q m) (sym payload_there) w

  -- the frame behind five bytes, and the piece in the place of all
  pub piece_there : (limits : Limits) (before : List Message) (m : Message) (side : Side) (framed piece : List ℕ) → MaySay limits before m → payload_of m ≡ p → side_of m ≡ side →
      framed ≡ take (n + 5) encoded ++ frame (drop (n + 5 + 4) encoded) →
      (length (drop (n + 5) framed) < 4294967296 → piece ≡ take n framed ++ built_bytes (untimed side (drop (n + 5) framed))) →
      piece ≡ due ++ built_bytes (piece_of m)
  piece_there limits before m side framed piece may payload_is side_is framed_is piece_is =
      let head = take (n + 5) encoded in
      let long : length head ≡ n + 5 = length-take-le (n + 5) encoded (omega (arith, place_within)) in
      let whole : framed ≡ head ++ frame (payload_of m) = framed_is ∙ ap (λ z. head ++ frame z) (payload_there ∙ sym payload_is) in
      let content : drop (n + 5) framed ≡ frame (payload_of m) = ap (drop (n + 5)) whole ∙ drop_at head (frame (payload_of m)) (n + 5) long in
      let front : take n framed ≡ due = ap (take n) whole ∙ take-append-le n head (frame (payload_of m)) (omega (arith, long)) ∙ take-take n (n + 5) encoded (omega arith)
      ∙ ap (take n) (is ∙ append_assoc due room p) ∙ take_at due (room ++ p) n (sym here) in
      piece_is (omega (arith, ap length content, short-frame limits before m may)) ∙ (λ k. front k ++ built_bytes (untimed (sym side_is k) (content k)))

-- why this message is refused, where each of its kind and payload is
pub refused_alone : (s : SpeakerState) (kind : Kind) (p : List ℕ) (m : Message) → IsWritten kind p m → (e : SayFault) → (e ≡ NoMemory) ⊎ RefusesWritten s kind p e →
    (e ≡ NoMemory) ⊎ ((all : List Message) → Says s all → IsSayFault s.limits all m e)
refused_alone s kind p m w e (inl lacks) = inl lacks
refused_alone s kind p m w e (inr each) = inr (each m w)
