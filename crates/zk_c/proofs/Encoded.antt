-- The frame of a message whose payload was read into its place.
use Rattle.std.proofs.Common.{◌≡◌, ◌≢◌, ◌⊎◌, inl, inr, ℕ, ◌+◌, List, ◌++◌, length, take, drop, sym, ap, ◌∙◌, subst, refl}
use Rattle.std.proofs.lemmas.List.{drop_at}
use Rattle.zk_frames.specs.Framing.{frame}
use Rattle.zk_items.specs.declared.fault.LineReason.TheVariants as lines
use Rattle.zk_talk.specs.{Held.Message, declared.message.Kind.Kind, declared.say.SayFault.SayFault, declared.say.SayFault.TheVariants.NoMemory, Said.Says, Said.IsSayFault, Written.IsWritten, Written.SaysWritten, Written.RefusesWritten, Written.CannotSayWritten}
use Rattle.zk_lines.specs.Encoded.{IsEncoded}
use Rattle.zk_c.specs.{declared.say_result.SayAnswer.SayAnswer, HeldSpeaker.HeldSpeakerState}
use Rattle.zk_c.specs.Saying.{TellsSay, said, refused, no_line, say_answer, say_number, silent}

-- a speaker with the frame that it said last
abbrev pub with_frame : HeldSpeakerState → List ℕ → HeldSpeakerState
with_frame v xs = record v { frame = xs }

-- the frame begins with room for a length, and a line's payload is read after it
pub encoded_said : (old new : HeldSpeakerState) (text room encoded : List ℕ) (kind : Kind) → length room ≡ 4 → IsEncoded kind text room encoded →
    new.speaker.limits ≡ old.speaker.limits → new.frame ≡ take 0 encoded ++ frame (drop (0 + 4) encoded) →
    SaysWritten old.speaker kind (drop (0 + 4) encoded) new.speaker → TellsSay old text new (say_answer 0 (length new.frame) 0)
encoded_said old new text room encoded kind four k limits frame_is says =
    let payload : drop (0 + 4) encoded ≡ k.0 = ap (drop 4) k.2 ∙ drop_at room k.0 4 four in
    let written = subst (λ (p : List ℕ). IsWritten kind p k.1) (sym payload) k.5 in
    said k.1 k.4 k.3 limits (frame_is ∙ ap frame (sym written.is)) refl (says k.1 written)

-- the payload is that of a message of its kind
pub encoded_written : (text room encoded : List ℕ) (kind : Kind) → length room ≡ 4 → IsEncoded kind text room encoded → (m : Message) × IsWritten kind (drop (0 + 4) encoded) m
encoded_written text room encoded kind four k = (k.1, subst (λ (p : List ℕ). IsWritten kind p k.1) (sym (ap (drop 4) k.2 ∙ drop_at room k.0 4 four)) k.5)

-- the message can't be said
pub encoded_refused : (old new : HeldSpeakerState) (text room encoded : List ℕ) (kind : Kind) → length room ≡ 4 → IsEncoded kind text room encoded → new ≡ silent old →
    (e : SayFault) → (e ≡ NoMemory) ⊎ RefusesWritten old.speaker kind (drop (0 + 4) encoded) e → (e ≢ NoMemory → CannotSayWritten old.speaker kind (drop (0 + 4) encoded)) →
    (answer : SayAnswer) → answer ≡ say_answer (say_number e) 0 0 → TellsSay old text new answer
encoded_refused old new text room encoded kind four k same NoMemory err exact answer told = no_line (record { column = 0; reason = lines.NoMemory }) same told (λ m fits is. refl)
encoded_refused old new text room encoded kind four k same e err exact answer told =
    let payload : drop (0 + 4) encoded ≡ k.0 = ap (drop 4) k.2 ∙ drop_at room k.0 4 four in
    let written = subst (λ (p : List ℕ). IsWritten kind p k.1) (sym payload) k.5 in
    let other : e ≢ NoMemory = (λ is. cc) in
    refused k.1 k.4 k.3 e same told (record { err = alone written err; lacks = (λ is. absurd (other is)); exact = (λ _. exact other k.1 written) })
  where
    alone : IsWritten kind (drop (0 + 4) encoded) k.1 → (e ≡ NoMemory) ⊎ RefusesWritten old.speaker kind (drop (0 + 4) encoded) e → (e ≡ NoMemory) ⊎ ((before : List Message) → Says old.speaker before → IsSayFault old.speaker.limits before k.1 e)
    alone w (inl is) = inl is
    alone w (inr each) = inr (each k.1 w)

-- what a call does after the frame was dropped, it does
pub say_silent : {v w new : HeldSpeakerState} {text : List ℕ} {answer : SayAnswer} → w ≡ silent v → TellsSay w text new answer → TellsSay v text new answer
say_silent {v} {w} {new} {text} {answer} dropped tells = go (subst (λ (u : HeldSpeakerState). TellsSay u text new answer) dropped tells)
  where
    go : TellsSay (silent v) text new answer → TellsSay v text new answer
    go (said m fits is limits frame_is told says) = said m fits is limits frame_is told says
    go (refused m fits is e same told why) = refused m fits is e same told why
    go (no_line e same told only) = no_line e same told only
