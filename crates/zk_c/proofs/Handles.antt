-- What a handle had is what the call was of, and what the call left is what it has then.
use Rattle.std.proofs.Common.{◌≡◌, ℕ, Bool, List, Option, Some, Result, IsSomeAnd, refl, sym, ap, subst, ◌∙◌}
use Rattle.std.specs.Prelude.{unwrap_or}
use Rattle.zk_talk.specs.{declared.message.Side.Side, declared.message.Fault.Fault, declared.talk.Stepped.Stepped, Stands.TalkState}
use Rattle.zk_c.specs.{Numbers.side_of, Handle.Call, Handle.IsOffer, Handle.IsAnswerOf, Calls.OnHeld, Calls.OnSide, declared.say_result.SayAnswer.SayAnswer, HeldSpeaker.HeldSpeakerState, Saying.TellsSay, Saying.TellsPayload, declared.payload.PayloadAnswer.PayloadAnswer}
use Rattle.zk_talk.specs.declared.message.Side.TheVariants.{Client, Server}
use Rattle.zk_through.specs.Runs.{ThroughState}
use Rattle.zk_c.specs.Passage.{newest_on}

pub same_value : {A : Type 0} {x y : A} → Some x ≡ Some y → x ≡ y
same_value {x = x} e = ap (λ o. unwrap_or o x) e

-- what holds of the value that is put back holds of what the handle has
pub held_now : {A : Type 0} (Is : A → Type 0) {new : A} {after : Option A} → after ≡ Some new → Is new → IsSomeAnd after Is
held_now Is held is = subst (λ o. IsSomeAnd o Is) (sym held) is

-- what a call does of the value that was taken out, it does of what the handle held
pub on_held : {A : Type 0} {held : Option A} {Ends : ℕ → Type 0} {Does : A → Type 0} {x y : A} → held ≡ Some x → y ≡ x → Does y → OnHeld held Ends Does
on_held {Does = Does} is_held same does = record {
  empty = λ none. absurd (cc);
  does = λ z is_z. subst Does (same ∙ same_value (sym is_held ∙ is_z)) does;
}

pub on_side : {A : Type 0} {side : ℕ} {held : Option A} {Ends : ℕ → Type 0} {Does : Side → A → Type 0} {s : Side} {x y : A} → Some s ≡ side_of side → held ≡ Some x → y ≡ x → Does s y → OnSide side held Ends Does
on_side {A} {Does = Does} is_side is_held same does = record {
  range = λ none. absurd (cc);
  empty = λ none is. absurd (cc);
  does = λ r z is_r is_z. subst (λ (w : Side × A). Does w.0 w.1) (λ i. (same_value (is_side ∙ is_r) i, (same ∙ same_value (sym is_held ∙ is_z)) i)) does;
}

-- what a call answers
pub answers : {A R X : Type 0} (answer_of : R → X) (Is : R → A → Type 0) (result : R) (answer : X) (new : A) → answer ≡ answer_of result → Is result new → IsAnswerOf answer_of Is answer new
answers answer_of Is result answer new told is = record { result = result; told = told; is = is }

pub call_of : (Is : Call) {t u new : TalkState} {side : Side} {piece : List ℕ} {result : Result Stepped Fault} → t ≡ u → Is t side piece result new → Is u side piece result new
call_of Is {new = new} {side = side} {piece = piece} {result = result} same is = subst (λ (s : TalkState). Is s side piece result new) same is

pub offer_of : {t u new : TalkState} {side : Side} {frame : List ℕ} {result : Result Bool Fault} → t ≡ u → IsOffer t side frame result new → IsOffer u side frame result new
offer_of {new = new} {side = side} {frame = frame} {result = result} same is = subst (λ (s : TalkState). IsOffer s side frame result new) same is

pub say_of : {v w new : HeldSpeakerState} {text : List ℕ} {answer : SayAnswer} → v ≡ w → TellsSay v text new answer → TellsSay w text new answer
say_of {new = new} {text = text} {answer = answer} same says = subst (λ (u : HeldSpeakerState). TellsSay u text new answer) same says

pub payload_of : {v w new : HeldSpeakerState} {side : Side} {p : List ℕ} {answer : PayloadAnswer} → v ≡ w → TellsPayload v side p new answer → TellsPayload w side p new answer
payload_of {new = new} {side = side} {p = p} {answer = answer} same says = subst (λ (u : HeldSpeakerState). TellsPayload u side p new answer) same says

-- which frame is the newest doesn't depend on what came
pub same_newest : (side : Side) (t u : ThroughState) (client server : Bool) → newest_on side (record { through = t; client = client; server = server }) ≡ newest_on side (record { through = u; client = client; server = server })
same_newest Client t u client server = refl
same_newest Server t u client server = refl
