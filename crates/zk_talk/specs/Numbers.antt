-- Which of the client's frames the newest of the server's answers, by their numbers from 0.
use Rattle.std.specs.Prelude.{◌≡◌, ℕ, ◌+◌, List, [], ◌∷◌, ◌++◌, length, map, drop, Option, Some, None, if◌then◌else◌}
use Rattle.zk_asks.specs.Held.{ClientFrame}
use Rattle.zk_answers.specs.{Held.ServerFrame, Frames.IsEvent}
use Rattle.zk_waiting.specs.{declared.lane.Lane.Lane, Waiting.Request, Waiting.Lanes, Waiting.queue_on}
use Rattle.zk_talk.specs.declared.replied.Replied.{Replied}
use Rattle.zk_talk.specs.Conversation.{Conversation, Answers, is_ask_on, replies_on}

-- the numbers of the lane's asks among these frames, of which the first has this number
abbrev pub numbers_from : ℕ → Lane → List ClientFrame → List ℕ
numbers_from number lane [] = []
numbers_from number lane (f ∷ fs) =
    if is_ask_on lane f then number ∷ numbers_from (number + 1) lane fs else numbers_from (number + 1) lane fs

-- the lane's requests have the numbers of the asks of v that no reply answers
abbrev pub HaveNumbers : Lane → Conversation → List Request → Type 0
HaveNumbers lane v queue = map (λ r. r.frame) queue ≡ drop (replies_on lane v.server) (numbers_from 0 lane v.client)

abbrev pub AreNumbered : Conversation → Lanes → Type 0
AreNumbered v waiting = (lane : Lane) → HaveNumbers lane v (queue_on lane waiting)

-- the newest of the server's frames answers the client's frame that has this number
pub record AnswersFrame (v : Conversation) (number : ℕ) : Type 0 where
  pub sent : List ServerFrame
  pub newest : ServerFrame
  pub server : v.server ≡ sent ++ newest ∷ []
  pub asked : List ClientFrame
  pub ask : ClientFrame
  pub after : List ClientFrame
  pub client : v.client ≡ asked ++ ask ∷ after
  pub answers : Answers sent newest asked ask
  pub is : number ≡ length asked

-- the number of the frame that the newest answers; an event answers none
abbrev pub NewestAnswers : Conversation → Option ℕ → Type 0
NewestAnswers v (Some number) = AnswersFrame v number
NewestAnswers v None = (sent : List ServerFrame) (newest : ServerFrame) → v.server ≡ sent ++ newest ∷ [] → IsEvent newest

-- what is known of the newest: a reply answers this request, and with none it is the first, or an event
abbrev pub IsNewest : Conversation → Option Replied → Type 0
IsNewest v (Some request) = AnswersFrame v request.frame
IsNewest v None = (length v.server ≡ 1 → AnswersFrame v 0) × ((length v.server ≡ 1 → ⊥) → NewestAnswers v None)
