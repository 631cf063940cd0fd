-- How a history ends.
use Rattle.std.specs.Prelude.{◌≡◌, ◌≢◌, ℕ, ◌+◌, List, [], ◌∷◌, length}
use Rattle.zk_asks.specs.Held.{ClientFrame}
use Rattle.zk_answers.specs.Held.{ServerFrame}
use Rattle.zk_talk.specs.{declared.message.Side.Side, declared.limits.Limits.Limits, declared.message.Ending.Ending, History.History, Conversation.Conversation, Conversation.number_waiting, Good.Good, Fault.IsFaultOf}
use Rattle.zk_talk.specs.declared.message.Side.TheVariants.{Client, Server}
use Rattle.zk_talk.specs.declared.message.Ending.TheVariants.{Whole, Cut, Refused}

-- 1 for a connect request without a reply
abbrev pub unwelcomed : List ClientFrame → List ServerFrame → ℕ
unwelcomed [] server = 0
unwelcomed (f ∷ fs) [] = 1
unwelcomed (f ∷ fs) (s ∷ ss) = 0

-- the number of the client's frames that nothing of the server answers
abbrev pub unanswered : Conversation → ℕ
unanswered v = unwelcomed v.client v.server + number_waiting v.client v.server

-- the first side that ends in part of a frame, the client's first
abbrev pub IsCutAt : Conversation → List ℕ → List ℕ → Side → ℕ → ℕ → Type 0
IsCutAt v client_rest server_rest Client frame got = (client_rest ≢ []) × (frame ≡ length v.client) × (got ≡ length client_rest)
IsCutAt v client_rest server_rest Server frame got = (client_rest ≡ []) × (server_rest ≢ []) × (frame ≡ length v.server) × (got ≡ length server_rest)

abbrev pub IsEnding : Limits → History → Ending → Type 0
IsEnding limits h (Refused fault) = IsFaultOf limits h fault
IsEnding limits h (Cut side frame got) = (v : Conversation) × (client_rest : List ℕ) × (server_rest : List ℕ) ×
    Good limits h v client_rest server_rest × IsCutAt v client_rest server_rest side frame got
IsEnding limits h (Whole n) = (v : Conversation) × Good limits h v [] [] × (n ≡ unanswered v)
