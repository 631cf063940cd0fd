-- A conversation that goes on where its profile ends, and whether each side's newest whole frame is a message.
use Rattle.std.specs.Prelude.{ℕ, Bool, Option, None}
use Rattle.zk_talk.specs.declared.message.Side.{Side}
use Rattle.zk_talk.specs.declared.message.Side.TheVariants.{Client, Server}
use Rattle.zk_through.specs.Runs.{ThroughState}

pub record PassageState : Type 0 where
  pub through : ThroughState
  pub client : Bool
  pub server : Bool

abbrev pub newest_on : Side → PassageState → Bool
newest_on Client p = p.client
newest_on Server p = p.server

-- the number of the client's frame that the side's newest frame answers
abbrev pub answered_on : Side → PassageState → Option ℕ
answered_on Client p = None
answered_on Server p = p.through.answered
