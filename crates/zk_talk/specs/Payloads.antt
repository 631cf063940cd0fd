-- The payload of a frame, by its side's grammar.
use Rattle.std.specs.Prelude.{ℕ, List}
use Rattle.zk_asks.specs.Held.{ClientFrame}
use Rattle.zk_asks.specs.Frames as asks
use Rattle.zk_answers.specs.Held.{ServerFrame}
use Rattle.zk_answers.specs.Frames as answers

unfoldable pub client_payload : ClientFrame → List ℕ
client_payload f = asks.payload f

unfoldable pub server_payload : ServerFrame → List ℕ
server_payload s = answers.payload s
