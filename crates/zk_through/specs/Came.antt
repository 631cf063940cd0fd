-- The frames of a connection, as they came.
use Rattle.std.specs.Prelude.{◌≡◌, ℕ, List, [], ◌∷◌, ◌++◌}
use Rattle.std.specs.List.{flat_map}
use Rattle.zk_frames.specs.Framing.{frame, IsCut}
use Rattle.zk_talk.specs.{declared.message.Side.Side, declared.limits.Limits.Limits, Fault.side_limit, History.History, History.side_bytes, History.on}
use Rattle.zk_talk.specs.declared.message.Side.TheVariants.{Client, Server}

-- payloads of frames, each with the side that sent it
abbrev pub Came : Type 0
Came = List (Side × List ℕ)

abbrev pub payload_on : Side → Side → List ℕ → List (List ℕ)
payload_on Client Client p = p ∷ []
payload_on Server Server p = p ∷ []
payload_on Client Server p = []
payload_on Server Client p = []

-- the payloads of one side, in order
unfoldable pub payloads : Side → Came → List (List ℕ)
payloads side came = flat_map (λ (x : Side × List ℕ). payload_on side x.0 x.1) came

-- of the history's bytes the side's are these frames, and then this beginning
abbrev pub IsCutOn : Limits → History → Came → Side → List ℕ → Type 0
IsCutOn limits h came side rest = IsCut (side_limit limits side) (side_bytes side h) (payloads side came) rest

-- the first of these frames are the history's, and then there is a beginning on each side
abbrev pub HasFirst : Limits → Came → History → Type 0
HasFirst limits came h = (first more : Came) × (came ≡ first ++ more) × ((side : Side) → (rest : List ℕ) × IsCutOn limits h first side rest)

-- each side is cut so, and in this order: the frames that are whole in a front of the history come first
pub record AreFrames (limits : Limits) (h : History) (came : Came) (rest : Side → List ℕ) : Type 0 where
  pub cut : (side : Side) → IsCutOn limits h came side (rest side)
  pub fronts : (front back : History) → h ≡ front ++ back → HasFirst limits came front

-- the history of these frames, one after another
abbrev pub told : Came → History
told came = flat_map (λ (x : Side × List ℕ). on x.0 (frame x.1)) came
