-- Pieces whose bytes come one after the other.
use Rattle.std.specs.Prelude.{◌≡◌, ℕ, ◌≤◌, ◌↔◌, List, [], ◌∷◌, ◌++◌, length, take, drop, Some}
use Rattle.zk_talk.specs.{declared.message.Side.Side, History.History, History.on}
use Rattle.zk_c.specs.{declared.pieces.Piece.Piece, Numbers.side_of}

-- the bytes are those of the pieces, and no more; with their sides they are this history
abbrev pub AreCut : List Piece → List ℕ → History → Type 0
AreCut [] bytes h = (bytes ≡ []) × (h ≡ [])
AreCut (p ∷ pieces) bytes h =
    (side : Side) × (side_of p.side ≡ Some side) × (p.length ≤ length bytes) × (later : History) ×
    AreCut pieces (drop p.length bytes) later × (h ≡ on side (take p.length bytes) ++ later)

-- the pieces and the bytes are no history's
abbrev pub AreNotCut : List Piece → List ℕ → Type 0
AreNotCut pieces bytes = (h : History) → AreCut pieces bytes h → ⊥

-- the pieces and the bytes are this history's alone
abbrev pub AreJust : List Piece → List ℕ → History → Type 0
AreJust pieces bytes history = (h : History) → AreCut pieces bytes h ↔ (h ≡ history)
