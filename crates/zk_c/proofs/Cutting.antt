-- Pieces, one after another.
use Rattle.std.proofs.Common.{◌≡◌, ℕ, ◌+◌, ◌<◌, ◌≤◌, ◌↔◌, List, [], ◌∷◌, ◌++◌, length, get_or, take, drop, Some, None, refl, sym, ap, ◌∙◌, subst, arith, append_assoc}
use Rattle.std.specs.Borrow.{Bor}
use Rattle.std.proofs.{lemmas.List.append-nil, lemmas.List.drop_more, Math.ListN.drop_of_length-le, lemmas.Grind.flat_map-append}
use Rattle.zk_talk.specs.{declared.message.Side.Side, Answer.history_of, History.History, History.on}
use Rattle.zk_c.specs.{declared.pieces.Piece.Piece, Numbers.side_of, Cut.AreCut}

-- all of the pieces are cut as the rest of them is, behind what is done
abbrev pub IsSoFar : List Piece → List ℕ → History → List Piece → List ℕ → Type 0
IsSoFar pieces bytes done others rest = (h : History) → AreCut pieces bytes h ↔ ((later : History) × AreCut others rest later × (h ≡ done ++ later))

abbrev pub no_piece : Piece
no_piece = record { side = 0; length = 0 }

module _ (pieces : List Piece) (bytes : List ℕ) (done : History) (i : ℕ) (rest : List ℕ) (within : i < length pieces) (so_far : IsSoFar pieces bytes done (drop i pieces) rest) where
  abbrev p : Piece
  p = get_or pieces i no_piece

  abbrev others : List Piece
  others = drop (i + 1) pieces

  as_pair : (later : History) → AreCut (drop i pieces) rest later → AreCut (p ∷ others) rest later
  as_pair later a = subst (λ (ps : List Piece). AreCut ps rest later) (drop_more pieces i no_piece within) a

  from_pair : (later : History) → AreCut (p ∷ others) rest later → AreCut (drop i pieces) rest later
  from_pair later a = subst (λ (ps : List Piece). AreCut ps rest later) (sym (drop_more pieces i no_piece within)) a

  pub no_side : side_of p.side ≡ None → (h : History) → AreCut pieces bytes h → ⊥
  no_side none h a = let x = (so_far h).0 a in let y = as_pair x.0 x.1 in absurd (cc)

  pub too_short : length rest < p.length → (h : History) → AreCut pieces bytes h → ⊥
  too_short short h a = let x = (so_far h).0 a in let y = as_pair x.0 x.1 in absurd (omega (arith, short, y.2))

  abbrev mine : Side → History
  mine side = on side (take p.length rest)

  pub one_piece : (side : Side) → side_of p.side ≡ Some side → p.length ≤ length rest → IsSoFar pieces bytes (done ++ on side (take p.length rest)) others (drop p.length rest)
  one_piece side is enough h = (there, back)
    where
      there : AreCut pieces bytes h → (later : History) × AreCut others (drop p.length rest) later × (h ≡ (done ++ mine side) ++ later)
      there a = let x = (so_far h).0 a in let y = as_pair x.0 x.1 in let same : y.0 ≡ side = cc in
          (y.3, y.4, x.2 ∙ ap (λ (z : History). done ++ z) (y.5 ∙ ap (λ (s : Side). on s (take p.length rest) ++ y.3) same) ∙ sym (append_assoc done (mine side) y.3))

      back : (later : History) × AreCut others (drop p.length rest) later × (h ≡ (done ++ mine side) ++ later) → AreCut pieces bytes h
      back x = (so_far h).1 (mine side ++ x.0, from_pair (mine side ++ x.0) (side, is, enough, x.0, x.1, refl), x.2 ∙ append_assoc done (mine side) x.0)

pub history_more : (cut : List (Side × Bor (List ℕ))) (side : Side) (mine : Bor (List ℕ)) → history_of (cut ++ (side, mine) ∷ []) ≡ history_of cut ++ on side mine.now
history_more cut side mine = flat_map-append (λ (x : Side × Bor (List ℕ)). on x.0 x.1.now) cut ((side, mine) ∷ []) ∙ ap (λ (z : History). history_of cut ++ z) (append-nil (on side mine.now))

-- behind the last piece nothing is left
pub at_end : (pieces : List Piece) (bytes : List ℕ) (done : History) (i : ℕ) (rest : List ℕ) → length pieces ≤ i → length rest ≡ 0 → IsSoFar pieces bytes done (drop i pieces) rest → (h : History) → AreCut pieces bytes h ↔ (h ≡ done)
at_end pieces bytes done i rest past none so_far h = (there, back)
  where
    over : drop i pieces ≡ []
    over = drop_of_length-le pieces past

    empty : (xs : List ℕ) → length xs ≡ 0 → xs ≡ []
    empty [] e = refl
    empty (x ∷ xs) e = absurd (omega arith)

    there : AreCut pieces bytes h → h ≡ done
    there a = let x = (so_far h).0 a in let y : AreCut [] rest x.0 = subst (λ (ps : List Piece). AreCut ps rest x.0) over x.1 in x.2 ∙ ap (λ (z : History). done ++ z) y.1 ∙ append-nil done

    back : h ≡ done → AreCut pieces bytes h
    back e = (so_far h).1 ([], subst (λ (ps : List Piece). AreCut ps rest []) (sym over) (empty rest none, refl), e ∙ sym (append-nil done))
