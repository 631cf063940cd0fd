-- The frames of a history with more bytes.
use Rattle.std.proofs.Common.{◌≡◌, ℕ, ◌<◌, ◌≤◌, false, List, [], ◌∷◌, ◌++◌, length, refl, sym, ap, ◌∙◌, subst, arith, append_assoc}
use Rattle.std.proofs.{lemmas.List.append-nil, lemmas.List.Concat.flat_map-append}
use Rattle.zk_frames.specs.Framing.{frame, IsBeginning, IsCut}
use Rattle.zk_frames.proofs.Taking.{beginning_front, frame_front, goes_on, goes_whole}
use Rattle.zk_talk.specs.{declared.message.Side.Side, declared.limits.Limits.Limits, History.History, History.side_bytes, History.on, Viewed.other_side, Fault.side_limit}
use Rattle.zk_talk.specs.declared.message.Side.TheVariants.{Client, Server}
use Rattle.zk_talk.proofs.{Lists.front_of_pushed, Lists.FrontOfPushed.all_of_it, Lists.FrontOfPushed.front_of, Standing.other-on}
use Rattle.zk_through.specs.Came.{Came, payload_on, payloads, IsCutOn, HasFirst, AreFrames, told}
use Rattle.zk_through.proofs.Telling.{bytes_more}

-- ---- One frame more
payloads-append : (side : Side) (a b : Came) → payloads side (a ++ b) ≡ payloads side a ++ payloads side b
unfolding payloads
payloads-append side a b = flat_map-append (λ (x : Side × List ℕ). payload_on side x.0 x.1) a b

pub payloads-same : (side : Side) (c : Came) (p : List ℕ) → payloads side (c ++ (side, p) ∷ []) ≡ payloads side c ++ p ∷ []
unfolding payloads
payloads-same Client c p = payloads-append Client c ((Client, p) ∷ [])
payloads-same Server c p = payloads-append Server c ((Server, p) ∷ [])

pub payloads-other : (side : Side) (c : Came) (p : List ℕ) → payloads (other_side side) (c ++ (side, p) ∷ []) ≡ payloads (other_side side) c
unfolding payloads
payloads-other Client c p = payloads-append Server c ((Client, p) ∷ []) ∙ append-nil (payloads Server c)
payloads-other Server c p = payloads-append Client c ((Server, p) ∷ []) ∙ append-nil (payloads Client c)

pub no_payloads : (side : Side) → payloads side [] ≡ []
unfolding payloads
no_payloads side = refl

-- ---- The first of some frames
pub of_client : (p : List ℕ) (k : Came) → payloads Client ((Client, p) ∷ k) ≡ p ∷ payloads Client k
unfolding payloads
of_client p k = refl

pub of_server : (q : List ℕ) (k : Came) → payloads Client ((Server, q) ∷ k) ≡ payloads Client k
unfolding payloads
of_server q k = refl

pub past_client : (p : List ℕ) (k : Came) → payloads Server ((Client, p) ∷ k) ≡ payloads Server k
unfolding payloads
past_client p k = refl

pub its_server : (q : List ℕ) (k : Came) → payloads Server ((Server, q) ∷ k) ≡ q ∷ payloads Server k
unfolding payloads
its_server q k = refl

pub some_server : (q : List ℕ) (k : Came) → payloads Server ((Server, q) ∷ k) ≡ [] → ⊥
unfolding payloads
some_server q k e = omega (arith, ap length e)

-- ---- The frames as a history
pub told-push : (k : Came) (x : Side × List ℕ) → told (k ++ x ∷ []) ≡ told k ++ on x.0 (frame x.1)
told-push k x = flat_map-append (λ (y : Side × List ℕ). on y.0 (frame y.1)) k (x ∷ []) ∙ ap (λ z. told k ++ z) (append-nil (on x.0 (frame x.1)))

-- ---- A piece more
-- what holds of a side and of the other holds of each
pub by_sides : (P : Side → Type 0) (side : Side) → P side → P (other_side side) → (z : Side) → P z
by_sides P Client own other Client = own
by_sides P Client own other Server = other
by_sides P Server own other Client = other
by_sides P Server own other Server = own

-- a front of a history with a piece more is one of the history, or ends with some of the piece
fronts_on : (P : History → Type 0) (side : Side) (bs : List ℕ) (h : History) → ((front back : History) → h ≡ front ++ back → P front) → ((x y : List ℕ) → bs ≡ x ++ y → P (h ++ on side x)) →
    (front back : History) → h ++ on side bs ≡ front ++ back → P front
fronts_on P side [] h before within front back e = before front back (sym (append-nil h) ∙ e)
fronts_on P side (b ∷ bs) h before within front back e =
    fronts_on P side bs (h ++ (side, b) ∷ []) pushed (λ x y s. subst P (sym (append_assoc h ((side, b) ∷ []) (on side x))) (within (b ∷ x) y (ap (λ z. b ∷ z) s))) front back
    (append_assoc h ((side, b) ∷ []) (on side bs) ∙ e)
  where
    pushed : (f r : History) → h ++ (side, b) ∷ [] ≡ f ++ r → P f
    pushed f r s = elim (front_of_pushed h (side, b) f r s) [ all_of_it is none ↦ subst P (sym is) (within (b ∷ []) bs refl) | front_of r' is more ↦ before f r' is ]

recut : (limit : ℕ) {bytes bytes' rest : List ℕ} {P P' : List (List ℕ)} → bytes' ≡ bytes → P' ≡ P → IsCut limit bytes P rest → IsCut limit bytes' P' rest
recut limit {bytes} {bytes'} {rest} {P} {P'} e f cut = subst (λ z. IsCut limit z P' rest) (sym e) (subst (λ z. IsCut limit bytes z rest) (sym f) cut)

module _ (limits : Limits) (side : Side) (bs : List ℕ) (h : History) (came : Came) (rest : Side → List ℕ) (o : AreFrames limits h came rest) where
  -- the side's bytes are in no frame that is whole
  own_cut : (x : List ℕ) → IsBeginning (side_limit limits side) (rest side ++ x) → IsCutOn limits (h ++ on side x) came side (rest side ++ x)
  own_cut x begin = recut (side_limit limits side) (bytes_more side h x) refl (goes_on false (side_limit limits side) (rest side) x (side_bytes side h) (payloads side came) (o.cut side) begin)

  -- the other side has no more
  other_cut : (x : List ℕ) (came' : Came) → payloads (other_side side) came' ≡ payloads (other_side side) came → IsCutOn limits (h ++ on side x) came' (other_side side) (rest (other_side side))
  other_cut x came' same = recut (side_limit limits (other_side side)) (other-on side x h) same (o.cut (other_side side))

  -- in their order, with those that the piece makes whole
  module _ (more came' : Came) (is : came' ≡ came ++ more) (rest' : Side → List ℕ) (same : payloads (other_side side) came' ≡ payloads (other_side side) came) (stays : rest' (other_side side) ≡ rest (other_side side)) where
    order_on : IsCutOn limits (h ++ on side bs) came' side (rest' side) → ((x y : List ℕ) → bs ≡ x ++ y → 0 < length y → IsBeginning (side_limit limits side) (rest side ++ x)) → AreFrames limits (h ++ on side bs) came' rest'
    order_on own begins = record { cut = cut; fronts = fronts_on (HasFirst limits came') side bs h before within }
      where
        cut : (z : Side) → IsCutOn limits (h ++ on side bs) came' z (rest' z)
        cut = by_sides _ side own (subst (IsCutOn limits (h ++ on side bs) came' (other_side side)) (sym stays) (other_cut bs came' same))

        before : (front back : History) → h ≡ front ++ back → HasFirst limits came' front
        before front back e =
            let f = o.fronts front back e in
            (f.0, f.1 ++ more, is ∙ ap (λ z. z ++ more) f.2 ∙ append_assoc f.0 f.1 more, f.3)

        within : (x y : List ℕ) → bs ≡ x ++ y → HasFirst limits came' (h ++ on side x)
        within x [] e = (came', [], sym (append-nil came'), λ z. (rest' z, subst (λ w. IsCutOn limits (h ++ on side w) came' z (rest' z)) (e ∙ append-nil x) (cut z)))
        within x (b ∷ y) e = (came, more, is, by_sides _ side (rest side ++ x, own_cut x (begins x (b ∷ y) e (omega arith))) (rest (other_side side), other_cut x came refl))

  pub within_on : (rest' : Side → List ℕ) → rest' side ≡ rest side ++ bs → rest' (other_side side) ≡ rest (other_side side) → IsBeginning (side_limit limits side) (rest side ++ bs) → AreFrames limits (h ++ on side bs) came rest'
  within_on rest' own stays begin =
      order_on [] came (sym (append-nil came)) rest' refl stays (subst (IsCutOn limits (h ++ on side bs) came side) (sym own) (own_cut bs begin))
      (λ x y e some. beginning_front (side_limit limits side) (rest side ++ x) y (subst (IsBeginning (side_limit limits side)) (ap (λ z. rest side ++ z) e ∙ sym (append_assoc (rest side) x y)) begin))

  pub whole_on : (rest' : Side → List ℕ) → rest' side ≡ [] → rest' (other_side side) ≡ rest (other_side side) → (p : List ℕ) → length p ≤ side_limit limits side → rest side ++ bs ≡ frame p → AreFrames limits (h ++ on side bs) (came ++ (side, p) ∷ []) rest'
  whole_on rest' none stays p fits is =
      let limit = side_limit limits side in
      let came' = came ++ (side, p) ∷ [] in
      order_on ((side, p) ∷ []) came' refl rest' (payloads-other side came p) stays
      (subst (IsCutOn limits (h ++ on side bs) came' side) (sym none) (recut limit (bytes_more side h bs) (payloads-same side came p) (goes_whole limit (rest side) bs (side_bytes side h) (payloads side came) p (o.cut side) is fits)))
      (λ x y e some. frame_front limit (rest side ++ x) y some (p, append_assoc (rest side) x y ∙ ap (λ z. rest side ++ z) (sym e) ∙ is, fits))
