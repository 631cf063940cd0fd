-- The whole head of a piece, passed at once.
use Rattle.std.proofs.Common.{◌≡◌, ℕ, ◌+◌, ◌<◌, List, [], ◌∷◌, ◌++◌, length, take, drop, None, true, refl, sym, ap, ◌∙◌, subst, append-nil, arith, length-take}
use Rattle.std.proofs.{lemmas.Bool.Decides.nat_tests, lemmas.List.drop-drop, lemmas.List.length-drop, Math.Seq.take-add}
use Rattle.zk_talk.specs.declared.message.Side.{Side}
use Rattle.zk_talk.specs.declared.message.Side.TheVariants.{Client, Server}
use Rattle.zk_recordings.specs.{declared.parts.Format.Format, declared.parts.Format.TheVariants.Zkr1, declared.parts.Format.TheVariants.Zkr2, Reader.ReaderState, Parts.number, Parts.is_within, Parts.piece_parts}
use Rattle.zk_recordings.specs.declared.parts.Part.TheVariants.{SideByte, Time, Size}
use Rattle.zk_recordings.specs.Recording.{IsValue, AreValues, Cut, format_of, Piece, piece_values, IsTimed, piece_bytes, side_byte, no_time, InPieces, Recording, Breaks, Ends, Spells, place_of, front, behind, nothing}
use Rattle.zk_recordings.specs.{Heads.IsTimeIn, Heads.PassesHead, Reading.HasHeadAt, Reading.HasHead, Reading.AtFixed, Reading.within, Reading.ReadsOn}

-- the time that a piece has, and its size
abbrev time_bytes : Format → List ℕ → List ℕ
time_bytes Zkr1 block = no_time
time_bytes Zkr2 block = take 8 (drop 1 block)

pub size-some : (n : ℕ) → is_within 1 16777220 n ≡ true → 0 < n
size-some n h = grind (arith, nat_tests)

side-good : (side : Side) → IsValue SideByte (side_byte side ∷ [])
side-good Client = record { wide = refl; good = refl }
side-good Server = record { wide = refl; good = refl }

module _ (s : ReaderState) (block : List ℕ) (used : ℕ) (t : ReaderState) (p : PassesHead s block used t) where
  abbrev size : List ℕ
  size = take 4 (drop p.at block)

  abbrev cut : Piece
  cut = record { side = p.side; time = time_bytes s.format block; size = size; content = [] }

  size-good : IsValue Size size
  size-good = record { wide = omega (arith, length-take 4 (drop p.at block), length-drop p.at block, p.behind_size, p.within); good = p.size }

  -- the piece's values are good, and spelled where the block begins
  stands-first : (f : Format) → s.format ≡ f → AreValues (piece_parts f) (piece_values f cut) × IsTimed f cut × (piece_bytes f cut ≡ take used block)
  stands-first Zkr1 e =
      let k : p.at ≡ 1 = subst (λ g. IsTimeIn g block p.at) e p.time in
      let bytes = ap (λ l. side_byte p.side ∷ l) (append-nil size) ∙ ap (λ l. l ++ size) (sym p.named) ∙ ap (λ n. take 1 block ++ take 4 (drop n block)) k ∙ sym (take-add 1 4 block) in
      ((side-good p.side, (size-good, tt)), ap (λ g. time_bytes g block) e, bytes ∙ ap (λ n. take n block) (sym (p.behind_size ∙ ap (λ n. n + 4) k)))
  stands-first Zkr2 e =
      let k = subst (λ g. IsTimeIn g block p.at) e p.time in
      let time = take 8 (drop 1 block) in
      let same : cut.time ≡ time = ap (λ g. time_bytes g block) e in
      let wide : length time ≡ 8 = omega (arith, length-take 8 (drop 1 block), length-drop 1 block, k.0, p.behind_size, p.within) in
      let bytes =
      ap (λ l. side_byte p.side ∷ (cut.time ++ l)) (append-nil size)
      ∙ ap (λ l. side_byte p.side ∷ (l ++ size)) same
      ∙ ap (λ l. l ++ (time ++ size)) (sym p.named)
      ∙ ap (λ n. take 1 block ++ (time ++ take 4 (drop n block))) k.0
      ∙ ap (λ l. take 1 block ++ (time ++ take 4 l)) (sym (drop-drop 8 1 block))
      ∙ ap (λ l. take 1 block ++ l) (sym (take-add 8 4 (drop 1 block)))
      ∙ sym (take-add 1 12 block) in (
        (side-good p.side, (subst (IsValue Time) (sym same) (record { wide = wide; good = k.1 }), (size-good, tt))),
        tt,
        bytes ∙ ap (λ n. take n block) (sym (p.behind_size ∙ ap (λ n. n + 4) k.0)),
      )

  pub passes-head : (bytes x : List ℕ) (r : Recording) → Spells x r → HasHeadAt s (place_of r) → AtFixed s SideByte bytes 0 r → ReadsOn t x r (take used block) None
  passes-head bytes x r i has a =
      let stood = a.part_at in
      let w = stood.knows.0 in
      let place = InPieces w.head w.pieces in
      let same : r ≡ Breaks place nothing =
      stood.is ∙ ap (λ q. Breaks q (record { before = stood.before; part = SideByte; end = Cut [] })) w.is ∙ ap (λ b. Breaks place (record { before = b; part = SideByte; end = Cut [] })) stood.knows.1 in
      let begun : s.at ≡ behind place [] = stood.at ∙ ap (λ q. behind q stood.before) w.is ∙ ap (behind place) stood.knows.1 in
      let j = subst (Spells x) same i in
      let head : HasHead s w.head = subst (λ q. HasHeadAt s (place_of q)) same has in
      let all = stands-first (format_of w.head) head.format_is in
      subst (λ q. ReadsOn t x q (take used block) None) (sym same) (subst (λ u. ReadsOn u x (Breaks place nothing) (take used block) None) (sym p.is) (record {
        new = Ends w.head w.pieces cut;
        is = record {
          spells = record {
            sound = record { stands = j.sound.stands; cut = record { begun = record { values = all.0; timed = all.1 }; short = size-some (number size) p.size } };
            is = ap (λ l. l ++ take used block) (j.is ∙ append-nil (front place)) ∙ ap (λ l. front place ++ l) (sym all.2);
          };
          has = record { format_is = head.format_is; limits_are = head.limits_are };
          stands = record {
            head = w.head;
            pieces = w.pieces;
            cut = cut;
            is = refl;
            at = omega (arith, begun, ap length all.2, length-take used block, p.within);
            side = refl;
            size = refl;
            count = refl;
          };
        };
        goes_on = within refl all.2 refl tt;
      }))
