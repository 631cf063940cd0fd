-- Bytes are one recording at most: the one that is read from them.
use Rattle.std.proofs.Common.{◌≡◌, ℕ, ◌<◌, ◌≤◌, zero, suc, List, [], ◌∷◌, ◌++◌, length, take, drop, cond, nat_lt, refl, sym, ◌∙◌, ap, append_assoc, append-nil, arith, length-append}
use Rattle.std.specs.{List.All, List.flat_map, Str.bytes_eq}
use Rattle.std.proofs.{lemmas.List.Elements.All-head, lemmas.List.Elements.All-tail, Math.Seq.take-append_seam, Math.Seq.drop-append_seam}
use Rattle.zk_talk.specs.declared.message.Side.{Side}
use Rattle.zk_talk.specs.declared.message.Side.TheVariants.{Client, Server}
use Rattle.zk_recordings.specs.{declared.parts.Format.Format, declared.parts.Format.TheVariants.Zkr1, declared.parts.Format.TheVariants.Zkr2, declared.parts.Part.TheVariants.Letters}
use Rattle.zk_recordings.specs.Parts.{letters, number, head_parts, piece_parts}
use Rattle.zk_recordings.specs.Recording.{AreValues, spelled, Break, IsBreak, break_bytes, Head, First, Second, format_of, IsHead, head_bytes, Piece, piece_values, IsTimed, IsPiece, IsCut, piece_bytes, no_time, side_byte, AtLetters, InHead, InPieces, front, Recording, Breaks, Ends, Spells, nothing}
use Rattle.zk_recordings.proofs.Walks.{Walk, Walked, Broke, walk, walk-values, walk-break, spelled-append, cond-true, cond-false, lt-true, lt-false}

abbrev pub with_content : Piece → List ℕ → Piece
with_content p content = record { side = p.side; time = p.time; size = p.size; content = content }

abbrev pub side_in : List ℕ → Side
side_in b = cond (bytes_eq b (67 ∷ [])) Client Server

abbrev pub bare : Side → List ℕ → List ℕ → Piece
bare side time size = record { side = side; time = time; size = size; content = [] }

-- the piece of these values
abbrev pub piece_with : Format → List (List ℕ) → Piece
piece_with Zkr1 [] = bare Client [] []
piece_with Zkr1 (b ∷ []) = bare Client [] []
piece_with Zkr1 (b ∷ size ∷ more) = bare (side_in b) no_time size
piece_with Zkr2 [] = bare Client [] []
piece_with Zkr2 (b ∷ []) = bare Client [] []
piece_with Zkr2 (b ∷ time ∷ []) = bare Client [] []
piece_with Zkr2 (b ∷ time ∷ size ∷ more) = bare (side_in b) time size

abbrev pub sized : Head → List Piece → (List Piece → List ℕ → Recording) → Piece → List ℕ → Recording
sized head pieces next p rest = cond (nat_lt (length rest) (number p.size)) (Ends head pieces (with_content p rest))
    (next (pieces ++ with_content p (take (number p.size) rest) ∷ []) (drop (number p.size) rest))

abbrev pub choose : Head → List Piece → (List Piece → List ℕ → Recording) → Walk → Recording
choose head pieces next (Broke b) = Breaks (InPieces head pieces) b
choose head pieces next (Walked values rest) = sized head pieces next (piece_with (format_of head) values) rest

-- the recording of a head, pieces, and bytes behind them
abbrev pub parse : ℕ → Head → List Piece → List ℕ → Recording
parse zero head pieces bytes = Breaks (InPieces head pieces) nothing
parse (suc n) head pieces bytes = choose head pieces (λ more rest. parse n head more rest) (walk (piece_parts (format_of head)) bytes)

abbrev pub parse_all : Head → List ℕ → Recording
parse_all head bytes = parse (suc (length bytes)) head [] bytes

abbrev pub behind_numbers : Walk → Recording
behind_numbers (Broke b) = Breaks (InHead Zkr2) b
behind_numbers (Walked [] rest) = Breaks AtLetters nothing
behind_numbers (Walked (c ∷ []) rest) = Breaks AtLetters nothing
behind_numbers (Walked (c ∷ s ∷ []) rest) = Breaks AtLetters nothing
behind_numbers (Walked (c ∷ s ∷ w ∷ []) rest) = Breaks AtLetters nothing
behind_numbers (Walked (c ∷ s ∷ w ∷ p ∷ more) rest) = parse_all (Second c s w p) rest

abbrev pub behind_letters : Walk → Recording
behind_letters (Broke b) = Breaks AtLetters b
behind_letters (Walked [] rest) = Breaks AtLetters nothing
behind_letters (Walked (v ∷ more) rest) = cond (bytes_eq v (letters Zkr1)) (parse_all First rest) (behind_numbers (walk (head_parts Zkr2) rest))

abbrev pub recorded : List ℕ → Recording
recorded x = behind_letters (walk (Letters ∷ []) x)

-- ---- what is spelled is read

side-again : (side : Side) → side_in (side_byte side ∷ []) ≡ side
side-again Client = refl
side-again Server = refl

piece-again : (format : Format) (p : Piece) → IsTimed format p → piece_with format (piece_values format p) ≡ bare p.side p.time p.size
piece-again Zkr1 p timed = ap (λ s. bare s no_time p.size) (side-again p.side) ∙ ap (λ t. bare p.side t p.size) (sym timed)
piece-again Zkr2 p timed = ap (λ s. bare s p.time p.size) (side-again p.side)

parse-break : (n : ℕ) (head : Head) (ps : List Piece) (b : Break) → IsBreak (piece_parts (format_of head)) b → parse (suc n) head ps (break_bytes b) ≡ Breaks (InPieces head ps) b
parse-break n head ps b is = ap (choose head ps (λ more rest. parse n head more rest)) (walk-break _ b is)

module _ (n : ℕ) (head : Head) (ps : List Piece) (p : Piece) where
  abbrev next : List Piece → List ℕ → Recording
  next more rest = parse n head more rest

  parse-values : (rest : List ℕ) → AreValues (piece_parts (format_of head)) (piece_values (format_of head) p) → IsTimed (format_of head) p →
      parse (suc n) head ps (spelled (piece_values (format_of head) p) rest) ≡ sized head ps next (bare p.side p.time p.size) rest
  parse-values rest are timed =
      ap (choose head ps next) (walk-values _ _ rest are) ∙ ap (λ q. sized head ps next q rest) (piece-again (format_of head) p timed)

  parse-cut : IsCut (format_of head) p → parse (suc n) head ps (piece_bytes (format_of head) p) ≡ Ends head ps p
  parse-cut is = parse-values p.content is.begun.values is.begun.timed ∙ cond-true _ _ _ (lt-true _ _ is.short)

  parse-piece : (rest : List ℕ) → IsPiece (format_of head) p → parse (suc n) head ps (piece_bytes (format_of head) p ++ rest) ≡ parse n head (ps ++ p ∷ []) rest
  parse-piece rest is =
      let enough : number p.size ≤ length (p.content ++ rest) = omega (arith, is.sized, length-append p.content rest) in
      ap (parse (suc n) head ps) (spelled-append (piece_values (format_of head) p) p.content rest)
      ∙ parse-values (p.content ++ rest) is.begun.values is.begun.timed
      ∙ cond-false _ _ _ (lt-false _ _ enough)
      ∙ ap (λ k. next (ps ++ with_content p (take k (p.content ++ rest)) ∷ []) (drop k (p.content ++ rest))) is.sized
      ∙ ap (λ c. next (ps ++ with_content p c ∷ []) (drop (length p.content) (p.content ++ rest))) (take-append_seam p.content rest)
      ∙ ap (next (ps ++ p ∷ [])) (drop-append_seam p.content rest)

parse-pieces : (qs : List Piece) (n : ℕ) (head : Head) (ps : List Piece) (end : List ℕ) (r : Recording) → length qs < n → All (IsPiece (format_of head)) qs →
    ((k : ℕ) → parse (suc k) head (ps ++ qs) end ≡ r) → parse n head ps (flat_map (piece_bytes (format_of head)) qs ++ end) ≡ r
parse-pieces [] zero head ps end r less each h = absurd (omega arith)
parse-pieces [] (suc n) head ps end r less each h = ap (λ l. parse (suc n) head l end) (sym (append-nil ps)) ∙ h n
parse-pieces (q ∷ qs) zero head ps end r less each h = absurd (omega arith)
parse-pieces (q ∷ qs) (suc n) head ps end r less each h =
    let f = format_of head in
    ap (parse (suc n) head ps) (append_assoc (piece_bytes f q) (flat_map (piece_bytes f) qs) end)
    ∙ parse-piece n head ps q (flat_map (piece_bytes f) qs ++ end) (All-head (IsPiece f) q qs each)
    ∙ parse-pieces qs n head (ps ++ q ∷ []) end r (omega (arith, less)) (All-tail (IsPiece f) q qs each)
    (λ k. ap (λ l. parse (suc k) head l end) (append_assoc ps (q ∷ []) qs) ∙ h k)

pub piece-some : (f : Format) (p : Piece) → 1 ≤ length (piece_bytes f p)
piece-some Zkr1 p = omega arith
piece-some Zkr2 p = omega arith

pieces-some : (f : Format) (ps : List Piece) → length ps ≤ length (flat_map (piece_bytes f) ps)
pieces-some f [] = omega arith
pieces-some f (p ∷ ps) = omega (arith, piece-some f p, pieces-some f ps, length-append (piece_bytes f p) (flat_map (piece_bytes f) ps))

walk-letters : (f : Format) (rest : List ℕ) → walk (Letters ∷ []) (letters f ++ rest) ≡ Walked (letters f ∷ []) rest
walk-letters Zkr1 rest = walk-values (Letters ∷ []) (letters Zkr1 ∷ []) rest (record { wide = refl; good = refl }, tt)
walk-letters Zkr2 rest = walk-values (Letters ∷ []) (letters Zkr2 ∷ []) rest (record { wide = refl; good = refl }, tt)

parse-head : (head : Head) (rest : List ℕ) → IsHead head → recorded (head_bytes head ++ rest) ≡ parse_all head rest
parse-head First rest is = ap behind_letters (walk-letters Zkr1 rest)
parse-head (Second c s w p) rest is =
    ap recorded (append_assoc (letters Zkr2) (spelled (c ∷ s ∷ w ∷ p ∷ []) []) rest)
    ∙ ap behind_letters (walk-letters Zkr2 (spelled (c ∷ s ∷ w ∷ p ∷ []) [] ++ rest))
    ∙ ap (λ l. behind_numbers (walk (head_parts Zkr2) l)) (spelled-append (c ∷ s ∷ w ∷ p ∷ []) [] rest)
    ∙ ap behind_numbers (walk-values (head_parts Zkr2) (c ∷ s ∷ w ∷ p ∷ []) rest is)

-- a head, pieces and what follows them
parse-in : (head : Head) (ps : List Piece) (end : List ℕ) (r : Recording) → IsHead head → All (IsPiece (format_of head)) ps →
    ((k : ℕ) → parse (suc k) head ps end ≡ r) → recorded (front (InPieces head ps) ++ end) ≡ r
parse-in head ps end r is each h =
    let all = flat_map (piece_bytes (format_of head)) ps in
    ap recorded (append_assoc (head_bytes head) all end)
    ∙ parse-head head (all ++ end) is
    ∙ parse-pieces ps (suc (length (all ++ end))) head [] end r (omega (arith, pieces-some (format_of head) ps, length-append all end)) each h

read-again : (r : Recording) (x : List ℕ) → Spells x r → recorded x ≡ r
read-again (Breaks AtLetters b) x i = ap recorded i.is ∙ ap behind_letters (walk-break (Letters ∷ []) b i.sound.breaks)
read-again (Breaks (InHead Zkr1) b) x i = absurd i.sound.breaks
read-again (Breaks (InHead Zkr2) b) x i = ap recorded i.is ∙ ap behind_letters (walk-letters Zkr2 (break_bytes b)) ∙ ap behind_numbers (walk-break (head_parts Zkr2) b i.sound.breaks)
read-again (Breaks (InPieces head ps) b) x i = ap recorded i.is
    ∙ parse-in head ps (break_bytes b) (Breaks (InPieces head ps) b) i.sound.stands.headed i.sound.stands.each (λ k. parse-break k head ps b i.sound.breaks)
read-again (Ends head ps cut) x i = ap recorded i.is
    ∙ parse-in head ps (piece_bytes (format_of head) cut) (Ends head ps cut) i.sound.stands.headed i.sound.stands.each (λ k. parse-cut k head ps cut i.sound.cut)

pub spells-once : (x : List ℕ) (r s : Recording) → Spells x r → Spells x s → s ≡ r
spells-once x r s i j = sym (read-again s x j) ∙ read-again r x i
