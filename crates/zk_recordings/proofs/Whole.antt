-- A piece that is whole at the front of a block: two steps of the reader.
use Rattle.std.proofs.Common.{◌≡◌, ℕ, ◌+◌, ◌-◌, List, [], ◌++◌, length, take, drop, None, Some, refl, sym, ap, ◌∙◌, subst, arith, length-take}
use Rattle.std.proofs.{lemmas.List.length-drop, lemmas.Option.none-some}
use Rattle.zk_recordings.specs.{declared.heads.PieceHead.PieceHead, declared.heads.WholePiece.WholePiece, declared.parts.Part.TheVariants.SideByte, Reader.Content, Reader.Fixed, Reader.ReaderState, Heads.PassesHead}
use Rattle.zk_recordings.specs.Recording.{Cut, InPieces, Recording, Breaks, place_of, no_time, nothing}
use Rattle.zk_recordings.specs.Pieces.{IsHeadIn, IsPieceIn, ReadsPiece}
use Rattle.zk_recordings.specs.Reading.{HasHead, HasHeadAt, AtFixed, AtStage, IsAt, IsDecidedBy, IsSound, IsSoundAt, IsBetweenOf, IsNeverBetween, IsUndamaged, ReadsOn, format_at, then_at}
use Rattle.zk_recordings.proofs.{Passing.passes-head, Stages.content-whole, Stages.has-same, Stages.short-only}

-- ---- the head

abbrev pub passed : ReaderState → PieceHead → ReaderState
passed s head = record s { at = s.at + head.used; side = head.side; size = head.size; stage = Content 0 }

pub head-passes : (s : ReaderState) (block : List ℕ) (head : PieceHead) → IsHeadIn s.format block head → PassesHead s block head.used (passed s head)
head-passes s block head h = record {
  side = head.side;
  at = h.at;
  named = h.named;
  time = h.time;
  size = h.good;
  behind_size = h.behind_size;
  within = h.within;
  is = ap (λ n. record s { at = s.at + head.used; side = head.side; size = n; stage = Content 0 }) h.value;
}

-- ---- what `between` and `damage` say

-- a piece may begin
module _ (s : ReaderState) (bytes : List ℕ) (stage : s.stage ≡ Fixed SideByte bytes 0) where
  fixed-here : (x : List ℕ) (r : Recording) → IsAt s x r → AtFixed s SideByte bytes 0 r
  fixed-here x r i = subst (λ q. AtStage s q x r) stage i.stands

  is-between : IsBetweenOf s s.format
  is-between x r i =
      let a = (fixed-here x r i).part_at in
      let w = a.knows.0 in
      let place = InPieces w.head w.pieces in
      let same : r ≡ Breaks place nothing =
      a.is ∙ ap (λ q. Breaks q (record { before = a.before; part = SideByte; end = Cut [] })) w.is ∙ ap (λ b. Breaks place (record { before = b; part = SideByte; end = Cut [] })) a.knows.1 in
      let head : HasHead s w.head = subst (λ q. HasHeadAt s (place_of q)) same i.has in
      ((w.head, w.pieces, same), ap (λ q. format_at (place_of q)) same ∙ ap Some (sym head.format_is))

  pub is-undamaged : IsUndamaged s
  is-undamaged x r d i b = none-some d (subst (IsDecidedBy d x) (fixed-here x r i).part_at.is b).damage

module _ (s : ReaderState) (got : ℕ) (stage : s.stage ≡ Content got) where
  never-between : IsNeverBetween s
  never-between x r i b =
      let c = subst (λ q. AtStage s q x r) stage i.stands in
      let e = sym c.is ∙ b.2 in
      cc

  pub never-damaged : IsUndamaged s
  never-damaged x r d i b = let here = subst (IsDecidedBy d x) (subst (λ q. AtStage s q x r) stage i.stands).is b in short-only _ d here.damage here.decided

-- ---- both steps

-- which piece was the last is of no account
same-piece : (u v : ReaderState) (bytes x : List ℕ) (r : Recording) → u.stage ≡ Fixed SideByte no_time 0 → v.stage ≡ Fixed SideByte bytes 0 → length bytes ≡ 8 → v.at ≡ u.at →
    v.format ≡ u.format → v.limits ≡ u.limits → IsAt u x r → IsAt v x r
same-piece u v bytes x r us vs eight at' format limits i =
    let a = (fixed-here u no_time us x r i).part_at in
    record {
      spells = i.spells;
      has = has-same u v (place_of r) format limits i.has;
      stands = subst (λ q. AtStage v q x r) (sym vs) (record { eight = eight; part_at = record { place = a.place; before = a.before; is = a.is; at = at' ∙ a.at; knows = a.knows } });
    }

module _ (s : ReaderState) (block : List ℕ) (p : WholePiece) (i : IsPieceIn s.format block p) (bytes : List ℕ) (got : ℕ) (stage : s.stage ≡ Fixed SideByte bytes got) (sound : IsSound s) where
  abbrev pub behind : ReaderState
  behind = record s { at = s.at + p.used }

  none-got : got ≡ 0
  none-got = let f = subst (IsSoundAt s) stage sound in omega (arith, f.0)

  eight : length bytes ≡ 8
  eight = (subst (IsSoundAt s) stage sound).1

  begun : s.stage ≡ Fixed SideByte bytes 0
  begun = stage ∙ ap (Fixed SideByte bytes) none-got

  abbrev content : List ℕ
  content = take (p.used - p.head) (drop p.head block)

  begins : (x : List ℕ) (r : Recording) → IsAt s x r → ReadsOn (passed s i.head) x r (take p.head block) None
  begins x r is = subst (λ n. ReadsOn (passed s i.head) x r (take n block) None) (sym i.behind_head)
      (passes-head s block i.head.used (passed s i.head) (head-passes s block i.head i.begins) bytes x r is.spells is.has (fixed-here s bytes begun x r is))

  ends : (x : List ℕ) (r : Recording) → IsAt (passed s i.head) x r → ReadsOn behind x r content (Some p.side)
  ends x r is =
      let t = passed s i.head in
      let all : 0 + length content ≡ t.size = omega (arith, length-take (p.used - p.head) (drop p.head block), length-drop p.head block, i.behind_head, i.behind_content, i.within) in
      let o = content-whole t 0 x content r is.spells is.has is.stands all in
      let place : behind.at ≡ t.at + t.size = omega (arith, i.behind_content) in
      subst (λ z. ReadsOn behind x r content (Some z)) (sym i.side) (record {
        new = o.new;
        is = same-piece (then_at t SideByte t.size) behind bytes (x ++ content) o.new refl begun eight place refl refl o.is;
        goes_on = o.goes_on;
      })

  pub reads-piece : ReadsPiece s (take p.head block) content p.side behind
  reads-piece = record {
    format = s.format;
    before = is-between s bytes begun;
    within = passed s i.head;
    begins = begins;
    apart = never-between (passed s i.head) 0 refl;
    good = never-damaged (passed s i.head) 0 refl;
    ends = ends;
    after = is-between behind bytes begun;
    still = is-undamaged behind bytes begun;
  }
