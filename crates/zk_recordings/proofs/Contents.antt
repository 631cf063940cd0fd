-- Within a content.
use Rattle.std.proofs.Common.{◌≡◌, ℕ, ◌+◌, ◌<◌, List, length, subst, arith}
use Rattle.zk_recordings.specs.{declared.parts.Part.TheVariants.SideByte, Reader.Content, Reader.ReaderState, Recording.Recording, Reading.AtContent, Reading.AtStage, Reading.IsAt, Reading.ReadsContent, Reading.then_at}
use Rattle.zk_recordings.proofs.Stages.{content-more, content-whole}

module _ (s : ReaderState) (got : ℕ) (is : s.stage ≡ Content got) (count : ℕ) (bytes : List ℕ) (long : length bytes ≡ count) where
  at-content : (x : List ℕ) (r : Recording) → IsAt s x r → AtContent s got r
  at-content x r i = subst (λ q. AtStage s q x r) is i.stands

  pub takes-more : got + count < s.size → ReadsContent s s.side bytes (record s { stage = Content (got + count) })
  takes-more less =
      subst (λ n. ReadsContent s s.side bytes (record s { stage = Content (got + n) })) long
      (λ x r i. content-more s got x bytes r i.spells i.has (at-content x r i) (omega (arith, less, long)))

  pub takes-whole : got + count ≡ s.size → ReadsContent s s.side bytes (then_at s SideByte s.size)
  takes-whole all = λ x r i. content-whole s got x bytes r i.spells i.has (at-content x r i) (omega (arith, all, long))
