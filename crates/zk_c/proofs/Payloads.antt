-- The payload that a passage writes: of what was left out, or of the message that is shown.
use Rattle.std.proofs.Common.{◌≡◌, ◌∙◌, ℕ, List, [], sym, true, false}
use Rattle.std.proofs.lemmas.Bool.{false≢true}
use Rattle.zk_frames.specs.Framing.{frame}
use Rattle.zk_talk.specs.declared.message.Side.{Side}
use Rattle.zk_through.specs.Runs.{left_on}
use Rattle.zk_c.specs.{declared.answer.LineAnswer.LineAnswer, Answer.no_line, Handle.TellsText, Handle.IsPayload as IsTalksPayload, Passage.PassageState, Passage.newest_on, PassingOn.IsPayload}
use Rattle.zk_c.proofs.Keeping.{framed_some}

module _ (p : PassageState) (side : Side) (before after : List ℕ) (answer : LineAnswer) where
  pub left_written : (q : List ℕ) → left_on side p.through ≡ frame q → TellsText q before after answer → IsPayload p side before after answer
  left_written q is text = record { left = λ there. (q, is, text); shown = λ none. absurd (framed_some q (left_on side p.through) is none) }

  module _ (none : left_on side p.through ≡ []) where
    pub none_written : newest_on side p ≡ false → answer ≡ no_line 69 → after ≡ before → IsPayload p side before after answer
    none_written old told same = record {
      left = λ there. absurd (there none);
      shown = λ e. record { none = λ n. (told, same); some = λ m shows. absurd (false≢true (sym old ∙ shows.0)) };
    }

    pub shown_written : newest_on side p ≡ true → IsTalksPayload p.through.talk side before after answer → IsPayload p side before after answer
    shown_written newest told = record {
      left = λ there. absurd (there none);
      shown = λ e. record { none = λ n. told.none (n newest); some = λ m shows. told.some m shows.1 };
    }
