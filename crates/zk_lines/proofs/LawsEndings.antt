-- The line of an ending is of printed bytes, and begins with a dot.
use Rattle.std.proofs.Common.{◌≡◌, ℕ, List, ◌∷◌, true, refl}
use Rattle.std.specs.Prelude.{codes}
use Rattle.std.specs.Fmt.{signed_decimal, decimal}
use Rattle.zk_jute.specs.{declared.fault.Reason.Reason, Names.reason_name}
use Rattle.zk_jute.specs.declared.fault.Reason.TheVariants as reasons
use Rattle.zk_talk.specs.{declared.message.Side.Side, declared.message.Fault.Fault, declared.message.Ending.Ending}
use Rattle.zk_talk.specs.declared.message.Side.TheVariants as sides
use Rattle.zk_talk.specs.declared.message.Ending.TheVariants as ending
use Rattle.zk_lines.specs.Endings.{side_name, sided, count, order_text, place_text, reason_text, ending_text}
use Rattle.zk_lines.proofs.LawsPrinted.{Printed, are_printed, checked, joined, decimal_printed, number_printed}

side_printed : (s : Side) → Printed (side_name s)
side_printed sides.Client = (refl, tt)
side_printed sides.Server = (refl, tt)

sided_printed : (word : List ℕ) (s : Side) → are_printed word ≡ true → Printed (sided word s)
unfolding sided
sided_printed word s e = joined word (side_name s) (checked word e) (side_printed s)

count_printed : (word : List ℕ) (n : ℕ) → are_printed word ≡ true → Printed (count word n)
unfolding count
count_printed word n e = joined word (decimal n) (checked word e) (decimal_printed n)

reason_checked : (r : Reason) → are_printed (reason_name r) ≡ true
reason_checked reasons.Short = refl
reason_checked _ = refl

order_printed : (r : Reason) → Printed (order_text r)
order_printed (reasons.XidOrder expected got) =
    joined (codes " expected=") _ (checked (codes " expected=") refl) (joined (signed_decimal expected) _ (number_printed expected) (joined (codes " got=") (signed_decimal got) (checked (codes " got=") refl) (number_printed got)))
order_printed _ = tt

place_printed : (f : Fault) → Printed (place_text f)
place_printed f =
    joined (sided (codes ". refused side=") f.side) _ (sided_printed (codes ". refused side=") f.side refl)
    (joined (count (codes " frame=") f.frame) _ (count_printed (codes " frame=") f.frame refl)
    (joined (count (codes " offset=") f.offset) (count (codes " place=") f.place) (count_printed (codes " offset=") f.offset refl) (count_printed (codes " place=") f.place refl)))

pub ending_printed : (e : Ending) → Printed (ending_text e)
ending_printed (ending.Whole unanswered) = count_printed (codes ". whole unanswered=") unanswered refl
ending_printed (ending.Cut side frame got) =
    joined (sided (codes ". cut side=") side) _ (sided_printed (codes ". cut side=") side refl)
    (joined (count (codes " frame=") frame) (count (codes " got=") got) (count_printed (codes " frame=") frame refl) (count_printed (codes " got=") got refl))
ending_printed (ending.Refused f) =
    joined (place_text f) (reason_text f.reason) (place_printed f)
    (joined (codes " reason=") _ (checked (codes " reason=") refl) (joined (reason_name f.reason) (order_text f.reason) (checked (reason_name f.reason) (reason_checked f.reason)) (order_printed f.reason)))

-- an ending's line begins with a dot
pub ending_dotted : (e : Ending) → (rest : List ℕ) × (ending_text e ≡ 46 ∷ rest)
unfolding sided count
ending_dotted (ending.Whole unanswered) = (_, refl)
ending_dotted (ending.Cut side frame got) = (_, refl)
ending_dotted (ending.Refused f) = (_, refl)
