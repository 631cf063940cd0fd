-- The line of an ending.
use Rattle.std.specs.Prelude.{◌≡◌, ℕ, ℤ, ◌<◌, ◌^◌, List, [], ◌++◌, codes}
use Rattle.std.specs.Fmt.{signed_decimal, decimal}
use Rattle.zk_jute.specs.{declared.fault.Reason.Reason, Names.reason_name}
use Rattle.zk_jute.specs.declared.fault.Reason.TheVariants as reasons
use Rattle.zk_items.specs.Leaf.{int}
use Rattle.zk_talk.specs.{declared.message.Side.Side, declared.message.Fault.Fault, declared.message.Ending.Ending}
use Rattle.zk_talk.specs.declared.message.Side.TheVariants as sides
use Rattle.zk_talk.specs.declared.message.Ending.TheVariants as ending

abbrev pub side_name : Side → List ℕ
side_name sides.Client = codes "C"
side_name sides.Server = codes "S"

-- the two xids of an order that isn't kept
abbrev pub order_text : Reason → List ℕ
order_text (reasons.XidOrder expected got) = codes " expected=" ++ (signed_decimal expected ++ (codes " got=" ++ signed_decimal got))
order_text reasons.Short = []
order_text reasons.BadBool = []
order_text reasons.BadLength = []
order_text reasons.BadText = []
order_text reasons.NoMemory = []
order_text reasons.Trailing = []
order_text reasons.UnknownOp = []
order_text reasons.XidOp = []
order_text reasons.BadPart = []
order_text reasons.EventErr = []
order_text reasons.LengthRange = []
order_text reasons.QueueFull = []
order_text reasons.Unasked = []
order_text reasons.StreamEnd = []

-- a word and a side after it
unfoldable pub sided : List ℕ → Side → List ℕ
sided word side = word ++ side_name side

-- a word and a number after it
unfoldable pub count : List ℕ → ℕ → List ℕ
count word n = word ++ decimal n

abbrev pub place_text : Fault → List ℕ
place_text f = sided (codes ". refused side=") f.side ++
    (count (codes " frame=") f.frame ++ (count (codes " offset=") f.offset ++ count (codes " place=") f.place))

abbrev pub reason_text : Reason → List ℕ
reason_text r = codes " reason=" ++ (reason_name r ++ order_text r)

abbrev pub ending_text : Ending → List ℕ
ending_text (ending.Whole unanswered) = count (codes ". whole unanswered=") unanswered
ending_text (ending.Cut side frame got) = sided (codes ". cut side=") side ++ (count (codes " frame=") frame ++ count (codes " got=") got)
ending_text (ending.Refused f) = place_text f ++ reason_text f.reason

-- ---- the endings that a program can hold: numbers of their types

abbrev pub ReasonFits : Reason → Type 0
ReasonFits reason = (expected got : ℤ) → reason ≡ reasons.XidOrder expected got → int.fits expected × int.fits got

abbrev pub EndingFits : Ending → Type 0
EndingFits (ending.Whole unanswered) = unanswered < 2 ^ 64
EndingFits (ending.Cut side frame got) = (frame < 2 ^ 64) × (got < 2 ^ 64)
EndingFits (ending.Refused f) = (f.frame < 2 ^ 64) × (f.offset < 2 ^ 64) × (f.place < 2 ^ 64) × ReasonFits f.reason
