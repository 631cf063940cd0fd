-- What stands in the output stays there, what is spelled stands behind it, and what holds anyway holds where a call goes well.
use Rattle.std.proofs.Common.{◌≡◌, ℕ, ◌≤◌, List, ◌++◌, length, take, Option, Some, None, Result, Ok, Err, OnOk, OnSome, IfNone, ap, ◌∙◌, arith, append_assoc}
use Rattle.std.proofs.lemmas.List.{take-append-le, length-take}
use Rattle.zk_items.specs.Form.{Keeps}

pub keeps_more : (old more new : List ℕ) → new ≡ old ++ more → Keeps old new
keeps_more old more new e front is =
    let short : length front ≤ length old = omega (arith, ap length is, length-take (length front) old) in
    ap (take (length front)) e ∙ take-append-le (length front) old more short ∙ is

pub then_spelled : {A E : Type 0} (r : Result A E) (old mid new first next : List ℕ) → mid ≡ old ++ first → OnOk r (new ≡ mid ++ next) → OnOk r (new ≡ old ++ (first ++ next))
then_spelled (Ok x) old mid new first next e f = f ∙ ap (λ (m : List ℕ). m ++ next) e ∙ append_assoc old first next
then_spelled (Err x) old mid new first next e f = f

pub on_ok : {A E P : Type 0} (r : Result A E) → P → OnOk r P
on_ok (Ok x) p = p
on_ok (Err x) p = tt

pub on_some : {A P Q : Type 0} (r : Option A) → (P → Q) → OnSome r P → OnSome r Q
on_some (Some x) f p = f p
on_some None f p = tt

pub on_none : {A P Q : Type 0} (r : Option A) → (P → Q) → IfNone r P → IfNone r Q
on_none (Some x) f p = tt
on_none None f p = f p

pub on_both : {A P Q R : Type 0} (r : Option A) → (P → Q → R) → OnSome r P → OnSome r Q → OnSome r R
on_both (Some x) f p q = f p q
on_both None f p q = tt

pub on_good : {A E P Q : Type 0} (r : Result A E) → (P → Q) → OnOk r P → OnOk r Q
on_good (Ok x) f p = f p
on_good (Err e) f p = tt
